-- The claims of specs/Claims. Assumes nothing.
use mathlib.Core.Path.{◌≡◌, refl, ◌∙◌}
use mathlib.Core.List.{List, [], ◌∷◌}
use Prim.Native.Nat.{ℕ, suc, ◌+◌, ◌≤◌}
use native.Mathlib.Nat.{suc-add, add-suc}
use lib.ListN.{length, drop}
use Rattle.text.specs.Walk.{Turn, stop, go, walk}
use Rattle.text.specs.Scan.{scan}
use Rattle.text.specs.Ranges.{ascending}
use Rattle.text.specs.White.{whites}
use Rattle.text.specs.Claims.{WhitePrinted, Utf8Claims, TrimClaims, OrderClaims, WalkUnfolds, ScanUnfolds}
use Rattle.text.proofs.Laws.{scan-zero, scan-cons}
use Rattle.text.proofs.WalkLaws.{walk-skip}
use Rattle.text.proofs.EncodeLaws.{well-formed}
use Rattle.text.proofs.DecodeLaws.{decoded, encoded-once}
use Rattle.text.proofs.PointLaws.{trim-encode}
use Rattle.text.proofs.EdgeLaws.{front-white, front-other, front-only, back-white, back-other, back-only}
use Rattle.text.proofs.OrderLaws.{cmp-refl, cmp-flip, cmp-equal, cmp-trans}

pub utf8-claims : Utf8Claims
utf8-claims = record { well-formed = well-formed; decoded = decoded; encoded-once = encoded-once }

pub trim-claims : TrimClaims
trim-claims =
    record {
      trim-encode = trim-encode;
      front-white = front-white;
      front-other = front-other;
      front-only = front-only;
      back-white = back-white;
      back-other = back-other;
      back-only = back-only;
    }

pub white-printed : WhitePrinted
unfolding ascending whites
white-printed = refl

pub order-claims : OrderClaims
order-claims = record { cmp-refl = cmp-refl; cmp-flip = cmp-flip; cmp-equal = cmp-equal; cmp-trans = cmp-trans }

module _ {S R : Type 0} (f : S → ℕ → List ℕ → Turn S R) (done : S → ℕ → R) where
  ends : (st : S) (at : ℕ) → walk f done st at 0 [] ≡ done st at
  unfolding walk
  ends st at = refl

  stops : (st : S) (at x : ℕ) (s : List ℕ) (r : R) → f st at (x ∷ s) ≡ stop r → walk f done st at 0 (x ∷ s) ≡ r
  unfolding walk
  stops st at x s r e = rw (e, walk)

  goes : (st st' : S) (at x k : ℕ) (s : List ℕ) → f st at (x ∷ s) ≡ go st' k → k ≤ length s
      → walk f done st at 0 (x ∷ s) ≡ walk f done st' (at + suc k) 0 (drop k s)
  unfolding walk
  goes st st' at x k s e h = rw (e, walk) (walk-skip f done st' (suc at) k s h ∙ rw (suc-add at k, add-suc at k))

  pub walk-unfolds : WalkUnfolds f done
  walk-unfolds = record { walk_ends = ends; walk-stops = stops; walk-goes = goes }

scan-nothing : (f : List ℕ → ℕ) → scan f 0 [] ≡ 0
unfolding scan
scan-nothing f = refl

pub scan-unfolds : (f : List ℕ → ℕ) → ScanUnfolds f
scan-unfolds f = record { scan-ends = scan-nothing f; scan-stops = scan-zero f; scan-goes = scan-cons f }
