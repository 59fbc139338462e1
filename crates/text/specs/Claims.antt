-- What the definitions of text are held to: UTF-8 by the Unicode Standard's bit distribution, trimming by its White_Space, comparing as an
-- order, and what `walk` and `scan` do, so that nobody has to believe their text. Theorems proves each record. Assumes nothing.
use Rattle.std.specs.Prelude.{◌≡◌, true, false, List, [], ◌∷◌, ◌++◌, ℕ, suc, ◌+◌, ◌<◌, ◌≤◌, length, drop}
use Rattle.text.specs.Walk.{Turn, stop, go, walk}
use Rattle.text.specs.Scan.{scan}
use Rattle.text.specs.Encode.{Scalar, Scalars, encode, encode_all, drop_start, drop_end}
use Rattle.text.specs.Utf8.{up_to}
use Rattle.text.specs.Ranges.{ascending}
use Rattle.text.specs.White.{whites, is_white}
use Rattle.text.specs.Trim.{trim_of, trim_start, trim_end}
use Rattle.text.specs.Order.{cmp_bytes, flip}
use Rattle.std.specs.declared.cmp.Ordering.TheVariants.{Less, Equal}

-- the bytes are the encoding of scalar values
pub record Decoded (s : List ℕ) : Type 0 where
  pub points : List ℕ
  pub scalars : Scalars points
  pub bytes : encode_all points ≡ s

pub record Utf8Claims : Type 0 where
  -- The encoding of any scalar values is well formed,
  pub well-formed : {cs : List ℕ} → Scalars cs → up_to (encode_all cs) ≡ length (encode_all cs)
  -- whatever is well formed is such an encoding,
  pub decoded : (s : List ℕ) → up_to s ≡ length s → Decoded s
  -- and of one list of scalar values alone.
  pub encoded-once : {cs ds : List ℕ} → Scalars cs → Scalars ds → encode_all cs ≡ encode_all ds → cs ≡ ds

-- a White_Space character is encoded at the front; at the end
pub record AtFront (s : List ℕ) : Type 0 where
  pub code : ℕ
  pub rest : List ℕ
  pub scalar : Scalar code
  pub white : is_white code ≡ true
  pub whole : s ≡ encode code ++ rest

pub record AtEnd (s : List ℕ) : Type 0 where
  pub code : ℕ
  pub rest : List ℕ
  pub scalar : Scalar code
  pub white : is_white code ≡ true
  pub whole : s ≡ rest ++ encode code

pub record TrimClaims : Type 0 where
  -- Trimming the bytes of a text is trimming its code points.
  pub trim-encode : {cs : List ℕ} → Scalars cs → trim_of (encode_all cs) ≡ encode_all (drop_end is_white (drop_start is_white cs))
  -- Of any bytes, well formed or not: White_Space that is encoded at the front goes, any other character stays,
  pub front-white : (c : ℕ) (s : List ℕ) → Scalar c → is_white c ≡ true → trim_start (encode c ++ s) ≡ length (encode c) + trim_start s
  pub front-other : (c : ℕ) (s : List ℕ) → Scalar c → is_white c ≡ false → trim_start (encode c ++ s) ≡ 0
  -- and nothing else goes.
  pub front-only : (s : List ℕ) → 0 < trim_start s → AtFront s
  -- And so at the end.
  pub back-white : (s : List ℕ) (c : ℕ) → Scalar c → is_white c ≡ true → trim_end (s ++ encode c) ≡ trim_end s
  pub back-other : (s : List ℕ) (c : ℕ) → Scalar c → is_white c ≡ false → trim_end (s ++ encode c) ≡ length (s ++ encode c)
  pub back-only : (s : List ℕ) → trim_end s < length s → AtEnd s

-- The printed list ascends and its ranges lie apart, so that a code point is in one of them at most and their order cannot matter.
abbrev pub WhitePrinted : Type 0
WhitePrinted = ascending 0 whites ≡ true

-- Comparing is a total order of texts, equal for equal texts alone.
pub record OrderClaims : Type 0 where
  pub cmp-refl : (s : List ℕ) → cmp_bytes s s ≡ Equal
  pub cmp-flip : (s t : List ℕ) → cmp_bytes t s ≡ flip (cmp_bytes s t)
  pub cmp-equal : (s t : List ℕ) → cmp_bytes s t ≡ Equal → s ≡ t
  pub cmp-trans : (s t u : List ℕ) → cmp_bytes s t ≡ Less → cmp_bytes t u ≡ Less → cmp_bytes s u ≡ Less

-- What a walk answers: where nothing is left, what `done` says; where the step stops, that; else what the walk from after the step answers.
pub record WalkUnfolds {S R : Type 0} (f : S → ℕ → List ℕ → Turn S R) (done : S → ℕ → R) : Type 0 where
  pub walk_ends : (st : S) (at : ℕ) → walk f done st at 0 [] ≡ done st at
  pub walk-stops : (st : S) (at x : ℕ) (s : List ℕ) (r : R) → f st at (x ∷ s) ≡ stop r → walk f done st at 0 (x ∷ s) ≡ r
  pub walk-goes : (st st' : S) (at x k : ℕ) (s : List ℕ) → f st at (x ∷ s) ≡ go st' k → k ≤ length s
      → walk f done st at 0 (x ∷ s) ≡ walk f done st' (at + suc k) 0 (drop k s)

-- How far a scan goes: nowhere without a step; else past the step, and on from there.
pub record ScanUnfolds (f : List ℕ → ℕ) : Type 0 where
  pub scan-ends : scan f 0 [] ≡ 0
  pub scan-stops : (s : List ℕ) → f s ≡ 0 → scan f 0 s ≡ 0
  pub scan-goes : (s : List ℕ) (k : ℕ) → f s ≡ suc k → suc k ≤ length s → scan f 0 s ≡ suc k + scan f 0 (drop (suc k) s)
