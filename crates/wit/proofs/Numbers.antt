-- The numbers with which a manifest is refused: 14 and 4 of the text, 6 and 9 to 12 of a line, 13. What holds of these holds of the number
-- of any refusal. Assumes nothing.
use Rattle.std.specs.Prelude.{Option, Some, None, is_some}
use Prim.Native.Nat.{ℕ}
use lib.Dec.{eqb, ltb}
use lib.ListN.{length}
use mathlib.Core.List.{List}
use Rattle.refusal.specs.Sizes.{text_limit}
use Rattle.refusal.specs.Said.{offset, spot}
use Rattle.refusal.specs.declared.Part.{Part}
use Rattle.text.specs.Utf8.{up_to}
use Rattle.text.specs.Whole.{whole_text}
use Rattle.table.specs.Shape.{capacity_in}
use Rattle.table.specs.Walking.{walk_from}
use Rattle.table.proofs.Numbers.{Numbers, fine, off, choice, follows, chain, walks_from}
use Rattle.wit.specs.Line.{manifest_directive}
use Rattle.wit.specs.Manifest.{State, ManifestSizes, start, shut_at, close_at, open_at, refer_at, obey_at, line_piece, line_at}
use Rattle.wit.specs.Manifest.{lines_at, manifest_at}
use Rattle.wit.specs.declared.line.Directive.{Directive}
use Rattle.wit.specs.declared.line.Directive.TheVariants.{Blank, Package, World, Close, Refer, Brace, Other}

module _ (P : ℕ → Type 0) (p4 : P 4) (p6 : P 6) (p9 : P 9) (p10 : P 10) (p11 : P 11) (p12 : P 12) (p13 : P 13) (p14 : P 14) where
  closing : (z : ManifestSizes) (next : ℕ) (t : State) → Numbers P (close_at z next t)
  unfolding close_at
  closing z next t = by t.world where
    by : (m : Option Part) → Numbers P (shut_at z next t m)
    by None = fine _
    by (Some name) = choice (ltb (length t.worlds) (capacity_in 5 z.worlds)) (fine _) (off 13 (spot 5) p13)

  obeying : (z : ManifestSizes) (d : Directive) (next : ℕ) (t : State) → Numbers P (obey_at z d next t)
  unfolding obey_at open_at refer_at
  obeying z Blank next t = fine _
  obeying z (Package p) next t = choice (is_some t.world) (off 9 (spot t.line) p9) (fine _)
  obeying z (World p) next t =
      chain (close_at z next t) _ (closing z next t) (λ u at. choice (eqb p.len 0) (off 10 (spot u.line) p10) (fine _))
  obeying z Close next t = choice (is_some t.world) (closing z next t) (off 11 (spot t.line) p11)
  obeying z (Refer export path signature) next t =
      choice (is_some t.world) (choice (ltb (length t.references) (capacity_in 6 z.references)) (fine _) (off 13 (spot 6) p13))
      (off 12 (spot t.line) p12)
  obeying z Brace next t = choice (is_some t.world) (fine _) (off 6 (spot t.line) p6)
  obeying z Other next t = off 6 (spot t.line) p6

  lining : (s : List ℕ) (z : ManifestSizes) (at : ℕ) (t : State) → Numbers P (line_at s z at t)
  unfolding line_at
  lining s z at t = obeying z (manifest_directive (line_piece s at)) _ _

  pub manifest-numbers : (s : List ℕ) (z : ManifestSizes) → Numbers P (manifest_at s z)
  unfolding manifest_at lines_at whole_text
  manifest-numbers s z =
      follows (whole_text s) _
      (choice (ltb text_limit (length s)) (off 14 (spot 0) p14)
      (choice (ltb (up_to s) (length s)) (off 4 (offset (up_to s)) p4) (fine _))) (λ u.
      chain (lines_at s z) _
      (chain (walk_from (line_at s z) s 0 start) _ (walks_from (line_at s z) (lining s z) s 0 start) (λ t at. closing z at t))
      (λ t at. fine _))
