-- Larger tables: what is accepted with some tables is accepted with any larger ones, with the same rows. Assumes nothing.
use Rattle.std.specs.Prelude.{Option, Some, None, is_some}
use Prim.Native.Nat.{ℕ}
use mathlib.Core.List.{List}
use lib.ListN.{length}
use Rattle.refusal.specs.declared.Part.{Part}
use Rattle.table.proofs.Larger.{Sure, Full, accepts-too, sure-same, sure-pick, sure-room, sure-follow, sure-onward, sure-from}
use Rattle.text.specs.Whole.{whole_text}
use Rattle.wit.specs.declared.line.Directive.{Directive}
use Rattle.wit.specs.declared.line.Directive.TheVariants.{Blank, Package, World, Close, Refer, Brace, Other}
use Rattle.wit.specs.Manifest.{State, ManifestSizes, start, shut_at, close_at, open_at, refer_at, obey_at, line_at, lines_at, manifest_at}
use Rattle.wit.specs.Sound.{ManifestLarger, ManifestLargerSame}

module _ (z w : ManifestSizes) (h : ManifestLarger z w) where
  sure-close : (next : ℕ) (t : State) → Sure Full (close_at z next t) (close_at w next t)
  unfolding close_at
  sure-close next t = by t.world where
    by : (m : Option Part) → Sure Full (shut_at z next t m) (shut_at w next t m)
    by None = sure-same _
    by (Some name) = sure-room (length t.worlds) _ _ 5 _ _ h.worlds (sure-same _)

  sure-open : (name : Part) (next : ℕ) (t : State) → Sure Full (open_at z name next t) (open_at w name next t)
  unfolding open_at
  sure-open name next t = sure-onward _ _ _ _ (sure-close next t) (λ u at. sure-same _)

  sure-obey : (d : Directive) (next : ℕ) (t : State) → Sure Full (obey_at z d next t) (obey_at w d next t)
  unfolding obey_at refer_at
  sure-obey Blank next t = sure-same _
  sure-obey (Package p) next t = sure-same _
  sure-obey (World p) next t = sure-open p next t
  sure-obey Close next t = sure-pick (is_some t.world) _ _ _ _ (sure-close next t) (sure-same _)
  sure-obey (Refer export path signature) next t =
      sure-pick (is_some t.world) _ _ _ _ (sure-room (length t.references) _ _ 6 _ _ h.references (sure-same _)) (sure-same _)
  sure-obey Brace next t = sure-same _
  sure-obey Other next t = sure-same _

  sure-line : (s : List ℕ) (at : ℕ) (t : State) → Sure Full (line_at s z at t) (line_at s w at t)
  unfolding line_at
  sure-line s at t = sure-obey _ _ _

  sure-lines : (s : List ℕ) → Sure Full (lines_at s z) (lines_at s w)
  unfolding lines_at
  sure-lines s = sure-onward _ _ _ _ (sure-from (line_at s z) (line_at s w) (sure-line s) s 0 start) (λ t at. sure-close at t)

pub larger-same : ManifestLargerSame
unfolding manifest_at
larger-same s z w t h =
    accepts-too
    (sure-follow (whole_text s) (whole_text s) _ _ (sure-same _) (λ ok. sure-onward _ _ _ _ (sure-lines z w h s) (λ u at. sure-same _))) t
