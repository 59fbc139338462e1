-- `sorting::insert_at` meets its contract: from j on, up to k, the elements are moved up by one. Assumes nothing.
use mathlib.Core.Path.{◌≡◌, ap, ◌∙◌}
use mathlib.Core.List.{List}
use Prim.Native.Nat.{ℕ, suc, ◌+◌, ◌-◌}
use native.Mathlib.Numerals.{add-one}
use native.Mathlib.Omega.{arith}
use lib.ListN.{set, get_or}
use Rattle.sorting.proofs.Places.{shifted, shift-start, shift-step, shift-set}
use Rattle.sorting.proofs.insert_at.Goals as goal

pub loop-j-init : goal.loop-j-init
loop-j-init c = (c.requires.0, shift-start c.args.sorted.now c.args.k c.requires.1)

pub loop-j-preserved : goal.loop-j-preserved
loop-j-preserved c =
    let l = c.args.sorted.now in
    let i = c.loop-j.j - 1 in
    let next : c.loop-j.j ≡ suc i = omega arith in
    let held = c.loop-j.invariant.1 ∙ ap (λ (j : ℕ). shifted l j c.args.k) next in (
      omega arith,
      ap (λ (t : List ℕ). set t (i + 1) (get_or t i 0)) held ∙ rw (add-one i) (shift-step l c.args.k c.requires.1 i (omega arith)),
    )

pub returns : goal.returns
returns c =
    let a = c.args in
    let ends : c.loop-j.j ≡ a.p = omega arith in
    ap (λ (l : List ℕ). set l a.p a.v) (c.loop-j.invariant.1 ∙ ap (λ (j : ℕ). shifted a.sorted.now j a.k) ends)
    ∙ shift-set a.sorted.now a.k c.requires.1 a.p a.v c.requires.0
