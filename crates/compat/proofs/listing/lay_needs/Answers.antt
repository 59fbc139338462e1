-- `compat::listing::lay_needs` meets its contract: the rows below j are there. Assumes nothing.
use mathlib.Core.Path.{refl, ◌∙◌, ap}
use mathlib.Core.List.{List}
use Prim.Native.Nat.{ℕ}
use borrow.Author.Rules.{rules}
use Rattle.table.specs.Shape.{width}
use Rattle.differences.specs.Compared.{given_of}
use Rattle.compat.specs.declared.keys.Key.{Key}
use Rattle.compat.specs.Listing.{need_cells_at}
use Rattle.keyed.proofs.Filling.{no_rows, one-row, filled-all}
use Rattle.compat.proofs.Laying.{need-cells}
use Rattle.compat.proofs.Instances.{need-major}
use Rattle.compat.proofs.listing.lay_needs.Goals as goal

pub loop-j-init : goal.loop-j-init
loop-j-init c =
    let row : ℕ → List ℕ = let a = c.args in need_cells_at (given_of a.baseline) (given_of a.candidate) in
    (refl, no_rows (row) _ _ c.requires.0)

pub loop-j-preserved : goal.loop-j-preserved
loop-j-preserved c =
    let row : ℕ → List ℕ = let a = c.args in need_cells_at (given_of a.baseline) (given_of a.candidate) in (
      search rules,
      one-row (row) _ _ (width 9) (λ i. refl) _ _ c.loop-j-test.true c.requires.1 c.loop-j.invariant.1
          (need-cells _ _ _ _ _ _ c.place_of-place.ensures c.change_number.ensures
          (ap (λ (q : Key). q.major) c.key_at-domain.ensures ∙ need-major _ _ _ _ _ _))
          c.put_row.ensures,
    )

pub returns : goal.returns
returns c = filled-all _ _ _ _ c.loop-j.auto.j-end c.loop-j-test.false c.loop-j.invariant.1
