-- `KeyRows::fill_prints` meets its contract: the rows below i are there. Assumes nothing.
use mathlib.Core.Path.{◌≡◌, refl, ◌∙◌, ap}
use Prim.Native.Nat.{ℕ}
use native.Mathlib.Omega.{arith}
use borrow.Author.Rules.{rules}
use lib.ListN.{length}
use Rattle.table.specs.Table.{laid, cells, rows_of}
use Rattle.keyed.specs.Keying.{single}
use Rattle.keyed.proofs.Filling.{no_rows, one-row}
use Rattle.keyed.specs.Rows.{print_of}
use Rattle.keyed.proofs.rows.KeyRows.fill_prints.Goals as goal

pub loop-i-init : goal.loop-i-init
loop-i-init c = (omega arith, refl, no_rows single _ _ c.requires.0)

pub loop-i-preserved : goal.loop-i-preserved
loop-i-preserved c = (
  omega arith,
  search rules,
  one-row single _ _ 1 (λ x. refl) _ _ c.loop-i-test.true (omega (arith, c.requires.1)) c.loop-i.invariant.2
      (ap single c.print.ensures) c.put_row.ensures,
)

pub returns : goal.returns
returns c =
    let a = c.args in
    let r = a.self in
    let e : c.loop-i.i ≡ a.n = omega arith in
    c.loop-i.invariant.2
    ∙ ap (λ (m : ℕ). laid (length a.prints.now) (cells single (rows_of (print_of r) m))) e
