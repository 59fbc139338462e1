-- `compat::keys::fill_keys` meets its contract: the rows below i are there. Assumes nothing.
use mathlib.Core.Path.{◌≡◌, refl, ◌∙◌, ap}
use native.Mathlib.Omega.{arith}
use borrow.Author.Rules.{rules}
use Rattle.compat.specs.Keying.{key_cells, table_of}
use Rattle.keyed.proofs.Filling.{no_rows, one-row}
use Rattle.compat.proofs.Filling.{key-wide}
use Rattle.compat.proofs.keys.fill_keys.Goals as goal

pub loop-i-init : goal.loop-i-init
loop-i-init c = (omega arith, refl, no_rows key_cells _ _ c.requires.0)

pub loop-i-preserved : goal.loop-i-preserved
loop-i-preserved c = (
  omega arith,
  search rules,
  one-row key_cells _ _ 6 key-wide _ _ c.loop-i-test.true c.requires.1 c.loop-i.invariant.2
      (ap key_cells c.key_at.ensures) c.put_key.ensures,
)

pub returns : goal.returns
returns c =
    let e : c.loop-i.i ≡ c.args.n = omega arith in
    c.loop-i.invariant.2 ∙ ap (table_of _ _) e
