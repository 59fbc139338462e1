-- `strict::rules::at_most` meets its contract. Assumes nothing.
use borrow.Author.Tests.{tests}
use mathlib.Core.Path.{refl}
use native.Mathlib.Omega.{arith}
use Prim.Native.Nat.{◌≤◌, ◌<◌}
use Rattle.std.proofs.Common.{rules}
use Rattle.std.proofs.lemmas.Iterator.{cases_from_all, YieldsList-from_range}
use Rattle.strict.proofs.Ruling.{none-told}
use Rattle.table.specs.Table.{cell_of}
use Rattle.strict.proofs.rules.at_most.Goals as goal

pub returns : goal.returns
returns c =
    none-told _ _ _ _ _ _
    (cases_from_all _ _ _ (λ i. cell_of c.args.table.now c.args.wide i c.args.column ≤ c.args.last)
    (λ i. c.args.last < cell_of c.args.table.now c.args.wide i c.args.column) c.all.ensures.ran
    (YieldsList-from_range 0 c.args.n c.args.n refl (omega arith)) (λ x q k. search (rules, tests)) (λ x q k. search (rules, tests)))
