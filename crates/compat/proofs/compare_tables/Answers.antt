-- `compat::compare_tables` meets its contract. Assumes nothing.
use native.Mathlib.Omega.{arith}
use lib.Seq.{length-take-le}
use Rattle.differences.specs.Compared.{given_of}
use Rattle.differences.proofs.Tests.{exports-good, imports-good}
use Rattle.keyed.proofs.Filling.{zeros-length}
use Rattle.compat.proofs.Listed.{rows_fit, compares-full8, compares-full9, compares-lists}
use Rattle.table.specs.Shape.{width, limit}
use Rattle.compat.specs.Keying.{key_limit}
use Rattle.compat.proofs.compare_tables.Goals as goal

pub list_rows-m-requires-clause-room : goal.list_rows-m-requires-clause-room
list_rows-m-requires-clause-room c =
    let g = c.requires.good in
    let p = (exports-good _ _ _ g.0.exports-good).0 in
    let q = (exports-good _ _ _ g.1.exports-good).0 in
    (omega arith, omega (arith, zeros-length key_limit))

pub returns-then-capacity-m : goal.returns-then-capacity-m
returns-then-capacity-m c =
    let a = c.args in
    compares-full8 (given_of a.baseline) (given_of a.candidate) _ _ c.list_rows-m.ensures
    (omega (arith, c.capacity.ensures, c.if-capacity-m.true)) c.requires.xd_value.0 c.requires.xd_value.1

pub list_rows-n-requires-clause-room : goal.list_rows-n-requires-clause-room
list_rows-n-requires-clause-room c =
    let g = c.requires.good in
    let p = imports-good _ _ _ g.0.imports-good in
    let q = imports-good _ _ _ g.1.imports-good in
    (omega arith, omega (arith, zeros-length key_limit))

pub returns-then-capacity-n : goal.returns-then-capacity-n
returns-then-capacity-n c =
    compares-full9 _ _ _ _ c.list_rows-m.ensures
    (omega (arith, c.capacity.ensures, c.if-capacity-m.false)) c.list_rows-n.ensures
    (omega (arith, c.capacity-2.ensures, c.if-capacity-n.true)) c.requires.xd_value.0 c.requires.xd_value.1

-- the parts that are lent have as many cells as the lists have numbers
pub lay_exports-requires : goal.lay_exports-requires
lay_exports-requires c = (
  c.requires.xd_value.0,
  rw (length-take-le _ _ c.list_rows-m.ensures.within)
      (rows_fit _ (width 8) (limit 8) _ (omega (arith, c.capacity.ensures, c.if-capacity-m.false))),
)

pub lay_needs-requires : goal.lay_needs-requires
lay_needs-requires c = (
  c.requires.xd_value.1,
  rw (length-take-le _ _ c.list_rows-n.ensures.within)
      (rows_fit _ (width 9) (limit 9) _ (omega (arith, c.capacity-2.ensures, c.if-capacity-n.false))),
)

pub returns : goal.returns
returns c =
    compares-lists _ _ _ _ c.list_rows-m.ensures
    (omega (arith, c.capacity.ensures, c.if-capacity-m.false)) c.list_rows-n.ensures
    (omega (arith, c.capacity-2.ensures, c.if-capacity-n.false)) c.breaks_nothing.ensures
    c.lay_exports.ensures c.lay_needs.ensures
