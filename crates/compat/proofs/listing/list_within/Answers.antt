-- `compat::listing::list_within` meets its contract. Assumes nothing.
use native.Mathlib.Omega.{arith}
use Rattle.keyed.proofs.Filling.{zeros-laid, zeros-length}
use Rattle.compat.proofs.Sizing.{room-yes}
use Rattle.compat.proofs.Instances.{rows-listed}
use Rattle.compat.proofs.listing.list_within.Goals as goal

pub fill_keys-requires : goal.fill_keys-requires
fill_keys-requires g c = (
  zeros-laid g.row.CELLS,
  omega (arith, zeros-length g.row.CELLS, c.requires.room.1, c.row_count-first.ensures, c.row_count-second.ensures),
)

pub returns : goal.returns
returns g c =
    let p = c.requires.room in
    let m = c.row_count-first.ensures in
    let n = c.row_count-second.ensures in
    rows-listed c.args.rows _ _ _ m n c.requires.passed.0 c.requires.passed.1 c.fill_keys.ensures c.every.ensures
    c.list_missing-listed.ensures.0
    (room-yes _ _ _ _ (omega (arith, m, n, zeros-length g.row.ROWS, p.0)) (omega (arith, m, n, zeros-length g.row.ROWS, p.0))
    (omega (arith, m, n, p.2)))
    (omega (arith, m, n, p.2)) c.unwrap_or.ensures
