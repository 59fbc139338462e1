use mathlib.Core.Path.{◌≡◌}
use lib.ListN.{length, get_or}
use Rattle.table.specs.Table.{laid, cells, rows_of}
use Rattle.differences.specs.Compared.{given_of}
use Rattle.compat.specs.Listing.{need_cells_at}
use Rattle.compat.proofs.listing.lay_needs.Given as goal

abbrev pub invariant-loop-j : goal.invariant-loop-j
invariant-loop-j l = (length l.table ≡ length l.initial.table)
    × (l.table ≡ laid (length l.initial.table) (cells (need_cells_at (given_of l.baseline) (given_of l.candidate)) (rows_of (λ k. get_or l.numbers k 0) l.j)))
