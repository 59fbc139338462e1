-- `put_all` meets its contract: the cells that are left, put after those that are there, make the whole. Assumes nothing.
use Rattle.std.proofs.Common.{ℕ, List, ◌≤◌, ◌+◌, length, drop, get_or, sym, ap, ◌∙◌, arith}
use Rattle.table.specs.Table.{put}
use Rattle.table.proofs.Laws.{length-put}
use Rattle.output.specs.Cells.{low_bytes, cell_bytes}
use Rattle.output.proofs.CellLaws.{length-low}
use Rattle.output.proofs.Putting.{cell-turn, cells-done}
use Rattle.output.proofs.cells.put_all.Goals as goal

pub loop-cell-preserved : goal.loop-cell-preserved
loop-cell-preserved c =
    let l = c.loop-cell in
    let a = c.args in
    let i = l.cell-index in
    let done = c.put_cell.ensures in
    let room : l.o + 8 ≤ length l.out = omega arith in
    let wide : l.o + length (low_bytes 8 (get_or a.cells.now i 0)) ≤ length l.out =
    omega (arith, length-low 8 (get_or a.cells.now i 0)) in (
      omega arith,
      ap (λ (t : List ℕ). put t (l.o + 8) (cell_bytes (drop (i + 1) a.cells.now))) done
          ∙ cell-turn a.cells.now l.out l.o i (omega arith) room
          ∙ l.invariant.1,
      ap length done ∙ length-put l.out (low_bytes 8 (get_or a.cells.now i 0)) l.o wide ∙ l.invariant.2,
    )

pub returns-clause-out_after : goal.returns-clause-out_after
returns-clause-out_after c =
    let l = c.loop-cell in
    sym (cells-done c.args.cells.now l.out l.o l.cell-index (omega arith)) ∙ l.invariant.1
