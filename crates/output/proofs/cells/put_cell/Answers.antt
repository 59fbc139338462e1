-- `put_cell` meets its contract. Assumes nothing.
use Rattle.std.proofs.Common.{◌+◌, ◌-◌, ◌∙◌, arith}
use Rattle.output.proofs.Putting.{put-over}
use Rattle.output.proofs.cells.put_cell.Goals as goal

pub returns : goal.returns
returns c =
    let a = c.args in
    put-over a.out.now a.at (a.at + 8 - a.at) a.n (omega arith) (c.copy_from_slice.ensures.after ∙ c.to_le_bytes.ensures)
