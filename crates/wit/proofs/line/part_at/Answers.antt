-- `part_at` meets its contract. Assumes nothing.
use native.Mathlib.Omega.{arith}
use Rattle.text.proofs.PieceLaws.{trim-to}
use Rattle.wit.proofs.LineLaws.{part-trim}
use Rattle.wit.proofs.line.part_at.Goals as goal

pub returns : goal.returns
returns c = part-trim _ _ _ _ _ (trim-to _ _ _ (omega arith) (omega arith) c.trimmed_at-t.ensures.0) (omega arith)
