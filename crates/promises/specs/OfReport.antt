-- No two answers satisfy the promise of any function of report. Assumes nothing.
use Rattle.std.proofs.Common.{sym, ◌∙◌}
use Rattle.promises.specs.Decides.{Decides}
use Rattle.report.proofs.number_text.Kinds as number-text-kinds
use Rattle.report.proofs.number_text.Reads as number-text
use Rattle.report.proofs.refused_line.Kinds as refused-line-kinds
use Rattle.report.proofs.refused_line.Reads as refused-line

pub number-text-decides : Decides number-text-kinds.ps number-text-kinds.r number-text.Post
number-text-decides κs a x y s t p q = p ∙ sym q

pub refused-line-decides : Decides refused-line-kinds.ps refused-line-kinds.r refused-line.Post
refused-line-decides κs a x y s t p q = p ∙ sym q
