-- `reasons::reasons_from` meets its contract. Assumes nothing.
use Rattle.std.specs.Prelude.{Err}
use mathlib.Core.Path.{◌≡◌}
use borrow.Author.Rules.{rules}
use Rattle.output.proofs.ByteLaws.{formed-long}
use Rattle.reasons.proofs.Fine.{fine, reasons-refused, reasons-formed}
use Rattle.reasons.proofs.reasons_from.Goals as goal

pub write_reasons-requires : goal.write_reasons-requires
write_reasons-requires c =
    let z = fine _ _ _ c.check_reasons.ensures c.in_ok-check_reasons.was in
    record { kinds_fit = z.kinds; baseline_len_bound = (z.files.0, z.files.1, z.counts.0, z.counts.1) }

pub returns-in_err-check_reasons : goal.returns-in_err-check_reasons
returns-in_err-check_reasons c =
    let e : c.from_residual.result ≡ Err c.in_err-check_reasons.field-0.0 = search rules in
    rw e (reasons-refused _ _ _ c.check_reasons.ensures _ _ c.in_err-check_reasons.was)

pub shape_of-out : goal.shape_of-out
shape_of-out c = formed-long _ _ _ c.write_reasons.ensures

pub returns : goal.returns
returns c = reasons-formed _ _ _ c.check_reasons.ensures _ _ c.in_ok-check_reasons.was c.write_reasons.ensures
