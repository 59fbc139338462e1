use Rattle.std.proofs.Common.{rules, ◌≡◌, Err, refl}
use Rattle.leb.specs.Answers.{answer_from}
use Rattle.leb.specs.Reads.{skip_at}
use Rattle.leb.proofs.Answering.{hands_on, goes_on}
use Rattle.leb.proofs.Cursor.skip.Goals as goal

pub returns-in_err-next : goal.returns-in_err-next
unfolding skip_at
returns-in_err-next c =
    let e : c.from_residual.result ≡ Err c.in_err-next.field-0.0 = search rules in
    rw e (hands_on _ _ _ _ c.in_err-next.ensures)

pub returns : goal.returns
unfolding skip_at answer_from
returns c = goes_on _ _ _ c.in_ok-next.ensures refl
