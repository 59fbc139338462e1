use borrow.Author.Tests.{le-leb, lt-leb}
use Rattle.std.proofs.Common.{rules, ◌≡◌, Err}
use Rattle.leb.specs.Answers.{answer_from}
use Rattle.leb.specs.Reads.{u32_at, narrowed}
use Rattle.leb.proofs.Answering.{hands_on, goes_on}
use Rattle.leb.proofs.Cursor.uleb128_u32.Goals as goal

pub returns-in_err-v : goal.returns-in_err-v
unfolding u32_at
returns-in_err-v c =
    let e : c.from_residual.result ≡ Err c.in_err-v.field-0.0 = search rules in
    rw e (hands_on _ _ _ _ c.in_err-v.ensures)

pub returns-then-v-le4294967295 : goal.returns-then-v-le4294967295
unfolding u32_at narrowed answer_from
returns-then-v-le4294967295 c = goes_on _ _ _ c.in_ok-v.ensures (simp (le-leb _ _ c.if-v-le4294967295.true))

pub returns-else-v-le4294967295 : goal.returns-else-v-le4294967295
unfolding u32_at narrowed answer_from
returns-else-v-le4294967295 c = goes_on _ _ _ c.in_ok-v.ensures (simp (lt-leb _ _ c.if-v-le4294967295.false, c.unread.ensures))
