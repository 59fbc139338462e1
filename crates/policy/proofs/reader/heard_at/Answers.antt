-- `heard_at` meets its contract. Assumes nothing.
use Rattle.std.proofs.Common.{sym, ap, ◌∙◌, ◌+◌, arith}
use Rattle.text.proofs.FindLaws.{index-le}
use Rattle.policy.specs.Heard.{ranged}
use Rattle.text.specs.Piece.{bytes_between, TrimTo}
use Rattle.text.proofs.PieceLaws.{piece-long, trim-to}
use Rattle.policy.proofs.HeardLaws.{directive-some, directive-none}
use Rattle.policy.proofs.reader.heard_at.Goals.{After-trimmed_at-t}
use Rattle.policy.proofs.reader.heard_at.Goals as goal

pub overflow_add-hash : goal.overflow_add-hash
overflow_add-hash c =
    let a = c.args in
    let s = a.s.now in
    omega (arith, c.find.ensures, index-le 35 (bytes_between s a.a a.e), piece-long s a.a a.e (omega arith))

-- the line without its comment, trimmed
trims : (c : After-trimmed_at-t)
    → TrimTo c.args.s.now c.args.a (c.args.a + c.find.result) c.trimmed_at-t.result.from c.trimmed_at-t.result.past
trims c =
    let a = c.args in
    let s = a.s.now in
    let at = index-le 35 (bytes_between s a.a a.e) in
    let long = piece-long s a.a a.e (omega arith) in
    trim-to s a.a (a.a + c.find.result) (omega arith) (omega (arith, c.find.ensures, at, long)) c.trimmed_at-t.ensures.0

pub returns-then-t : goal.returns-then-t
returns-then-t c =
    let a = c.args in
    c.worded_at.ensures
    ∙ sym (ap (ranged a.line) (directive-some a.s.now a.a a.e c.find.result _ _ (omega arith) c.find.ensures
    (trims (goal.at.returns-then-t c).After-trimmed_at-t) (omega arith) (omega arith)))

pub returns : goal.returns
returns c =
    let a = c.args in
    sym (ap (ranged a.line) (directive-none a.s.now a.a a.e c.find.result _ _ (omega arith) c.find.ensures
    (trims (goal.at.returns c).After-trimmed_at-t) (omega arith) (omega arith)))
