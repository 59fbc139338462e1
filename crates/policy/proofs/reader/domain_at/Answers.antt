-- `domain_at` meets its contract. Assumes nothing.
use Rattle.std.proofs.Common.{◌≡◌, sym, ap, ◌∙◌, arith}
use Rattle.text.specs.Piece.{piece, trim}
use Rattle.text.proofs.PieceLaws.{trim-to}
use Rattle.domains.specs.Domain.{found, domain_of}
use Rattle.policy.proofs.HeardLaws.{trim-is-bytes}
use Rattle.policy.proofs.reader.domain_at.Goals.{After-from_slug}
use Rattle.policy.proofs.reader.domain_at.Goals as goal

-- what the call answers of the part
answered : (c : After-from_slug) → found c.from_slug.result ≡ domain_of (trim (piece c.args.s.now c.args.a c.args.e)).bytes
answered c =
    let a = c.args in
    c.from_slug.ensures
    ∙ ap domain_of (sym (trim-is-bytes a.s.now a.a a.e c.trimmed_at-t.result.from c.trimmed_at-t.result.past
    (trim-to a.s.now a.a a.e (omega arith) (omega arith) c.trimmed_at-t.ensures.0)))

pub returns-in-Some : goal.returns-in-Some
returns-in-Some c = rw (← answered (goal.at.returns-in-Some c).After-from_slug, c.in-Some.is, c.domain_number.ensures)

pub returns-in-None : goal.returns-in-None
returns-in-None c = rw (← answered (goal.at.returns-in-None c).After-from_slug, c.in-None.is)
