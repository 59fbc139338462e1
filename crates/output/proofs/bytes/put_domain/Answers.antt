-- `put_domain` meets its contract. Assumes nothing.
use Rattle.domains.specs.Domain.{slug}
use Rattle.output.proofs.Words.{SlugIs, domain-is, domain-none}
use Rattle.output.proofs.bytes.put_domain.Goals.{After-domain_slug-word}
use Rattle.output.proofs.bytes.put_domain.Goals as goal

-- the word is the domain's
word-is : (c : After-domain_slug-word) → SlugIs (slug c.args.d) c.domain_slug-word.result
word-is c = domain-is c.args.d c.domain_of.ensures c.in-Some.is c.domain_slug-word.ensures

pub slice_bounds-bytes-end : goal.slice_bounds-bytes-end
slice_bounds-bytes-end c = (word-is (goal.at.slice_bounds-bytes-end c).After-domain_slug-word).fits

pub slice_bounds-put-end : goal.slice_bounds-put-end
slice_bounds-put-end c = (word-is (goal.at.slice_bounds-put-end c).After-domain_slug-word).long

pub returns-in-Some : goal.returns-in-Some
returns-in-Some c = rw (word-is (goal.at.returns-in-Some c).After-domain_slug-word).word at c.put.ensures

pub returns-in-None : goal.returns-in-None
returns-in-None c = rw (← domain-none c.args.d c.domain_of.ensures c.in-None.is) c.put-in-None.ensures
