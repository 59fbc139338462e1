-- `compat::listing::place_of` meets its contract. Assumes nothing.
use Rattle.compat.proofs.Laying.{place-first, place-second}
use Rattle.compat.proofs.listing.place_of.Goals as goal

pub returns-then-i-nb : goal.returns-then-i-nb
returns-then-i-nb c = place-first _ _ c.if-i-nb.true

pub returns : goal.returns
returns c = place-second _ _ c.if-i-nb.false
