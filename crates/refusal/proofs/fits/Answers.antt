-- `refusal::fits` meets its contract. Assumes nothing.
use Rattle.refusal.proofs.Ranges.{ends-inside, ends-outside}
use Rattle.refusal.proofs.fits.Goals as goal

pub returns-then-length-len : goal.returns-then-length-len
returns-then-length-len c = ends-outside _ _ _ c.if-length-len.true

pub returns : goal.returns
returns c = ends-inside _ _ _ c.if-length-len.false
