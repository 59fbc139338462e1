-- `lay_tokens` meets its contract. Assumes nothing.
use native.Mathlib.Omega.{arith}
use mathlib.Core.Path.{refl}
use Rattle.listed.proofs.Listing.{tokens-full, tokens-laid}
use Rattle.listed.proofs.tokens.lay_tokens.Goals as goal

pub returns-then-out-bytes : goal.returns-then-out-bytes
returns-then-out-bytes c = tokens-full _ _ c.count_tokens-count.ensures.value refl (omega arith) c.no_tokens.ensures

pub returns : goal.returns
returns c = tokens-laid _ _ c.count_tokens-count.ensures.value refl c.if-out-bytes.false c.put_tokens.ensures
