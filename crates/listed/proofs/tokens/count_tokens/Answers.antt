-- `count_tokens` meets its contract: those that are counted and those that are left make the whole. Assumes nothing.
use native.Mathlib.Omega.{arith}
use mathlib.Core.Path.{ap}
use lib.ListN.{length}
use Rattle.listed.proofs.Listing.{found-more, found_none}
use Rattle.listed.proofs.tokens.count_tokens.Goals as goal

pub loop-token-init : goal.loop-token-init
loop-token-init c = (omega arith, omega arith, omega arith)

pub returns : goal.returns
returns c =
    record { value = omega (arith, ap length (found_none _ _ _ c.first_token.ensures c.in_default.is)); upper_bound = omega arith }

pub overflow_add-n : goal.overflow_add-n
overflow_add-n c =
    let more = found-more _ _ _ c.first_token.ensures c.in-Some.is in
    omega (arith, more.on)

pub loop-token-smaller : goal.loop-token-smaller
loop-token-smaller c =
    let more = found-more _ _ _ c.first_token.ensures c.in-Some.is in
    omega (arith, more.on, more.near)

pub loop-token-preserved : goal.loop-token-preserved
loop-token-preserved c =
    let m = found-more _ _ _ c.first_token.ensures c.in-Some.is in
    (omega (arith, m.on), omega (arith, m.on, m.near), omega (arith, ap length m.list))
