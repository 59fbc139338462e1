-- `show` meets its contract. Assumes nothing.
use Rattle.std.proofs.Common.{arith, rules, ◌≡◌, get_or, ℕ, ◌<◌}
use Rattle.policy.specs.Eight.{slot_of, no_slot}
use Rattle.told.proofs.Telling.{told-of}
use Rattle.capi.specs.Policies.{rule_told}
use Rattle.capi.specs.declared.policies.RuleTold.{RuleTold}
use Rattle.capi.proofs.policies.show.Goals as goal

pub returns : goal.returns
returns c =
    let p = c.args.p in
    let each : (k : ℕ) (e : RuleTold) → k < 7 → get_or c.map.result k e ≡ rule_told (slot_of p k) =
    λ k e l. (let h = c.map.ensures.items.at k no_slot e l in search rules) in
    rw (told-of (λ k. rule_told (slot_of p k)) 7 c.map.result c.map.ensures.items.long each)
