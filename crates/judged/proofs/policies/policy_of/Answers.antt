-- `policy_of` meets its contract. Assumes nothing.
use Rattle.judged.specs.Policies.{policy_in}
use Rattle.judged.proofs.policies.policy_of.Goals as goal

pub returns : goal.returns
unfolding policy_in
returns c =
    rw (
      c.at.ensures,
      c.at-2.ensures,
      c.at-3.ensures,
      c.at-4.ensures,
      c.slot_at.ensures,
      c.slot_at-2.ensures,
      c.slot_at-3.ensures,
      c.slot_at-4.ensures,
      c.slot_at-5.ensures,
      c.slot_at-6.ensures,
      c.slot_at-7.ensures,
    )
