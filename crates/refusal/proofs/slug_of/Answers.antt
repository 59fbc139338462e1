use Rattle.refusal.specs.Slug.{padded}
use Rattle.refusal.proofs.Padding.{cut_to_ten}
use Rattle.refusal.proofs.slug_of.Goals as goal

pub returns : goal.returns
unfolding padded
returns c = cut_to_ten _ _ _ c.min-len.ensures c.copy_from_slice.ensures.after
