use Rattle.refusal.specs.Pick.{pick}
use Rattle.strict.proofs.rules.+names_differ.Given as goal

abbrev pub decreases-names_differ : goal.decreases-names_differ
decreases-names_differ l = pick l.more 0 1
