use Rattle.std.proofs.Common.{refl}
use Rattle.output.proofs.ByteLaws.{wrote-put}
use Rattle.output.proofs.bytes.Writer.put_domain.Goals as goal

pub returns-clause-added : goal.returns-clause-added
returns-clause-added c = record { wrote = wrote-put _ _ _ _ c.put_domain-self.ensures; same = refl }
