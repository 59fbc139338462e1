use Rattle.std.proofs.Common.{refl}
use Rattle.output.proofs.ByteLaws.{wrote-put}
use Rattle.output.proofs.bytes.Writer.put.Goals as goal

pub returns-clause-added : goal.returns-clause-added
returns-clause-added c = record { wrote = wrote-put _ _ _ _ c.put-self.ensures; same = refl }
