-- No two answers satisfy the promise of the whole check. Assumes nothing.
use Rattle.verdicts.proofs.Known.{evaluation-known}
use Rattle.promises.specs.Decides.{Decides}
use Rattle.checking.proofs.check_module.Kinds as check-module-kinds
use Rattle.checking.proofs.check_module.Reads as check-module

pub check-module-decides : Decides check-module-kinds.ps check-module-kinds.r check-module.Post
check-module-decides κs a x y s t p q = evaluation-known x y p q
