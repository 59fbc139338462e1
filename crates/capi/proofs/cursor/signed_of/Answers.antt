-- `signed_of` meets its contract: a number that was read fits, so it is the same after it is written and read back. Assumes nothing.
use Rattle.std.proofs.Common.{arith}
use mir.Syntax.{w64}
use mir.ValLaws.{to_z-of_z}
use Rattle.capi.proofs.cursor.signed_of.Goals as goal

pub returns-in-Ok : goal.returns-in-Ok
returns-in-Ok c =
    let fit = rw c.in-Ok.is at c.well_formed in
    rw (c.in-Ok.is, to_z-of_z w64 c.in-Ok.value (record { sfits = omega arith }))
