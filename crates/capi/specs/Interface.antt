-- docs/RULES.md, "The C interface": the number that a change of a struct, of a number or of a place raises. Assumes nothing.
use Rattle.std.specs.Prelude.{ℕ}

abbrev pub interface_number : ℕ
interface_number = 4
