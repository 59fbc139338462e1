-- `import_rows::number_fits` meets its contract. Assumes nothing.
use Rattle.import_rows.proofs.Asking.{number-there, number-absent}
use Rattle.import_rows.proofs.number_fits.Goals as goal

pub returns-then-given-column-eq1 : goal.returns-then-given-column-eq1
returns-then-given-column-eq1 c = number-there _ _ _ _ c.if-given-column-eq1.true

pub returns : goal.returns
returns c = number-absent _ _ _ _ c.if-given-column-eq1.false c.cell.ensures
