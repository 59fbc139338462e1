-- The four lent tables as the code hands them on. Assumes nothing.
use Rattle.std.specs.Prelude.{◌≡◌}
use Rattle.wasm.specs.Module.{Lent, lend, Sizes, sizes}
use Rattle.wasm.specs.declared.LentTables.{LentTables}

abbrev pub lent : LentTables → Lent
lent l = lend l.sections.now l.imports.now l.exports.now l.names.now

abbrev pub sizes_of : LentTables → Sizes
sizes_of l = sizes l.sections.now l.imports.now l.exports.now l.names.now

-- the same four tables: what these end as, the lent ones end as; and so many cells as they had
pub record SameTables (before after : LentTables) : Type 0 where
  pub sections-same : after.sections.ghost_name ≡ before.sections.ghost_name
  pub imports-same : after.imports.ghost_name ≡ before.imports.ghost_name
  pub exports-same : after.exports.ghost_name ≡ before.exports.ghost_name
  pub names-same : after.names.ghost_name ≡ before.names.ghost_name
  pub sizes-same : sizes_of after ≡ sizes_of before
