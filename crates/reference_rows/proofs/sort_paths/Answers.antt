-- `references::sort_paths` meets its contract. Assumes nothing.
use Rattle.reference_rows.proofs.Asking.{sorts-exports, sorts-imports}
use Rattle.reference_rows.proofs.sort_paths.Goals as goal

pub returns-then-export : goal.returns-then-export
returns-then-export c = sorts-exports _ _ _ _ _ _ _ c.by_name-keys.ensures c.if-export.true c.sort_others.ensures

pub returns : goal.returns
returns c = sorts-imports _ _ _ _ _ _ _ c.by_name-keys.ensures c.if-export.false c.sort.ensures
