-- `import_rows::import_namespaces` meets its contract. Assumes nothing.
use mathlib.Core.Path.{sym, ◌∙◌, ap}
use Rattle.refusal.specs.Said.{said_by}
use Rattle.import_rows.specs.Queries.{namespaces_of}
use Rattle.import_rows.proofs.Asking.{asked-long, asked-bad, asked-good, listed-as, sorts-listed}
use Rattle.table.proofs.Listing.{lists-stop}
use Rattle.import_rows.proofs.import_namespaces.Goals as goal

pub returns-then-file-gt-MAX_FILE : goal.returns-then-file-gt-MAX_FILE
unfolding namespaces_of
returns-then-file-gt-MAX_FILE c = lists-stop (asked-long _ _ _ _ c.if-file-gt-MAX_FILE.true) c.clear.ensures

pub returns-in-Err : goal.returns-in-Err
unfolding namespaces_of
returns-in-Err c =
    lists-stop (asked-bad _ _ _ _ c.if-file-gt-MAX_FILE.false (sym c.check_imports.ensures ∙ ap said_by c.in-Err.is))
    c.clear-in-Err.ensures

pub returns : goal.returns
unfolding namespaces_of
returns c =
    let a = c.args in
    listed-as
    (asked-good a.file.now a.imports.cells.now a.imports.count _ c.if-file-gt-MAX_FILE.false (sym c.check_imports.ensures ∙ ap said_by c.in_default.is))
    (sorts-listed 15 _ _ _ c.ok_or.ensures.value (rw c.by_name-keys.ensures at c.sort.ensures))
