-- `requirements::requirements_from_module` meets its contract. Assumes nothing.
use Prim.Native.Nat.{ℕ}
use mathlib.Core.Path.{sym, ◌∙◌, ap}
use mathlib.Core.List.{[]}
use Rattle.refusal.specs.Said.{said_by}
use Rattle.table.specs.Table.{laid}
use Rattle.import_rows.proofs.Asking.{asked-long, asked-bad, asked-good}
use Rattle.requirements.specs.Requirements.{module_rows}
use Rattle.requirements.proofs.Filling.{requires-stop, room-is, fills-full, fills-good}
use Rattle.requirements.proofs.module.requirements_from_module.Goals as goal

pub returns-then-file-gt-MAX_FILE : goal.returns-then-file-gt-MAX_FILE
unfolding module_rows
returns-then-file-gt-MAX_FILE c =
    let e = c.refuse.ensures in
    requires-stop (asked-long _ _ _ _ c.if-file-gt-MAX_FILE.true) e.0 e.1 e.2

pub returns-then-room-found : goal.returns-then-room-found
unfolding module_rows
returns-then-room-found c =
    let a = c.args in
    let good = sym c.check_imports.ensures ∙ ap said_by c.in_default.is in
    let listed = asked-good a.file.now a.imports.cells.now a.imports.count _ c.if-file-gt-MAX_FILE.false good in
    let f = c.list_functions-found.ensures in
    let e = c.refuse-then-room-found.ensures in
    requires-stop (listed ∙ fills-full f (room-is _ _ c.capacity-most.ensures c.capacity-room.ensures) c.if-room-found.true) e.0
    (e.1 ∙ ap (λ (m : ℕ). laid m []) f.in-domains.long) (e.2 ∙ ap (λ (m : ℕ). laid m []) f.in_rows.long)

pub returns-in-Err : goal.returns-in-Err
unfolding module_rows
returns-in-Err c =
    let e = c.refuse-in-Err.ensures in
    requires-stop (asked-bad _ _ _ _ c.if-file-gt-MAX_FILE.false (sym c.check_imports.ensures ∙ ap said_by c.in-Err.is))
    e.0 e.1 e.2

pub returns : goal.returns
unfolding module_rows
returns c =
    let a = c.args in
    fills-good c.list_functions-found.ensures (room-is _ _ c.capacity-most.ensures c.capacity-room.ensures) c.if-room-found.false
    (asked-good a.file.now a.imports.cells.now a.imports.count _ c.if-file-gt-MAX_FILE.false (sym c.check_imports.ensures ∙ ap said_by c.in_default.is))
