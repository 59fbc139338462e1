-- `interfaces::requirements_from_manifest` meets its contract. Assumes nothing.
use Prim.Native.Nat.{ℕ}
use mathlib.Core.Path.{sym, ◌∙◌, ap}
use mathlib.Core.List.{[]}
use Rattle.refusal.specs.Said.{said_by}
use Rattle.table.specs.Table.{laid}
use Rattle.requirements.proofs.Filling.{requires-stop, room-is, fills-good}
use Rattle.requirements.proofs.Asking.{manifest-bad, listed, full-rows, over-rows, filled}
use Rattle.requirements.proofs.manifest.requirements_from_manifest.Goals as goal

pub returns-in_default-sort : goal.returns-in_default-sort
returns-in_default-sort c =
    let a = c.args in
    let m = a.manifest in
    let good = sym c.check_manifest.ensures ∙ ap said_by c.in_default.is in
    let e = c.refuse-in_default-sort.ensures in
    requires-stop
    (full-rows m.text.now m.worlds.cells.now m.worlds.count m.references.cells.now m.references.count good c.by_name-keys.ensures c.sort.ensures a.domains.now
    c.in_default-sort.is)
    e.0 e.1 (e.2 ∙ ap (λ (m : ℕ). laid m []) c.sort.auto.sorted)

pub returns-then-room-k : goal.returns-then-room-k
returns-then-room-k c =
    let a = c.args in
    let m = a.manifest in
    let good = sym c.check_manifest.ensures ∙ ap said_by c.in_default.is in
    let room = room-is _ _ c.capacity-most.ensures c.capacity-room.ensures in
    let e = c.refuse-then-room-k.ensures in
    requires-stop
    (over-rows m.text.now m.worlds.cells.now m.worlds.count m.references.cells.now m.references.count good c.by_name-keys.ensures c.sort.ensures c.in-Some.is a.domains.now
    room c.if-room-k.true)
    e.0 e.1 (e.2 ∙ ap (λ (m : ℕ). laid m []) c.sort.auto.sorted)

pub returns-in-Err : goal.returns-in-Err
returns-in-Err c =
    let e = c.refuse.ensures in
    requires-stop (manifest-bad _ _ _ _ _ _ (sym c.check_manifest.ensures ∙ ap said_by c.in-Err.is))
    e.0 e.1 e.2

pub returns : goal.returns
returns c =
    let a = c.args in
    let m = a.manifest in
    let good = sym c.check_manifest.ensures ∙ ap said_by c.in_default.is in
    let room = room-is _ _ c.capacity-most.ensures c.capacity-room.ensures in
    let b = c.by_name-keys.ensures in
    fills-good
    (filled m.text.now m.worlds.cells.now m.worlds.count m.references.cells.now m.references.count good b c.sort.ensures c.in-Some.is a.domains.now c.list_domains.ensures
    c.sort.auto.sorted)
    room c.if-room-k.false (listed m.text.now m.worlds.cells.now m.worlds.count m.references.cells.now m.references.count good b c.sort.ensures _)
