-- `wasm::rows::read_imports` meets its contract. Assumes nothing.
use mathlib.Core.Path.{refl, sym, ◌∙◌, ap}
use mathlib.Core.List.{[]}
use Rattle.table.specs.Table.{laid, cells}
use Rattle.wasm.specs.Rows.{imports_of}
use Rattle.wasm.proofs.rows.read_imports.Goals as goal

pub returns : goal.returns
unfolding imports_of cells
returns c =
    let e = c.clear in
    rw e.auto.table at (c.read_rows.ensures [] (e.ensures ∙ ap (λ n. laid n []) (sym e.auto.table)) refl)
