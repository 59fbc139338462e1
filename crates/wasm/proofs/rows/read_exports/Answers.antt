-- `wasm::rows::read_exports` meets its contract. Assumes nothing.
use mathlib.Core.Path.{refl, sym, ◌∙◌, ap}
use mathlib.Core.List.{[]}
use Rattle.table.specs.Table.{laid, cells}
use Rattle.wasm.specs.Rows.{exports_of}
use Rattle.wasm.proofs.rows.read_exports.Goals as goal

pub returns : goal.returns
unfolding exports_of cells
returns c =
    let e = c.clear in
    rw e.auto.table at (c.read_rows.ensures [] (e.ensures ∙ ap (λ n. laid n []) (sym e.auto.table)) refl)
