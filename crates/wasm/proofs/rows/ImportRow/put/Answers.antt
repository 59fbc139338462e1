-- `wasm::rows::ImportRow::put` meets its contract. Assumes nothing.
use Rattle.wasm.proofs.Asked.{import-put}
use Rattle.wasm.proofs.rows.ImportRow.put.Goals as goal

pub returns : goal.returns
returns c = import-put c.args.self _ _ _ _ c.desc_cells-d.ensures c.put_row.ensures
