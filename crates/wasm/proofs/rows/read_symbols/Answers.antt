-- `wasm::rows::read_symbols` meets its contract. Assumes nothing.
use Rattle.wasm.specs.Rows.{symbols_of}
use Rattle.wasm.proofs.rows.read_symbols.Goals as goal

pub returns : goal.returns
unfolding symbols_of
returns c = c.read_rows.ensures
