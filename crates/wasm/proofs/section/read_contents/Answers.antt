-- `wasm::section::read_contents` meets its contract: each id has its own reader and table, and the others stay. Assumes nothing.
use mathlib.Core.Path.{refl}
use native.Mathlib.Omega.{arith}
use borrow.Author.Tests.{ne_eqb}
use Rattle.wasm.proofs.Framing.{zero-stop, zero-got, two-stop, two-got, seven-stop, seven-got, other-got, names_of, listed}
use Rattle.wasm.proofs.Reading.{given_back}
use Rattle.wasm.proofs.section.read_contents.Goals as goal

pub returns-in_err-custom-in-0-clause-read : goal.returns-in_err-custom-in-0-clause-read
returns-in_err-custom-in-0-clause-read c t n h =
    rw (given_back _ _ c.from_residual.ensures)
    (zero-stop _ _ _ t h c.in-0.is _ (c.in_err-custom-in-0.ensures t.names (names_of _ t n) (listed h)) refl)

pub returns-in_ok-custom-in-0-clause-read : goal.returns-in_ok-custom-in-0-clause-read
returns-in_ok-custom-in-0-clause-read c t n h =
    zero-got _ _ _ t h c.in-0.is _ (c.in_ok-custom-in-0.ensures t.names (names_of _ t n) (listed h)) _ refl n refl

pub returns-in_err-rows-in-2-clause-read : goal.returns-in_err-rows-in-2-clause-read
returns-in_err-rows-in-2-clause-read c t n h =
    rw (given_back _ _ c.from_residual-in_err-rows-in-2.ensures) (two-stop _ _ _ t h c.in-2.is _ c.in_err-rows-in-2.ensures refl)

pub returns-in_ok-rows-in-2-clause-read : goal.returns-in_ok-rows-in-2-clause-read
returns-in_ok-rows-in-2-clause-read c t n h = two-got _ _ _ t h c.in-2.is _ c.in_ok-rows-in-2.ensures _ refl n refl

pub returns-in_err-rows-in-7-clause-read : goal.returns-in_err-rows-in-7-clause-read
returns-in_err-rows-in-7-clause-read c t n h =
    rw (given_back _ _ c.from_residual-in_err-rows-in-7.ensures) (seven-stop _ _ _ t h c.in-7.is _ c.in_err-rows-in-7.ensures refl)

pub returns-in_ok-rows-in-7-clause-read : goal.returns-in_ok-rows-in-7-clause-read
returns-in_ok-rows-in-7-clause-read c t n h = seven-got _ _ _ t h c.in-7.is _ c.in_ok-rows-in-7.ensures _ refl n refl

pub returns-in_default-clause-read : goal.returns-in_default-clause-read
returns-in_default-clause-read c t n h =
    let i = c.args.id in
    other-got _ _ _ t h _ (ne_eqb i 0 (omega arith)) (ne_eqb i 2 (omega arith)) (ne_eqb i 7 (omega arith)) n
