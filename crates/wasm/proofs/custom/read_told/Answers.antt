-- `wasm::custom::read_told` meets its contract. Assumes nothing.
use mathlib.Core.Path.{refl}
use native.Mathlib.Omega.{arith}
use borrow.Author.Tests.{ne_eqb}
use Rattle.table.specs.Table.{Lies}
use Rattle.table.proofs.Telling.{tell-got, tell-after, tell-after-stop}
use Rattle.wasm.specs.Custom.{NamesHeld, told_by}
use Rattle.wasm.proofs.Customs.{told-label, named-is, named_count}
use Rattle.wasm.proofs.Reading.{given_back}
use Rattle.wasm.proofs.custom.read_told.Goals as goal

pub returns-in-0 : goal.returns-in-0
unfolding told_by
returns-in-0 c t n h = simp c.in-0.is (told-label _ _ t _ _ _ (c.read_label.ensures t n) h)

pub returns-in_err-count-in-1 : goal.returns-in_err-count-in-1
unfolding told_by NamesHeld
returns-in_err-count-in-1 c t n h =
    rw (given_back _ _ c.from_residual.ensures)
    (simp c.in-1.is (tell-after-stop _ (c.in_err-count-in-1.ensures t.symbols h (named_count _ t n)) refl))

pub returns-in_ok-count-in-1 : goal.returns-in_ok-count-in-1
unfolding told_by NamesHeld Lies
returns-in_ok-count-in-1 c t n h =
    simp c.in-1.is
    (tell-after _ (c.in_ok-count-in-1.ensures t.symbols h (named_count _ t n)) refl
    (λ rows q v w. tell-got _ _ refl (named-is _ t _ rows n v) w))

pub returns-in_default : goal.returns-in_default
unfolding told_by
returns-in_default c t n h =
    simp (ne_eqb c.args.id 0 (omega arith), ne_eqb c.args.id 1 (omega arith)) (tell-got t 0 refl n h)
