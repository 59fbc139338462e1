-- `wasm::custom::read_label` meets its contract. Assumes nothing.
use mathlib.Core.Path.{refl, ◌∙◌, ap}
use Rattle.table.specs.Told.{mapped}
use Rattle.table.proofs.Telling.{map_first, map_next}
use Rattle.wasm.specs.declared.custom.Named.{Named}
use Rattle.wasm.specs.Custom.{named_of, label_at}
use Rattle.wasm.proofs.Reading.{heard, unheard, given_back}
use Rattle.wasm.proofs.custom.read_label.Goals as goal

pub returns-in_err-name : goal.returns-in_err-name
unfolding label_at
returns-in_err-name c t n =
    given_back _ _ c.from_residual.ensures ∙ map_first _ _ (unheard _ _ _ c.in_err-name.ensures) refl

pub returns : goal.returns
unfolding label_at mapped named_of
returns c t n = map_next _ _ (heard _ _ c.in_ok-name.ensures) (rw (c.shift.ensures, ap (λ (x : Named). x.count) n))
