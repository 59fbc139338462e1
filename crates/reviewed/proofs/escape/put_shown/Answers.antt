-- `escape::put_shown` meets its contract. Assumes nothing.
use mathlib.Core.Path.{sym, ap, ◌∙◌}
use lib.ListN.{get_or}
use Rattle.reviewed.proofs.Escapes.{shown-plain, shown-coded}
use Rattle.reviewed.proofs.Telling.{added-same}
use Rattle.reviewed.proofs.escape.put_shown.Goals as goal

pub returns-then-is_plain-clause-added : goal.returns-then-is_plain-clause-added
returns-then-is_plain-clause-added c = added-same (shown-plain _ (sym c.if-is_plain.true ∙ c.is_plain.ensures)) c.put.ensures.added

pub returns-else-is_plain-clause-added : goal.returns-else-is_plain-clause-added
returns-else-is_plain-clause-added c =
    let plain = sym c.if-is_plain.false ∙ c.is_plain.ensures in
    let high = ap (λ digits. get_or digits 0 0) c.hex.ensures in
    let low = ap (λ digits. get_or digits 1 0) c.hex.ensures in
    let coded = shown-coded _ plain high low in
    added-same coded c.put-else-is_plain.ensures.added
