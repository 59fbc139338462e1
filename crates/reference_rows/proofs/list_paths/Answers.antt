-- `reference_rows::list_paths` meets its contract. Assumes nothing.
use mathlib.Core.Path.{sym, ◌∙◌, ap}
use Rattle.refusal.specs.Said.{said_by}
use Rattle.table.proofs.Listing.{lists-stop}
use Rattle.reference_rows.proofs.Asking.{paths-bad, paths-good, listed-as, sorts-listed}
use Rattle.reference_rows.proofs.list_paths.Goals as goal

pub returns-in-Err : goal.returns-in-Err
returns-in-Err c =
    lists-stop (paths-bad _ _ _ _ _ _ _ (sym c.check_manifest.ensures ∙ ap said_by c.in-Err.is))
    c.clear.ensures

pub returns : goal.returns
returns c =
    listed-as (paths-good _ _ _ _ _ _ _ (sym c.check_manifest.ensures ∙ ap said_by c.in_default.is))
    (sorts-listed 15 _ _ _ c.ok_or.ensures.value c.sort_paths.ensures)
