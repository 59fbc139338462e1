-- `list_builds` meets its contract. Assumes nothing.
use Rattle.listed.specs.Comparisons.{comparison_bytes, comparison_told}
use Rattle.listed.proofs.Laying.{delivers-none}
use Rattle.conform.proofs.Found.{module-refused, module-found}
use Rattle.listed.proofs.OfComparison.{baseline-stops, baseline-read}
use Rattle.listed.proofs.comparison.list_builds.Goals as goal

pub returns-in-Err : goal.returns-in-Err
returns-in-Err c =
    delivers-none comparison_bytes comparison_told (baseline-stops _ _ (module-refused _ _ c.read_rows.ensures.2 c.in-Err.is))
    c.no_comparison.ensures

pub returns-in-Ok : goal.returns-in-Ok
returns-in-Ok c = baseline-read _ (module-found _ _ c.read_rows.ensures.2 c.in-Ok.is) c.list_against.ensures
