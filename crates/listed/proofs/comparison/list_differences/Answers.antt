-- `list_differences` meets its contract. Assumes nothing.
use native.Mathlib.Omega.{arith}
use mathlib.Core.Path.{refl}
use Rattle.listed.specs.Comparisons.{comparison_bytes, comparison_told}
use Rattle.listed.proofs.Laying.{delivers-none}
use Rattle.listed.proofs.OfComparison.{explained-none, lists-refused, lists-found, lists-counted, lists-delivered}
use Rattle.listed.proofs.comparison.list_differences.Goals as goal

pub lay_comparison-requires : goal.lay_comparison-requires
lay_comparison-requires c = lists-counted (lists-found _ _ _ refl refl c.compare_modules.ensures c.in-Ok.is) (omega arith) (omega arith)

pub returns-in-Err : goal.returns-in-Err
returns-in-Err c =
    delivers-none comparison_bytes comparison_told
    (explained-none _ _ (lists-refused _ _ _ refl refl c.compare_modules.ensures c.in-Err.is))
    c.no_comparison.ensures

pub returns-in-Ok : goal.returns-in-Ok
returns-in-Ok c = lists-delivered _ _ (lists-found _ _ _ refl refl c.compare_modules.ensures c.in-Ok.is) c.lay_comparison.ensures
