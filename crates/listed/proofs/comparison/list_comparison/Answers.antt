-- `list_comparison` meets its contract. Assumes nothing.
use native.Mathlib.Omega.{arith}
use Rattle.listed.specs.Comparisons.{comparison_bytes, comparison_told}
use Rattle.listed.proofs.Laying.{delivers-none}
use Rattle.listed.proofs.OfComparison.{either-long, builds-read}
use Rattle.listed.proofs.comparison.list_comparison.Goals as goal

pub returns-then-baseline-gt-MAX_FILE : goal.returns-then-baseline-gt-MAX_FILE
returns-then-baseline-gt-MAX_FILE c =
    delivers-none comparison_bytes comparison_told (either-long _ _ c.then-baseline-gt-MAX_FILE.either) c.no_comparison.ensures

pub returns : goal.returns
returns c = builds-read _ _ (omega arith) (omega arith) c.list_builds.ensures
