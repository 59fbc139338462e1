-- docs/RULES.md, "Programs": the line of a refusal. Assumes nothing.
use Rattle.std.specs.Prelude.{List, [], ◌∷◌, ◌++◌, ℕ}
use Rattle.report.specs.Decimal.{decimal_of}
use Rattle.report.specs.Words.{refused_w, at_w}

abbrev pub lf : List ℕ
lf = 10 ∷ []

-- `refused N at P`
unfoldable pub refused_text : ℕ → ℕ → List ℕ
refused_text number place = refused_w ++ (decimal_of number ++ (at_w ++ (decimal_of place ++ lf)))
