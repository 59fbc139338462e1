-- Worked examples of the definitions. Assumes nothing.
use mathlib.Core.Path.{◌≡◌, refl}
use mathlib.Core.List.{[], ◌∷◌}
use Rattle.report.specs.Decimal.{digits, decimal_of}
use Rattle.report.specs.Texts.{refused_text}

zero_is : decimal_of 0 ≡ 48 ∷ []
unfolding decimal_of digits
zero_is = refl

-- 65536
many-are : decimal_of 65536 ≡ 54 ∷ 53 ∷ 53 ∷ 51 ∷ 54 ∷ []
unfolding decimal_of digits
many-are = refl

-- refused 14 at 0
too-long-is : refused_text 14 0 ≡ 114 ∷ 101 ∷ 102 ∷ 117 ∷ 115 ∷ 101 ∷ 100 ∷ 32 ∷ 49 ∷ 52 ∷ 32 ∷ 97 ∷ 116 ∷ 32 ∷ 48 ∷ 10 ∷ []
unfolding refused_text decimal_of digits
too-long-is = refl
