-- White_Space, from Unicode's PropList.txt: the lines as printed there, in their order. Assumes nothing.
use Rattle.std.specs.Prelude.{Bool, List, [], ◌∷◌, ℕ}
use Rattle.text.specs.Ranges.{Range, ◌to◌, in_some}

unfoldable pub whites : List Range
whites =
    0x0009 to 0x000D
    ∷ 0x0020 to 0x0020
    ∷ 0x0085 to 0x0085
    ∷ 0x00A0 to 0x00A0
    ∷ 0x1680 to 0x1680
    ∷ 0x2000 to 0x200A
    ∷ 0x2028 to 0x2028
    ∷ 0x2029 to 0x2029
    ∷ 0x202F to 0x202F
    ∷ 0x205F to 0x205F
    ∷ 0x3000 to 0x3000
    ∷ []

unfoldable pub is_white : ℕ → Bool
unfolding whites
is_white c = in_some whites c
