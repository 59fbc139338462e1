-- docs/RULES.md, "Texts": texts compared byte by byte, one before another that it begins. Assumes nothing.
use Rattle.std.specs.Prelude.{List, [], ◌∷◌, ℕ, ltb}
use Rattle.refusal.specs.Pick.{pick}
use Rattle.std.specs.declared.cmp.Ordering.{Ordering}
use Rattle.std.specs.declared.cmp.Ordering.TheVariants.{Less, Equal, Greater}

abbrev pub cmp_nat : ℕ → ℕ → Ordering
cmp_nat x y = pick (ltb x y) Less (pick (ltb y x) Greater Equal)

-- the first answer, unless it is Equal; then the second
abbrev pub and_then : Ordering → Ordering → Ordering
and_then Less o = Less
and_then Equal o = o
and_then Greater o = Greater

unfoldable pub cmp_bytes : List ℕ → List ℕ → Ordering
cmp_bytes [] [] = Equal
cmp_bytes [] (y ∷ t) = Less
cmp_bytes (x ∷ s) [] = Greater
cmp_bytes (x ∷ s) (y ∷ t) = and_then (cmp_nat x y) (cmp_bytes s t)

abbrev pub flip : Ordering → Ordering
flip Less = Greater
flip Equal = Equal
flip Greater = Less
