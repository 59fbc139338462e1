-- Every element of a list has a property. Assumes nothing.
use Rattle.std.specs.Prelude.{List, [], ◌∷◌}

pub data Each {E : Type 0} (P : E → Type 0) : List E → Type 0 where
  each_nil : Each P []
  each-cons : {e : E} {es : List E} → P e → Each P es → Each P (e ∷ es)
