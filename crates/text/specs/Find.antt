-- docs/RULES.md, "Texts": the first place where what is left of a text passes a test;
-- a text that begins with another, or is it. Assumes nothing.
use Rattle.std.specs.Prelude.{Bool, true, false, List, [], ◌∷◌, ℕ, zero, suc, eqb}
use Rattle.refusal.specs.Pick.{pick, both}

-- the index of the first place of s from which on p holds, s's length where there is none
unfoldable pub seek : (List ℕ → Bool) → List ℕ → ℕ
seek p [] = zero
seek p (x ∷ s) = pick (p (x ∷ s)) zero (suc (seek p s))

-- s begins with w
unfoldable pub begins : List ℕ → List ℕ → Bool
begins [] s = true
begins (c ∷ w) [] = false
begins (c ∷ w) (x ∷ s) = both (eqb x c) (begins w s)

-- s is w
unfoldable pub same : List ℕ → List ℕ → Bool
same [] [] = true
same [] (x ∷ s) = false
same (c ∷ w) [] = false
same (c ∷ w) (x ∷ s) = both (eqb x c) (same w s)

-- the index of the first b in s, s's length where there is none
unfoldable pub index_of : ℕ → List ℕ → ℕ
index_of b s = seek (begins (b ∷ [])) s

-- the index of the first a with b just after it
unfoldable pub index_of2 : ℕ → ℕ → List ℕ → ℕ
index_of2 a b s = seek (begins (a ∷ b ∷ [])) s
