-- A list that `map` gave, from what each call gave. Assumes nothing.
use Prim.Native.Nat.{ℕ, zero, suc, ◌+◌, ◌<◌}
use native.Mathlib.Omega.{arith}
use mathlib.Core.Path.{◌≡◌, refl, ◌∙◌, ap, ap₂}
use mathlib.Core.List.{List, [], ◌∷◌}
use lib.ListN.{length, get_or}

-- n values from place i on
abbrev pub placed : {B : Type 0} → (ℕ → B) → ℕ → ℕ → List B
placed f i zero = []
placed f i (suc n) = f i ∷ placed f (suc i) n

tabled : {B : Type 0} (f : ℕ → B) (i : ℕ) (ys : List B) → ((k : ℕ) (e : B) → k < length ys → get_or ys k e ≡ f (i + k))
    → ys ≡ placed f i (length ys)
tabled f i [] h = refl
tabled f i (y ∷ ys) h =
    let a : y ≡ f i = h 0 y (omega arith) ∙ ap f (omega arith) in
    let b = tabled f (suc i) ys (λ k e l. h (suc k) e (omega (arith, l)) ∙ ap f (omega arith)) in
    ap₂ (λ z zs. z ∷ zs) a b

pub told-of : {B : Type 0} (f : ℕ → B) (n : ℕ) (ys : List B) → length ys ≡ n → ((k : ℕ) (e : B) → k < n → get_or ys k e ≡ f k)
    → ys ≡ placed f 0 n
told-of f n ys l h =
    tabled f 0 ys (λ k e u. h k e (omega (arith, l, u)) ∙ ap f (omega arith)) ∙ ap (placed f 0) l
