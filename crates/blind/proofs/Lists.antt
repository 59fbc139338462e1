-- Tests, functions and lines that agree on a list of rows. Assumes nothing.
use mathlib.Core.Path.{◌≡◌, refl}
use mathlib.Core.Bool.{Bool}
use mathlib.Core.List.Memᴰ
use mathlib.Core.List.{List, [], ◌∷◌, map}
use Prim.Native.Nat.{ℕ, zero, suc, ◌<◌}
use native.Mathlib.Omega.{arith}
use Rattle.refusal.specs.Said.{Said, accepted, refused, follow}
use Rattle.sorting.specs.Sort.{◌∈◌, selected}
use Rattle.reasons.specs.Reasons.{reason_lines}

pub keep-agree : {A : Type 0} (p q : A → Bool) (l : List A) → ((x : A) → x ∈ l → p x ≡ q x) → selected p l ≡ selected q l
keep-agree p q [] h = refl
keep-agree p q (x ∷ l) h = rw (h x (Memᴰ.head refl), keep-agree p q l (λ y m. h y (Memᴰ.tail m)))

pub map-agree : {A B : Type 0} (f g : A → B) (l : List A) → ((x : A) → x ∈ l → f x ≡ g x) → map f l ≡ map g l
map-agree f g [] h = refl
map-agree f g (x ∷ l) h = rw (h x (Memᴰ.head refl), map-agree f g l (λ y m. h y (Memᴰ.tail m)))

pub lines-agree : (f g : ℕ → List ℕ) (n : ℕ) → ((i : ℕ) → i < n → f i ≡ g i) → reason_lines f n ≡ reason_lines g n
unfolding reason_lines
lines-agree f g zero h = refl
lines-agree f g (suc n) h = rw (h n (omega arith), lines-agree f g n (λ i l. h i (omega arith)))

-- calls that agree where they are reached
pub follow-agree : {X Y : Type 0} (x : Said X) (f g : X → Said Y) → ((v : X) → x ≡ accepted v → f v ≡ g v) → follow x f ≡ follow x g
unfolding follow
follow-agree (accepted v) f g h = h v refl
follow-agree (refused n p) f g h = refl
