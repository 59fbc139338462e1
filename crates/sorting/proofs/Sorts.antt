-- Laws of the sorted list: it ascends, has an element for each of the list, and no other list does. Assumes nothing.
use mathlib.Core.Path.{◌≡◌, refl, sym, ◌∙◌, ap, subst}
use mathlib.Core.Logic.{◌⊎◌, inl, inr, ⊎_elim}
use mathlib.Core.List.Memᴰ
use mathlib.Core.List.{List, [], ◌∷◌, ◌++◌, map, append-nil}
use Prim.Native.Nat.{ℕ, zero, suc, ◌≤◌, ◌<◌}
use native.Mathlib.Nat.{le_of_suc-le-suc, not-suc-le-zero}
use native.Mathlib.Omega.{arith}
use lib.ListN.{length, get_or}
use Rattle.text.specs.Order.{flip}
use Rattle.std.specs.declared.cmp.Ordering.{Ordering}
use Rattle.std.specs.declared.cmp.Ordering.TheVariants.{Less, Equal, Greater}
use Rattle.sorting.specs.Order.{Joins, Lawful}
use Rattle.sorting.specs.Sort.{◌∈◌, place, put_in_order, sort, Before, Ascending}

module _ {A : Type 0} (cmp : A → A → Ordering) where
  -- x ties with no element of l
  abbrev pub NoTie : A → List A → Type 0
  NoTie x [] = Unit {0}
  NoTie x (y ∷ l) = (cmp x y ≡ Equal → ⊥) × NoTie x l

  -- an element of l ties with x
  abbrev pub Tied : A → List A → Type 0
  Tied x l = (t : A) × (t ∈ l) × (cmp x t ≡ Equal)

-- two constructors are not equal
apart : {o : Ordering} → o ≡ Less → o ≡ Greater → ⊥
apart p q = let z : ◌≡◌ {A = ℕ} 0 1 = cc in omega arith

module _ {A : Type 0} (cmp : A → A → Ordering) (laws : Lawful cmp) where
  -- two that do not tie can be put in in either order
  put-lt : (x y : A) → cmp x y ≡ Less → (l : List A) → put_in_order cmp x (put_in_order cmp y l) ≡ put_in_order cmp y (put_in_order cmp x l)
  put-lt x y h [] = let k : cmp y x ≡ Greater = laws.turn x y ∙ ap flip h in simp (h, k)
  put-lt x y h (z ∷ l) = go (cmp y z) (cmp x z) refl refl (put-lt x y h l)
    where
      k : cmp y x ≡ Greater
      k = laws.turn x y ∙ ap flip h

      j : Joins Less (cmp y z) (cmp x z)
      j = subst (λ (o : Ordering). Joins o (cmp y z) (cmp x z)) h (laws.join x y z)

      go : (o p : Ordering) → cmp y z ≡ o → cmp x z ≡ p
          → put_in_order cmp x (put_in_order cmp y l) ≡ put_in_order cmp y (put_in_order cmp x l)
          → put_in_order cmp x (put_in_order cmp y (z ∷ l)) ≡ put_in_order cmp y (put_in_order cmp x (z ∷ l))
      go Less p e f ih = let g : cmp x z ≡ Less = rw e at j in simp (h, k, e, g)
      go Equal p e f ih = let g : cmp x z ≡ Less = rw e at j in simp (h, k, e, g)
      go Greater Less e f ih = simp (k, e, f)
      go Greater Equal e f ih = simp (k, e, f)
      go Greater Greater e f ih = simp (e, f, ih)

  pub put-comm : (x y : A) → (cmp x y ≡ Equal → ⊥) → (l : List A)
      → put_in_order cmp x (put_in_order cmp y l) ≡ put_in_order cmp y (put_in_order cmp x l)
  put-comm x y h l = go (cmp x y) refl
    where
      go : (o : Ordering) → cmp x y ≡ o → put_in_order cmp x (put_in_order cmp y l) ≡ put_in_order cmp y (put_in_order cmp x l)
      go Less e = put-lt x y e l
      go Equal e = absurd (h e)
      go Greater e = sym (put-lt y x (laws.turn x y ∙ ap flip e) l)

  -- what ties with nothing in xs can be put in before xs or after
  put-past : (y : A) (xs : List A) → NoTie cmp y xs → (ys : List A) → put_in_order cmp y (sort cmp (xs ++ ys)) ≡ sort cmp (xs ++ y ∷ ys)
  put-past y [] n ys = refl
  put-past y (x ∷ xs) n ys = put-comm y x n.0 (sort cmp (xs ++ ys)) ∙ ap (put_in_order cmp x) (put-past y xs n.1 ys)

  -- two lists with no tie across can be sorted in either order
  pub sort-swap : (xs ys : List A) → ((y : A) → y ∈ ys → NoTie cmp y xs) → sort cmp (xs ++ ys) ≡ sort cmp (ys ++ xs)
  sort-swap xs [] n = ap (sort cmp) (append-nil xs)
  sort-swap xs (y ∷ ys) n =
      sym (put-past y xs (n y (Memᴰ.head refl)) ys) ∙ ap (put_in_order cmp y) (sort-swap xs ys (λ z m. n z (Memᴰ.tail m)))

  -- x ties with itself
  pub tie-self : (x : A) → cmp x x ≡ Equal
  tie-self x = go (cmp x x) (laws.turn x x)
    where
      go : (o : Ordering) → o ≡ flip o → o ≡ Equal
      go Less e = absurd (apart {o = Less} refl e)
      go Equal e = refl
      go Greater e = absurd (apart {o = Greater} e refl)

  -- a sorted list has only what the list has, and for each element of the list one that ties with it
  put_only : (x e : A) (l : List A) → e ∈ put_in_order cmp x l → (e ≡ x) ⊎ (e ∈ l)
  put_only x e [] m = Memᴰ.cases_cons m
  put_only x e (y ∷ l) m = go (cmp x y) m (put_only x e l)
    where
      go : (o : Ordering) → e ∈ place o x y l (put_in_order cmp x l) → (e ∈ put_in_order cmp x l → (e ≡ x) ⊎ (e ∈ l))
          → (e ≡ x) ⊎ (e ∈ (y ∷ l))
      go Less m ih = Memᴰ.cases_cons m
      go Equal m ih = ⊎_elim inl (λ t. inr (Memᴰ.tail t)) (Memᴰ.cases_cons m)
      go Greater m ih = ⊎_elim (λ p. inr (Memᴰ.head p)) (λ t. ⊎_elim inl (λ u. inr (Memᴰ.tail u)) (ih t)) (Memᴰ.cases_cons m)

  pub sort-only : (e : A) (l : List A) → e ∈ sort cmp l → e ∈ l
  sort-only e [] m = m
  sort-only e (x ∷ l) m = ⊎_elim (λ p. Memᴰ.head p) (λ t. Memᴰ.tail (sort-only e l t)) (put_only x e (sort cmp l) m)

  pub put_has : (x : A) (l : List A) → x ∈ put_in_order cmp x l
  put_has x [] = Memᴰ.head refl
  put_has x (y ∷ l) = go (cmp x y) (put_has x l)
    where
      go : (o : Ordering) → x ∈ put_in_order cmp x l → x ∈ place o x y l (put_in_order cmp x l)
      go Less ih = Memᴰ.head refl
      go Equal ih = Memᴰ.head refl
      go Greater ih = Memᴰ.tail ih

  put_keeps : (x e : A) (l : List A) → e ∈ l → Tied cmp e (put_in_order cmp x l)
  put_keeps x e [] m = absurd (Memᴰ.not-nil m)
  put_keeps x e (y ∷ l) m = go (cmp x y) refl (Memᴰ.cases_cons m) (put_keeps x e l)
    where
      go : (o : Ordering) → cmp x y ≡ o → (e ≡ y) ⊎ (e ∈ l) → (e ∈ l → Tied cmp e (put_in_order cmp x l))
          → Tied cmp e (place o x y l (put_in_order cmp x l))
      go Less q c ih = (e, Memᴰ.tail m, tie-self e)
      go Equal q (inl p) ih = (x, Memᴰ.head refl, rw p (laws.turn x y ∙ ap flip q))
      go Equal q (inr t) ih = (e, Memᴰ.tail t, tie-self e)
      go Greater q (inl p) ih = (e, Memᴰ.head p, tie-self e)
      go Greater q (inr t) ih = let s = ih t in (s.0, Memᴰ.tail s.1, s.2)

  pub sort-has : (e : A) (l : List A) → e ∈ l → Tied cmp e (sort cmp l)
  sort-has e [] m = absurd (Memᴰ.not-nil m)
  sort-has e (x ∷ l) m = go (Memᴰ.cases_cons m) (sort-has e l)
    where
      go : (e ≡ x) ⊎ (e ∈ l) → (e ∈ l → Tied cmp e (sort cmp l)) → Tied cmp e (put_in_order cmp x (sort cmp l))
      go (inl p) ih = (x, put_has x (sort cmp l), rw p (tie-self x))
      go (inr t) ih =
          let s = ih t in
          let u = put_keeps x s.0 (sort cmp l) s.1 in
          let j = laws.join e s.0 u.0 in
          let k : cmp e u.0 ≡ cmp s.0 u.0 = rw s.2 at j in
          (u.0, u.1, k ∙ u.2)

  -- where only equals tie, a sorted list has all that the list has
  pub sort-all : (l : List A) → ((x y : A) → x ∈ l → y ∈ l → cmp x y ≡ Equal → x ≡ y) → (e : A) → e ∈ l → e ∈ sort cmp l
  sort-all l same e m =
      let t = sort-has e l m in
      Memᴰ.cast (same e t.0 m (sort-only t.0 l t.1) t.2) t.1

  -- a sorted list ascends
  pub before-lt : (x y : A) (l : List A) → cmp x y ≡ Less → Before cmp y l → Before cmp x l
  before-lt x y [] h b = tt
  before-lt x y (z ∷ l) h b = (rw (h, b.0) at (laws.join x y z), before-lt x y l h b.1)

  pub before-eq : (x y : A) (l : List A) → cmp x y ≡ Equal → Before cmp y l → Before cmp x l
  before-eq x y [] h b = tt
  before-eq x y (z ∷ l) h b = (rw (h, b.0) at (laws.join x y z), before-eq x y l h b.1)

  before-put : (z x : A) (l : List A) → cmp z x ≡ Less → Before cmp z l → Before cmp z (put_in_order cmp x l)
  before-put z x [] h b = (h, tt)
  before-put z x (y ∷ l) h b = go (cmp x y) (before-put z x l h b.1)
    where
      go : (o : Ordering) → Before cmp z (put_in_order cmp x l) → Before cmp z (place o x y l (put_in_order cmp x l))
      go Less ih = (h, b)
      go Equal ih = (h, b.1)
      go Greater ih = (b.0, ih)

  pub put-ascends : (x : A) (l : List A) → Ascending cmp l → Ascending cmp (put_in_order cmp x l)
  put-ascends x [] a = (tt, tt)
  put-ascends x (y ∷ l) a = go (cmp x y) refl (put-ascends x l a.1)
    where
      go : (o : Ordering) → cmp x y ≡ o → Ascending cmp (put_in_order cmp x l) → Ascending cmp (place o x y l (put_in_order cmp x l))
      go Less h ih = ((h, before-lt x y l h a.0), a)
      go Equal h ih = (before-eq x y l h a.0, a.1)
      go Greater h ih = (before-put y x l (laws.turn x y ∙ ap flip h) a.0, ih)

  pub sort-ascends : (l : List A) → Ascending cmp (sort cmp l)
  sort-ascends [] = tt
  sort-ascends (x ∷ l) = put-ascends x (sort cmp l) (sort-ascends l)

  -- a list that ascends is known by its elements
  pub mem-before : (x e : A) (l : List A) → Before cmp x l → e ∈ l → cmp x e ≡ Less
  mem-before x e [] b m = absurd (Memᴰ.not-nil m)
  mem-before x e (y ∷ l) b m = ⊎_elim (λ p. rw p b.0) (λ t. mem-before x e l b.1 t) (Memᴰ.cases_cons m)

  not-both : (x y : A) → cmp x y ≡ Less → cmp y x ≡ Less → ⊥
  not-both x y h k = apart k (laws.turn x y ∙ ap flip h)

  below_rest : (x y : A) (l m : List A) → x ≡ y → Before cmp x l → ((e : A) → e ∈ (x ∷ l) → e ∈ (y ∷ m)) → (e : A) → e ∈ l → e ∈ m
  below_rest x y l m p b f e i =
      ⊎_elim (λ q. absurd (not-both x x (loop q) (loop q))) (λ t. t) (Memᴰ.cases_cons (f e (Memᴰ.tail i)))
    where
      loop : e ≡ y → cmp x x ≡ Less
      loop q = subst (λ (z : A). cmp x z ≡ Less) (q ∙ sym p) (mem-before x e l b i)

  pub ascending-unique : (l m : List A) → Ascending cmp l → Ascending cmp m → ((e : A) → e ∈ l → e ∈ m) → ((e : A) → e ∈ m → e ∈ l) → l ≡ m
  ascending-unique [] [] a b f g = refl
  ascending-unique [] (y ∷ m) a b f g = absurd (Memᴰ.not-nil (g y (Memᴰ.head refl)))
  ascending-unique (x ∷ l) [] a b f g = absurd (Memᴰ.not-nil (f x (Memᴰ.head refl)))
  ascending-unique (x ∷ l) (y ∷ m) a b f g =
      let p : x ≡ y = heads (Memᴰ.cases_cons (f x (Memᴰ.head refl))) (Memᴰ.cases_cons (g y (Memᴰ.head refl))) in
      let q : l ≡ m = ascending-unique l m a.1 b.1 (below_rest x y l m p a.0 f) (below_rest y x m l (sym p) b.0 g) in
      cc
    where
      heads : (x ≡ y) ⊎ (x ∈ m) → (y ≡ x) ⊎ (y ∈ l) → x ≡ y
      heads (inl p) r = p
      heads (inr s) (inl q) = sym q
      heads (inr s) (inr t) = absurd (not-both x y (mem-before x y l a.0 t) (mem-before y x m b.0 s))

-- a function that keeps the comparison keeps the sorted list
module _ {A B : Type 0} (c : A → A → Ordering) (d : B → B → Ordering) (f : A → B) (keeps : (x y : A) → d (f x) (f y) ≡ c x y) where
  put_map : (x : A) (l : List A) → put_in_order d (f x) (map f l) ≡ map f (put_in_order c x l)
  put_map x [] = refl
  put_map x (y ∷ l) = rw (keeps x y, put_map x l) (go (c x y))
    where
      go : (o : Ordering) → place o (f x) (f y) (map f l) (map f (put_in_order c x l)) ≡ map f (place o x y l (put_in_order c x l))
      go Less = refl
      go Equal = refl
      go Greater = refl

  pub sort-map : (l : List A) → sort d (map f l) ≡ map f (sort c l)
  sort-map [] = refl
  sort-map (x ∷ l) = rw (sort-map l) (put_map x (sort c l))

-- how long
module _ {A : Type 0} (cmp : A → A → Ordering) where
  put-length : (x : A) (l : List A) → (length l ≤ length (put_in_order cmp x l)) × (length (put_in_order cmp x l) ≤ suc (length l))
  put-length x [] = (omega arith, omega arith)
  put-length x (y ∷ l) = go (cmp x y) (put-length x l)
    where
      go : (o : Ordering) → (length l ≤ length (put_in_order cmp x l)) × (length (put_in_order cmp x l) ≤ suc (length l))
          → (length (y ∷ l) ≤ length (place o x y l (put_in_order cmp x l))) ×
          (length (place o x y l (put_in_order cmp x l)) ≤ suc (length (y ∷ l)))
      go Less ih = (omega arith, omega arith)
      go Equal ih = (omega arith, omega arith)
      go Greater ih = (omega arith, omega arith)

  pub put-grows : (x : A) (l : List A) → length l ≤ length (put_in_order cmp x l)
  put-grows x l = (put-length x l).0

  pub sort-length : (l : List A) → length (sort cmp l) ≤ length l
  sort-length [] = omega arith
  sort-length (x ∷ l) = omega (arith, (put-length x (sort cmp l)).1, sort-length l)

-- what stands at an index is an element
pub get_d-mem : {A : Type 0} (d : A) (l : List A) (j : ℕ) → j < length l → get_or l j d ∈ l
get_d-mem d [] j h = absurd (not-suc-le-zero h)
get_d-mem d (x ∷ l) zero h = Memᴰ.head refl
get_d-mem d (x ∷ l) (suc j) h = Memᴰ.tail (get_d-mem d l j (le_of_suc-le-suc h))
