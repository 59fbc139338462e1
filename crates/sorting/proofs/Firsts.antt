-- Which elements a sorted list keeps: of those that tie, the first; where they are numbered upwards, the lowest. Assumes nothing.
use mathlib.Core.Path.{◌≡◌, refl, sym, ◌∙◌, ap, subst}
use mathlib.Core.Logic.{◌⊎◌, inl, inr, ◌↔◌, ⊎_elim}
use mathlib.Core.List.Memᴰ
use mathlib.Core.List.{List, [], ◌∷◌}
use Prim.Native.Nat.{ℕ, ◌≤◌, ◌<◌}
use native.Mathlib.Omega.{arith}
use Rattle.text.specs.Order.{flip}
use Rattle.std.specs.declared.cmp.Ordering.{Ordering}
use Rattle.std.specs.declared.cmp.Ordering.TheVariants.{Less, Equal, Greater}
use Rattle.sorting.specs.Order.{Lawful}
use Rattle.sorting.specs.Sort.{◌∈◌, place, put_in_order, sort, Ascending, First}
use Rattle.sorting.proofs.Sorts.{before-lt, before-eq, mem-before, put_has, sort-ascends}

apart-tie : {o : Ordering} → o ≡ Less → o ≡ Equal → ⊥
apart-tie p q = let z : ◌≡◌ {A = ℕ} 0 1 = cc in omega arith

module _ {A : Type 0} (cmp : A → A → Ordering) (laws : Lawful cmp) where
  lt-no-tie : (x e : A) → cmp x e ≡ Less → cmp e x ≡ Equal → ⊥
  lt-no-tie x e h k = apart-tie h (laws.turn e x ∙ ap flip k)

  put_first : (x e : A) (l : List A) → Ascending cmp l → e ∈ put_in_order cmp x l → (e ≡ x) ⊎ ((cmp e x ≡ Equal → ⊥) × (e ∈ l))
  put_first x e [] a m = ⊎_elim inl (λ t. absurd (Memᴰ.not-nil t)) (Memᴰ.cases_cons m)
  put_first x e (y ∷ l) a m = go (cmp x y) refl m (put_first x e l a.1)
    where
      go : (o : Ordering) → cmp x y ≡ o → e ∈ place o x y l (put_in_order cmp x l)
          → (e ∈ put_in_order cmp x l → (e ≡ x) ⊎ ((cmp e x ≡ Equal → ⊥) × (e ∈ l))) → (e ≡ x) ⊎ ((cmp e x ≡ Equal → ⊥) × (e ∈ (y ∷ l)))
      go Less h i ih =
          ⊎_elim inl (λ t. inr (lt-no-tie x e (mem-before cmp laws x e (y ∷ l) (h, before-lt cmp laws x y l h a.0) t), t))
          (Memᴰ.cases_cons i)
      go Equal h i ih =
          ⊎_elim inl (λ t. inr (lt-no-tie x e (mem-before cmp laws x e l (before-eq cmp laws x y l h a.0) t), Memᴰ.tail t))
          (Memᴰ.cases_cons i)
      go Greater h i ih =
          ⊎_elim (λ p. inr ((λ k. apart-tie (laws.turn x y ∙ ap flip h) (subst (λ (z : A). cmp z x ≡ Equal) p k)), Memᴰ.head p))
          (λ t. ⊎_elim inl (λ u. inr (u.0, Memᴰ.tail u.1)) (ih t))
          (Memᴰ.cases_cons i)

  put_rest : (x e : A) (l : List A) → (cmp e x ≡ Equal → ⊥) → e ∈ l → e ∈ put_in_order cmp x l
  put_rest x e [] n m = absurd (Memᴰ.not-nil m)
  put_rest x e (y ∷ l) n m = go (cmp x y) refl (Memᴰ.cases_cons m) (put_rest x e l n)
    where
      go : (o : Ordering) → cmp x y ≡ o → (e ≡ y) ⊎ (e ∈ l) → (e ∈ l → e ∈ put_in_order cmp x l) → e ∈ place o x y l (put_in_order cmp x l)
      go Less h i ih = Memᴰ.tail m
      go Equal h (inl p) ih = absurd (n (subst (λ (z : A). cmp z x ≡ Equal) (sym p) (laws.turn x y ∙ ap flip h)))
      go Equal h (inr t) ih = Memᴰ.tail t
      go Greater h (inl p) ih = Memᴰ.head p
      go Greater h (inr t) ih = Memᴰ.tail (ih t)

  sort-to : (e : A) (l : List A) → e ∈ sort cmp l → First cmp e l
  sort-to e [] m = Memᴰ.not-nil m
  sort-to e (x ∷ l) m =
      ⊎_elim inl (λ u. inr (u.0, sort-to e l u.1)) (put_first x e (sort cmp l) (sort-ascends cmp laws l) m)

  sort-of : (e : A) (l : List A) → First cmp e l → e ∈ sort cmp l
  sort-of e [] f = absurd f
  sort-of e (x ∷ l) f =
      ⊎_elim (λ p. Memᴰ.cast p (put_has cmp laws x (sort cmp l))) (λ u. put_rest x e (sort cmp l) u.0 (sort-of e l u.1)) f

  -- the sorted list's elements are the first of those that tie; as it ascends, that says what it is
  pub sort-first : (e : A) (l : List A) → e ∈ sort cmp l ↔ First cmp e l
  sort-first e l = (sort-to e l, sort-of e l)

  -- elements that tie are numbered upwards
  module _ (w : A → ℕ) where
    abbrev pub Up : List A → Type 0
    Up [] = Unit {0}
    Up (x ∷ l) = ((f : A) → f ∈ l → cmp x f ≡ Equal → w x < w f) × Up l

    -- no element of l that ties with e has a lower number
    abbrev pub LowestIn : A → List A → Type 0
    LowestIn e l = (f : A) → f ∈ l → cmp e f ≡ Equal → w e ≤ w f

    first-lowest : (e : A) (l : List A) → Up l → First cmp e l → (e ∈ l) × LowestIn e l
    first-lowest e [] u f = absurd f
    first-lowest e (x ∷ l) u (inl p) = (
      Memᴰ.head p,
      λ g m t. ⊎_elim (λ q. let r : w e ≡ w g = ap w (p ∙ sym q) in omega arith)
          (λ i. let r : w e ≡ w x = ap w p in omega (arith, u.0 g i (subst (λ (z : A). cmp z g ≡ Equal) p t))) (Memᴰ.cases_cons m),
    )
    first-lowest e (x ∷ l) u (inr v) =
        let s = first-lowest e l u.1 v.1 in (
          Memᴰ.tail s.0,
          λ g m t. ⊎_elim (λ q. absurd (v.0 (subst (λ (z : A). cmp e z ≡ Equal) q t))) (λ i. s.1 g i t) (Memᴰ.cases_cons m),
        )

    lowest-first : (e : A) (l : List A) → Up l → e ∈ l → LowestIn e l → First cmp e l
    lowest-first e [] u m h = Memᴰ.not-nil m
    lowest-first e (x ∷ l) u m h =
        ⊎_elim inl
        (λ i. inr (
          (λ t. omega (arith, u.0 e i (laws.turn e x ∙ ap flip t), h x (Memᴰ.head refl) t)),
          lowest-first e l u.1 i (λ g j. h g (Memᴰ.tail j)),
        ))
        (Memᴰ.cases_cons m)

    pub sort-lowest : (e : A) (l : List A) → Up l → e ∈ sort cmp l ↔ ((e ∈ l) × LowestIn e l)
    sort-lowest e l u = ((λ m. first-lowest e l u (sort-to e l m)), λ s. sort-of e l (lowest-first e l u s.0 s.1))
