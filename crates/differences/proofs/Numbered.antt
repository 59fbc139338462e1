-- A difference list by numbers, as code makes it: the rows of the baseline and then of the candidate are numbered, the numbers of those
-- whose key the other module lacks are kept and sorted. Assumes nothing.
use mathlib.Core.Path.{◌≡◌, refl, sym, ◌∙◌, ap}
use mathlib.Core.Bool.{Bool, true, false, not, ◌||◌}
use mathlib.Core.List.Memᴰ
use mathlib.Core.List.{List, [], ◌∷◌, ◌++◌, map, map-append}
use Prim.Native.Nat.{ℕ, zero, suc, ◌+◌, ◌-◌, ◌≤◌, ◌<◌}
use native.Mathlib.Omega.{arith}
use borrow.Author.Tests.{lt-ltb, le-ltb, ltb-true, ltb-false}
use lib.Dec.{ltb}
use Rattle.refusal.specs.Pick.{pick, both}
use Rattle.text.specs.Order.{cmp_nat, and_then}
use Rattle.std.specs.declared.cmp.Ordering.{Ordering}
use Rattle.std.specs.declared.cmp.Ordering.TheVariants.{Less, Equal, Greater}
use Rattle.sorting.specs.Order.{Lawful, on}
use Rattle.sorting.specs.Sort.{◌∈◌, sort, selected, up_from}
use Rattle.text.specs.Order.{flip}
use Rattle.text.proofs.OrderLaws.{Tri, below, at, above, tri}
use Rattle.sorting.proofs.Orders.{lawful-on, nat-less, nat-same, nat-greater}
use Rattle.sorting.proofs.Sorts.{sort-map}
use Rattle.sorting.proofs.Numbers.{keep_append, sort-agree}
use Rattle.sorting.proofs.Ranking.{keep-to, up-to}
use Rattle.differences.specs.declared.Change.{Change}
use Rattle.differences.specs.declared.Change.TheVariants.{Removed, Added}
use Rattle.differences.specs.View.{Row, row}
use Rattle.differences.specs.Differences.{Entry, entry, ties, has_key, without, changes}
use Rattle.differences.specs.Numbers.{sided, some_from}

module _ {A : Type 0} (nb : ℕ) (f g : ℕ → A) (i : ℕ) where
  pub sided-first : i < nb → sided nb f g i ≡ f i
  unfolding sided
  sided-first h = rw (lt-ltb i nb h)

  pub sided-second : nb ≤ i → sided nb f g i ≡ g (i - nb)
  unfolding sided
  sided-second h = rw (le-ltb i nb h)

up-append : (s a b : ℕ) → up_from s (a + b) ≡ up_from s a ++ up_from (s + a) b
up-append s zero b =
    let e : 0 + b ≡ b = omega arith in
    let d : s + 0 ≡ s = omega arith in
    ap (up_from s) e ∙ ap (λ (t : ℕ). up_from t b) (sym d)
up-append s (suc a) b =
    let e : suc a + b ≡ suc (a + b) = omega arith in
    let d : suc s + a ≡ s + suc a = omega arith in
    ap (up_from s) e ∙ ap (◌∷◌ s) (up-append (suc s) a b ∙ ap (λ (t : ℕ). up_from (suc s) a ++ up_from t b) d)

keep-agree : {A : Type 0} (p q : A → Bool) (l : List A) → ((x : A) → x ∈ l → p x ≡ q x) → selected p l ≡ selected q l
keep-agree p q [] h = refl
keep-agree p q (x ∷ l) h = rw (h x (Memᴰ.head refl), keep-agree p q l (λ y m. h y (Memᴰ.tail m)))

never : false ≡ true → ⊥
never e = let z : ◌≡◌ {A = ℕ} 0 1 = cc in omega arith

or-true : (b c : Bool) → c ≡ true → b || c ≡ true
or-true true c h = refl
or-true false c h = h

module _ {K : Type 0} (cmp : K → K → Ordering) (key : ℕ → K) (want : ℕ → Bool) where
  -- the rows of one module, by t and how many
  abbrev wanted : ℕ → ℕ → List (Row K)
  wanted t m = map (row key) (selected want (up_from t m))

  -- a search by numbers is a search of the rows
  pub some-has : (k : K) (p : ℕ → Bool) (s m t : ℕ) → ((i : ℕ) → i < t + m → p (s + i) ≡ both (want i) (ties (cmp k (key i))))
      → some_from p (s + t) m ≡ has_key cmp k (map (row key) (selected want (up_from t m)))
  unfolding some_from has_key
  some-has k p s zero t h = refl
  some-has k p s (suc m) t h =
      let e : s + t + 1 ≡ s + suc t = omega arith in
      let r = ap (λ (j : ℕ). some_from p j m) e ∙ some-has k p s m (suc t) (λ i l. h i (omega arith)) in
      rw (h t (omega arith), r) (go (want t))
    where
      go : (b : Bool) → both b (ties (cmp k (key t))) || has_key cmp k (wanted (suc t) m)
          ≡ has_key cmp k (map (row key) (pick b (t ∷ selected want (up_from (suc t) m)) (selected want (up_from (suc t) m))))
      go true = refl
      go false = refl

  -- a wanted row with the key is found
  has-at : (k : K) (i m t : ℕ) → t ≤ i → i < t + m → want i ≡ true → cmp k (key i) ≡ Equal
      → has_key cmp k (map (row key) (selected want (up_from t m))) ≡ true
  unfolding has_key
  has-at k i zero t h l w e = absurd (omega arith)
  has-at k i (suc m) t h l w e = by (ltb t i) refl (λ r. has-at k i m (suc t) r (omega arith) w e)
    where
      further : (b : Bool) → has_key cmp k (map (row key) (selected want (up_from (suc t) m))) ≡ true
          → has_key cmp k (map (row key) (pick b (t ∷ selected want (up_from (suc t) m)) (selected want (up_from (suc t) m)))) ≡ true
      further true r = or-true (ties (cmp k (key t))) _ r
      further false r = r

      by : (b : Bool) → ltb t i ≡ b → (suc t ≤ i → has_key cmp k (map (row key) (selected want (up_from (suc t) m))) ≡ true)
          → has_key cmp k (map (row key) (selected want (up_from t (suc m)))) ≡ true
      by true d r = further (want t) (r (ltb-true t i d))
      by false d r = let q : i ≡ t = omega (arith, ltb-false t i d) in rw (← q, w, e)

  -- the kept numbers of one module name its rows that the other lacks
  pub side-is : (h : Change) (other : List (Row K)) (f : ℕ → Entry K) (lost : ℕ → Bool) (s m t : ℕ)
      → ((i : ℕ) → i < t + m → f (s + i) ≡ entry h (row key i))
      → ((i : ℕ) → i < t + m → lost (s + i) ≡ both (want i) (not (has_key cmp (key i) other)))
      → map f (selected lost (up_from (s + t) m)) ≡ map (entry h) (without cmp (map (row key) (selected want (up_from t m))) other)
  side-is h other f lost s zero t a q = refl
  side-is h other f lost s (suc m) t a q =
      let e : suc (s + t) ≡ s + suc t = omega arith in
      let r = ap (λ (j : ℕ). map f (selected lost (up_from j m))) e
      ∙ side-is h other f lost s m (suc t) (λ i l. a i (omega arith)) (λ i l. q i (omega arith)) in
      rw (q t (omega arith)) (go (want t) (has_key cmp (key t) other) refl r)
    where
      go : (b k : Bool) → has_key cmp (key t) other ≡ k
          → map f (selected lost (up_from (suc (s + t)) m)) ≡ map (entry h)
          (without cmp (map (row key) (selected want (up_from (suc t) m))) other)
          → map f (pick (both b (not (has_key cmp (key t) other)))
          ((s + t) ∷ selected lost (up_from (suc (s + t)) m)) (selected lost (up_from (suc (s + t)) m)))
          ≡ map (entry h) (without cmp (map (row key) (pick b (t ∷ selected want (up_from (suc t) m))
          (selected want (up_from (suc t) m)))) other)
      go true true e r = rw e r
      go true false e r = rw (e, a t (omega arith), r)
      go false k e r = r

-- a comparison that does not tie decides
settled : (o p q : Ordering) → (o ≡ Equal → ⊥) → and_then o p ≡ and_then o q
settled Less p q h = refl
settled Equal p q h = absurd (h refl)
settled Greater p q h = refl

lost-no : (b k : Bool) → both b (not k) ≡ true → k ≡ true → ⊥
lost-no true true e h = never e
lost-no true false e h = never h
lost-no false k e h = never e

lost-want : (b k : Bool) → both b k ≡ true → b ≡ true
lost-want true k e = refl
lost-want false k e = absurd (never e)

module _ {K : Type 0} (cmp : K → K → Ordering) (key_b key_c : ℕ → K) (want_b want_c : ℕ → Bool) (nb nc : ℕ) where
  abbrev pub rows_b : List (Row K)
  rows_b = map (row key_b) (selected want_b (up_from 0 nb))

  abbrev pub rows_c : List (Row K)
  rows_c = map (row key_c) (selected want_c (up_from 0 nc))

  -- the entry with a number, and whether it is a difference
  abbrev pub numbered : ℕ → Entry K
  numbered = sided nb (λ i. entry Removed (row key_b i)) (λ i. entry Added (row key_c i))

  abbrev pub lost_in : ℕ → Bool
  lost_in =
      sided nb (λ i. both (want_b i) (not (has_key cmp (key_b i) rows_c)))
      (λ i. both (want_c i) (not (has_key cmp (key_c i) rows_b)))

  changes-numbered : map numbered (selected lost_in (up_from 0 (nb + nc))) ≡ changes cmp rows_b rows_c
  changes-numbered =
      let front : (i : ℕ) → 0 + i ≡ i = λ i. omega arith in
      let back : (i : ℕ) → nb + i - nb ≡ i = λ i. omega arith in
      let turn : 0 + nb ≡ nb + 0 = omega arith in
      let removed = side-is cmp key_b want_b Removed rows_c numbered lost_in 0 nb 0
      (λ i l. sided-first nb _ _ (0 + i) (omega arith) ∙ ap (λ (j : ℕ). entry Removed (row key_b j)) (front i))
      (λ i l. sided-first nb _ _ (0 + i) (omega arith)
      ∙ ap (λ (j : ℕ). both (want_b j) (not (has_key cmp (key_b j) rows_c))) (front i)) in
      let added = side-is cmp key_c want_c Added rows_b numbered lost_in nb nc 0
      (λ i l. sided-second nb _ _ (nb + i) (omega arith) ∙ ap (λ (j : ℕ). entry Added (row key_c j)) (back i))
      (λ i l. sided-second nb _ _ (nb + i) (omega arith)
      ∙ ap (λ (j : ℕ). both (want_c j) (not (has_key cmp (key_c j) rows_b))) (back i)) in
      ap (λ (l : List ℕ). map numbered (selected lost_in l)) (up-append 0 nb nc)
      ∙ ap (map numbered) (keep_append lost_in (up_from 0 nb) (up_from (0 + nb) nc))
      ∙ map-append numbered (selected lost_in (up_from 0 nb)) (selected lost_in (up_from (0 + nb) nc))
      ∙ ap (λ (l : List (Entry K)). l ++ map numbered (selected lost_in (up_from (0 + nb) nc))) removed
      ∙ ap (λ (l : List (Entry K)). map (entry Removed) (without cmp rows_b rows_c) ++ l)
      (ap (λ (j : ℕ). map numbered (selected lost_in (up_from j nc))) turn ∙ added)

  -- the kept numbers, sorted, name the sorted differences
  pub sort-changes : (fine : Entry K → Entry K → Ordering) → Lawful fine → (order : ℕ → ℕ → Ordering) (test : ℕ → Bool)
      → ((i : ℕ) → i < nb + nc → test i ≡ lost_in i)
      → ((i j : ℕ) → i < nb + nc → j < nb + nc → lost_in i ≡ true → lost_in j ≡ true → order i j ≡ fine (numbered i) (numbered j))
      → map numbered (sort order (selected test (up_from 0 (nb + nc)))) ≡ sort fine (changes cmp rows_b rows_c)
  sort-changes fine laws order test t o =
      let n : ℕ = nb + nc in
      let l : List ℕ = selected lost_in (up_from 0 n) in
      let below : (i : ℕ) → i ∈ up_from 0 n → i < n = λ i m. let u = up-to i 0 n m in omega arith in
      let has : (i : ℕ) → i ∈ l → (i < n) × (lost_in i ≡ true) = λ i m. let k = keep-to lost_in i (up_from 0 n) m in (below i k.0, k.1) in
      ap (λ (k : List ℕ). map numbered (sort order k)) (keep-agree test lost_in (up_from 0 n) (λ i m. t i (below i m)))
      ∙ ap (map numbered) (sort-agree order (on fine numbered) (lawful-on laws numbered) l
      (λ x y i j. o x y (has x i).0 (has y j).0 (has x i).1 (has y j).1))
      ∙ sym (sort-map (on fine numbered) fine numbered (λ x y. refl) l)
      ∙ ap (sort fine) changes-numbered

  -- ---- rows of different modules that are differences never tie
  module _ (laws : Lawful cmp) where
    across : (i m : ℕ) → m < nc → want_c m ≡ true → both (want_b i) (not (has_key cmp (key_b i) rows_c)) ≡ true
        → cmp (key_b i) (key_c m) ≡ Equal → ⊥
    across i m h w l e = lost-no (want_b i) _ l (has-at cmp key_c want_c (key_b i) m nc 0 (omega arith) (omega arith) w e)

    shifted : (i j : ℕ) → nb ≤ i → nb ≤ j → cmp_nat i j ≡ cmp_nat (i - nb) (j - nb)
    shifted i j h k = by (tri i j)
      where
        by : Tri i j → cmp_nat i j ≡ cmp_nat (i - nb) (j - nb)
        by (below l e) = e ∙ sym (nat-less (i - nb) (j - nb) (omega arith))
        by (at l e) = e ∙ sym (nat-same (i - nb) (j - nb) (omega arith))
        by (above l e) = e ∙ sym (nat-greater (i - nb) (j - nb) (omega arith))

    -- so the number decides as the row does
    pub number-order : (i j : ℕ) → i < nb + nc → j < nb + nc → lost_in i ≡ true → lost_in j ≡ true
        → let o = cmp (numbered i).row.key (numbered j).row.key in
        and_then o (cmp_nat i j) ≡ and_then o (cmp_nat (numbered i).row.at (numbered j).row.at)
    number-order i j hi hj li lj = by (ltb i nb) refl (ltb j nb) refl
      where
        first : (k : ℕ) → ltb k nb ≡ true → numbered k ≡ entry Removed (row key_b k)
        first k e = sided-first nb _ _ k (ltb-true k nb e)

        second : (k : ℕ) → ltb k nb ≡ false → numbered k ≡ entry Added (row key_c (k - nb))
        second k e = sided-second nb _ _ k (ltb-false k nb e)

        -- a lost row of the baseline and one of the candidate
        apart : (k m : ℕ) → ltb k nb ≡ true → ltb m nb ≡ false → m < nb + nc → lost_in k ≡ true → lost_in m ≡ true
            → cmp (key_b k) (key_c (m - nb)) ≡ Equal → ⊥
        apart k m e d h lk lm =
            across k (m - nb) (omega (arith, ltb-false m nb d))
            (lost-want _ _ (sym (sided-second nb _ _ m (ltb-false m nb d)) ∙ lm)) (sym (sided-first nb _ _ k (ltb-true k nb e)) ∙ lk)

        by : (s : Bool) → ltb i nb ≡ s → (t : Bool) → ltb j nb ≡ t
            → let o = cmp (numbered i).row.key (numbered j).row.key in
            and_then o (cmp_nat i j) ≡ and_then o (cmp_nat (numbered i).row.at (numbered j).row.at)
        by true e true d = rw (first i e, first j d)
        by false e false d = rw (second i e, second j d, shifted i j (ltb-false i nb e) (ltb-false j nb d))
        by true e false d =
            settled (cmp (numbered i).row.key (numbered j).row.key) _ _
            (λ q. apart i j e d hj li lj (rw (first i e, second j d) at q))
        by false e true d =
            settled (cmp (numbered i).row.key (numbered j).row.key) _ _
            (λ q. apart j i d e hi lj li (laws.turn (key_c (i - nb)) (key_b j) ∙ ap flip (rw (second i e, first j d) at q)))
