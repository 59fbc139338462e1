-- Difference lists over any keys: what they report, and their exchange. Assumes nothing.
use mathlib.Core.Path.{◌≡◌, refl, sym, ◌∙◌, ap}
use mathlib.Core.Logic.{◌⊎◌, inl, inr, ◌↔◌, ⊎_elim}
use mathlib.Core.Bool.{Bool, true, false, not, ◌&&◌, ◌||◌, true≢false}
use mathlib.Core.List.Memᴰ
use mathlib.Core.List.{List, [], ◌∷◌, ◌++◌, map}
use Prim.Native.Nat.{ℕ}
use native.Mathlib.Omega.{arith}
use borrow.Author.Tests.{not-true}
use Rattle.std.specs.declared.cmp.Ordering.{Ordering}
use Rattle.std.specs.declared.cmp.Ordering.TheVariants.{Less, Equal, Greater}
use Rattle.sorting.specs.Order.{Lawful}
use Rattle.sorting.specs.Sort.{◌∈◌, sort}
use Rattle.sorting.proofs.Sorts.{NoTie, Tied, sort-swap, tie-self, sort-only, sort-has, sort-map}
use Rattle.sorting.proofs.Ranking.{keep-to, keep-of}
use Rattle.differences.specs.declared.Change.{Change}
use Rattle.differences.specs.declared.Change.TheVariants.{Removed, Added}
use Rattle.differences.specs.View.{Row}
use Rattle.differences.specs.Differences.{Entry, entry, ties, has_key, without, changes, is_change, has_no}
use Rattle.covering.specs.Replacing.{keys, Reports, Only, IsChange, other, reversed}

-- membership under map
pub mem-map : {A B : Type 0} (f : A → B) (x : A) (l : List A) → x ∈ l → f x ∈ map f l
mem-map f x [] m = absurd (Memᴰ.not-nil m)
mem-map f x (y ∷ l) m = ⊎_elim (λ p. Memᴰ.head (ap f p)) (λ t. Memᴰ.tail (mem-map f x l t)) (Memᴰ.cases_cons m)

pub map-mem : {A B : Type 0} (f : A → B) (y : B) (l : List A) → y ∈ map f l → (x : A) × (x ∈ l) × (y ≡ f x)
map-mem f y [] m = absurd (Memᴰ.not-nil m)
map-mem f y (a ∷ l) m =
    ⊎_elim (λ p. (a, Memᴰ.head refl, p)) (λ t. let s = map-mem f y l t in (s.0, Memᴰ.tail s.1, s.2))
    (Memᴰ.cases_cons m)

no-tie-of : {A : Type 0} (cmp : A → A → Ordering) (y : A) (l : List A) → ((x : A) → x ∈ l → cmp y x ≡ Equal → ⊥) → NoTie cmp y l
no-tie-of cmp y [] n = tt
no-tie-of cmp y (x ∷ l) n = (n x (Memᴰ.head refl), no-tie-of cmp y l (λ z m. n z (Memᴰ.tail m)))

-- no entry is both removed and added
not-both : {c : Change} → c ≡ Removed → c ≡ Added → ⊥
not-both p q = let z : ◌≡◌ {A = ℕ} 0 1 = cc in omega arith

-- a list of two parts with the changes turned round
turned-parts : {K : Type 0} (xs ys : List (Row K))
    → map reversed (map (entry Removed) xs ++ map (entry Added) ys) ≡ map (entry Added) xs ++ map (entry Removed) ys
turned-parts (x ∷ xs) ys = ap (◌∷◌ (entry Added x)) (turned-parts xs ys)
turned-parts [] [] = refl
turned-parts [] (y ∷ ys) = ap (◌∷◌ (entry Removed y)) (turned-parts [] ys)

-- a test, taken as a proof
bool_cases : {C : Type 0} (b : Bool) → (b ≡ true → C) → (b ≡ false → C) → C
bool_cases true f g = f refl
bool_cases false f g = g refl

is-self : (a : Change) → is_change a a ≡ true
is-self Removed = refl
is-self Added = refl

is_eq : (a b : Change) → is_change a b ≡ true → b ≡ a
is_eq Removed Removed h = refl
is_eq Removed Added h = absurd (true≢false (sym h))
is_eq Added Removed h = absurd (true≢false (sym h))
is_eq Added Added h = refl

not-and : (x y : Bool) → (not x && y) ≡ true → (x ≡ false) × (y ≡ true)
not-and true y h = absurd (true≢false (sym h))
not-and false y h = (refl, h)

-- a list has no entry of the change exactly if it reports it of no key
module _ {K : Type 0} where
  pub has_no-none : (c : Change) (d : List (Entry K)) → has_no c d ≡ true → (k : K) → Reports c k d → ⊥
  unfolding has_no
  has_no-none c [] h k r = Memᴰ.not-nil r.1
  has_no-none c (e ∷ d) h k r =
      let s = not-and (is_change c e.change) (has_no c d) h in
      ⊎_elim
      (λ p. let q : e.change ≡ c = ap (λ (x : Entry K). x.change) (sym p) ∙ r.2 in
      true≢false (sym (is-self c) ∙ ap (is_change c) (sym q) ∙ s.0))
      (λ t. has_no-none c d s.1 k (r.0, t, r.2, r.3))
      (Memᴰ.cases_cons r.1)

  pub none-has_no : (c : Change) (d : List (Entry K)) → ((k : K) → Reports c k d → ⊥) → has_no c d ≡ true
  unfolding has_no
  none-has_no c [] n = refl
  none-has_no c (e ∷ d) n =
      bool_cases (is_change c e.change)
      (λ h. absurd (n e.row.key (e, Memᴰ.head refl, is_eq c e.change h, refl)))
      (λ h. rw h (none-has_no c d (λ k r. n k (r.0, Memᴰ.tail r.1, r.2, r.3))))

  -- turning a list's changes round turns its reports round
  pub reports-turned : (c : Change) (k : K) (d : List (Entry K)) → Reports c k d → Reports (other c) k (map reversed d)
  reports-turned c k d r = (reversed r.0, mem-map reversed r.0 d r.1, ap other r.2, r.3)

-- a comparison of keys and an order of entries that serve: both lawful, only equal keys tie, and the order goes by the key and not by
-- the change
pub record Keyed {K : Type 0} (cmp : K → K → Ordering) (fine : Entry K → Entry K → Ordering) : Type 0 where
  pub laws : Lawful cmp
  pub exact : (x y : K) → cmp x y ≡ Equal → x ≡ y
  pub flaws : Lawful fine
  pub ties : (e f : Entry K) → fine e f ≡ Equal → e.row.key ≡ f.row.key
  pub blind : (e f : Entry K) → fine (reversed e) (reversed f) ≡ fine e f

module _ {K : Type 0} {cmp : K → K → Ordering} {fine : Entry K → Entry K → Ordering} (o : Keyed cmp fine) where
  has_key-mem : (k : K) (l : List (Row K)) → has_key cmp k l ≡ true → k ∈ keys l
  unfolding has_key
  has_key-mem k [] h = absurd (true≢false (sym h))
  has_key-mem k (r ∷ l) h = go (cmp k r.key) refl h (has_key-mem k l)
    where
      go : (o : Ordering) → cmp k r.key ≡ o → (ties o || has_key cmp k l) ≡ true → (has_key cmp k l ≡ true → k ∈ keys l) → k ∈ keys (r ∷ l)
      go Less e h ih = Memᴰ.tail (ih h)
      go Equal e h ih = Memᴰ.head (o.exact k r.key e)
      go Greater e h ih = Memᴰ.tail (ih h)

  mem-has_key : (k : K) (l : List (Row K)) → k ∈ keys l → has_key cmp k l ≡ true
  unfolding has_key
  mem-has_key k [] m = absurd (Memᴰ.not-nil m)
  mem-has_key k (r ∷ l) m = go (Memᴰ.cases_cons m) (mem-has_key k l) (ties (cmp k r.key)) refl
    where
      go : (k ≡ r.key) ⊎ (k ∈ keys l) → (k ∈ keys l → has_key cmp k l ≡ true) → (b : Bool) → ties (cmp k r.key) ≡ b
          → (b || has_key cmp k l) ≡ true
      go i ih true e = refl
      go (inl p) ih false e = absurd (true≢false (ap ties (sym (tie-self cmp o.laws k) ∙ ap (cmp k) p) ∙ e))
      go (inr t) ih false e = ih t

  pub known : (k : K) (l : List (Row K)) → (k ∈ keys l) ⊎ (k ∈ keys l → ⊥)
  known k l = bool_cases (has_key cmp k l) (λ t. inl (has_key-mem k l t)) (λ f. inr (λ m. true≢false (sym (mem-has_key k l m) ∙ f)))

  -- the rows of b with a key that c lacks
  pub without-mem : (r : Row K) (b c : List (Row K)) → r ∈ without cmp b c → Only r b c
  without-mem r b c m =
      let s = keep-to (λ (x : Row K). not (has_key cmp x.key c)) r b m in
      (s.0, λ i. true≢false (sym (mem-has_key r.key c i) ∙ not-true (has_key cmp r.key c) s.1))

  mem-without : (r : Row K) (b c : List (Row K)) → Only r b c → r ∈ without cmp b c
  mem-without r b c u =
      keep-of (λ (x : Row K). not (has_key cmp x.key c)) r b u.0
      (bool_cases (has_key cmp r.key c) (λ t. absurd (u.1 (has_key-mem r.key c t))) (λ f. ap not f))

  pub part-mem : (h : Change) (e : Entry K) (b c : List (Row K)) → e ∈ map (entry h) (without cmp b c) → (e.change ≡ h) × Only e.row b c
  part-mem h e b c i =
      let s = map-mem (entry h) e (without cmp b c) i in
      let w = without-mem s.0 b c s.1 in
      let q : e.row ≡ s.0 = ap (λ (x : Entry K). x.row) s.2 in
      (ap (λ (x : Entry K). x.change) s.2, (Memᴰ.cast q w.0, λ k. w.1 (Memᴰ.cast (ap (λ (x : Row K). x.key) (sym q)) k)))

  pub changes-mem : (e : Entry K) (b c : List (Row K)) → e ∈ changes cmp b c → IsChange e b c
  changes-mem e b c m =
      ⊎_elim (λ i. inl (part-mem Removed e b c i)) (λ i. inr (part-mem Added e c b i))
      (Memᴰ.append_cases (map (entry Removed) (without cmp b c)) m)

  pub mem-changes : (e : Entry K) (b c : List (Row K)) → IsChange e b c → e ∈ changes cmp b c
  mem-changes e b c (inl u) =
      Memᴰ.append_left (map (entry Added) (without cmp c b))
      (Memᴰ.cast (λ i. record { change = u.0 i; row = e.row })
      (mem-map (entry Removed) e.row (without cmp b c) (mem-without e.row b c u.1)))
  mem-changes e b c (inr u) =
      Memᴰ.append_right (map (entry Removed) (without cmp b c))
      (Memᴰ.cast (λ i. record { change = u.0 i; row = e.row })
      (mem-map (entry Added) e.row (without cmp c b) (mem-without e.row c b u.1)))

  -- a row of each module has a key that the other lacks: the keys differ
  pub apart : (r s : Row K) (b c : List (Row K)) → Only r b c → Only s c b → r.key ≡ s.key → ⊥
  apart r s b c u v p = u.1 (Memᴰ.cast p (mem-map (λ (x : Row K). x.key) s c v.0))

  module _ (b c : List (Row K)) where
    -- two changes of one key are of one kind
    pub one-kind : (e f : Entry K) → IsChange e b c → IsChange f b c → e.row.key ≡ f.row.key → e.change ≡ f.change
    one-kind e f (inl u) (inl v) p = u.0 ∙ sym v.0
    one-kind e f (inl u) (inr v) p = absurd (apart e.row f.row b c u.1 v.1 p)
    one-kind e f (inr u) (inl v) p = absurd (apart e.row f.row c b u.1 v.1 p)
    one-kind e f (inr u) (inr v) p = u.0 ∙ sym v.0

    -- the two modules exchanged: the same rows in the same order, with added for removed and removed for added
    pub exchange : sort fine (changes cmp c b) ≡ map reversed (sort fine (changes cmp b c))
    exchange =
        sort-swap fine o.flaws removed added
        (λ y m. no-tie-of fine y removed (λ x i t.
        apart x.row y.row c b (part-mem Removed x c b i).1 (part-mem Added y b c m).1 (sym (o.ties y x t))))
        ∙ ap (sort fine) (sym (turned-parts (without cmp b c) (without cmp c b)))
        ∙ sort-map fine fine reversed o.blind (changes cmp b c)
      where
        removed : List (Entry K)
        removed = map (entry Removed) (without cmp c b)

        added : List (Entry K)
        added = map (entry Added) (without cmp b c)

    -- what is reported removed: the keys of the baseline that the candidate lacks
    pub removed-only : (k : K) → Reports Removed k (sort fine (changes cmp b c)) → (k ∈ keys b) × (k ∈ keys c → ⊥)
    removed-only k r = go (changes-mem r.0 b c (sort-only fine o.flaws r.0 (changes cmp b c) r.1))
      where
        go : IsChange r.0 b c → (k ∈ keys b) × (k ∈ keys c → ⊥)
        go (inl u) =
            (Memᴰ.cast (sym r.3) (mem-map (λ (x : Row K). x.key) r.0.row b u.1.0), λ i. u.1.1 (Memᴰ.cast r.3 i))
        go (inr u) = absurd (not-both r.2 u.0)

    pub removed-all : (k : K) → k ∈ keys b → (k ∈ keys c → ⊥) → Reports Removed k (sort fine (changes cmp b c))
    removed-all k m n = go (changes-mem t.0 b c (sort-only fine o.flaws t.0 (changes cmp b c) t.1))
      where
        s : (r : Row K) × (r ∈ b) × (k ≡ r.key)
        s = map-mem (λ (x : Row K). x.key) k b m

        only : Only s.0 b c
        only = (s.1, λ i. n (Memᴰ.cast s.2 i))

        t : Tied fine (entry Removed s.0) (sort fine (changes cmp b c))
        t =
            sort-has fine o.flaws (entry Removed s.0) (changes cmp b c)
            (mem-changes (entry Removed s.0) b c (inl (refl, only)))

        same : s.0.key ≡ t.0.row.key
        same = o.ties (entry Removed s.0) t.0 t.2

        go : IsChange t.0 b c → Reports Removed k (sort fine (changes cmp b c))
        go (inl u) = (t.0, t.1, u.0, sym same ∙ sym s.2)
        go (inr u) = absurd (apart s.0 t.0.row b c only u.1 same)

  module _ (b c : List (Row K)) where
    -- what is reported added: the keys of the candidate that the baseline lacks
    pub added-only : (k : K) → Reports Added k (sort fine (changes cmp b c)) → (k ∈ keys c) × (k ∈ keys b → ⊥)
    added-only k r =
        removed-only c b k
        (rw (exchange b c) (reports-turned Added k (sort fine (changes cmp b c)) r))

    pub added-all : (k : K) → k ∈ keys c → (k ∈ keys b → ⊥) → Reports Added k (sort fine (changes cmp b c))
    added-all k m n =
        rw (exchange c b) (reports-turned Removed k (sort fine (changes cmp c b)) (removed-all c b k m n))

    -- both ways
    pub removed : (k : K) → Reports Removed k (sort fine (changes cmp b c)) ↔ ((k ∈ keys b) × (k ∈ keys c → ⊥))
    removed k = (removed-only b c k, λ u. removed-all b c k u.0 u.1)

    pub added : (k : K) → Reports Added k (sort fine (changes cmp b c)) ↔ ((k ∈ keys c) × (k ∈ keys b → ⊥))
    added k = (added-only k, λ u. added-all k u.0 u.1)

    -- nothing is removed exactly if each key of the baseline is one of the candidate's, and nothing added exactly if the other way round
    pub none-removed : (has_no Removed (sort fine (changes cmp b c)) ≡ true) ↔ ((k : K) → k ∈ keys b → k ∈ keys c)
    none-removed = (
      (λ h k m. bool_cases (has_key cmp k c) (λ t. has_key-mem k c t)
          (λ f. absurd (has_no-none Removed (sort fine (changes cmp b c)) h k
          (removed-all b c k m (λ i. true≢false (sym (mem-has_key k c i) ∙ f)))))),
      λ all. none-has_no Removed (sort fine (changes cmp b c)) (λ k r.
          let u = removed-only b c k r in u.1 (all k u.0)),
    )

    pub none-added : (has_no Added (sort fine (changes cmp b c)) ≡ true) ↔ ((k : K) → k ∈ keys c → k ∈ keys b)
    none-added = (
      (λ h k m. bool_cases (has_key cmp k b) (λ t. has_key-mem k b t)
          (λ f. absurd (has_no-none Added (sort fine (changes cmp b c)) h k
          (added-all k m (λ i. true≢false (sym (mem-has_key k b i) ∙ f)))))),
      λ all. none-has_no Added (sort fine (changes cmp b c)) (λ k r. let u = added-only k r in u.1 (all k u.0)),
    )
