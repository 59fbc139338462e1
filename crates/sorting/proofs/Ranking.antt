-- The sorted rows are what is claimed of them, and no other list is. Assumes nothing.
use mathlib.Core.Path.{◌≡◌, refl, sym, ◌∙◌, ap}
use mathlib.Core.Bool.{Bool, true, false}
use mathlib.Core.Logic.{◌⊎◌, inl, inr, ◌↔◌, ⊎_elim}
use mathlib.Core.List.Memᴰ
use mathlib.Core.List.{List, [], ◌∷◌}
use Prim.Native.Nat.{ℕ, zero, suc, ◌+◌, ◌≤◌, ◌<◌}
use native.Mathlib.Omega.{arith}
use borrow.Author.Tests.{eqb-true, eq-eqb}
use Rattle.refusal.specs.Pick.{pick}
use Rattle.text.specs.Order.{cmp_nat, and_then, cmp_bytes}
use Rattle.std.specs.declared.cmp.Ordering.{Ordering}
use Rattle.std.specs.declared.cmp.Ordering.TheVariants.{Equal}
use Rattle.text.proofs.OrderLaws.{cmp-refl}
use Rattle.table.specs.Table.{cell_of}
use Rattle.sorting.specs.Order.{Lawful, on}
use Rattle.sorting.specs.Sort.{◌∈◌, selected, up_from, Before, Ascending}
use Rattle.sorting.specs.Keys.{by_name, row_name, column_at, name_of, row_order, row_marked, sorted_rows}
use Rattle.sorting.specs.Claims.{ListedRow, Ranked, NameListed, NamesRanked}
use Rattle.sorting.specs.declared.Keys.{Keys}
use Rattle.sorting.proofs.Orders.{exact-nat, exact_bytes, then_tie}
use Rattle.sorting.proofs.Sorts.{sort-ascends, ascending-unique}
use Rattle.sorting.proofs.Firsts.{Up, sort-lowest}
use Rattle.sorting.proofs.Rowing.{lawful-rows, names-order}

-- ---- the elements that pass a test, and the row numbers
module _ {A : Type 0} (p : A → Bool) (e : A) where
  pub keep-to : (l : List A) → e ∈ selected p l → (e ∈ l) × (p e ≡ true)
  keep-to [] m = absurd (Memᴰ.not-nil m)
  keep-to (x ∷ l) m = go (p x) refl m (keep-to l)
    where
      go : (t : Bool) → p x ≡ t → e ∈ pick t (x ∷ selected p l) (selected p l) → (e ∈ selected p l → (e ∈ l) × (p e ≡ true))
          → (e ∈ (x ∷ l)) × (p e ≡ true)
      go true q i ih =
          ⊎_elim (λ h. (Memᴰ.head h, ap p h ∙ q)) (λ j. (Memᴰ.tail (ih j).0, (ih j).1)) (Memᴰ.cases_cons i)
      go false q i ih = (Memᴰ.tail (ih i).0, (ih i).1)

  pub keep-of : (l : List A) → e ∈ l → p e ≡ true → e ∈ selected p l
  keep-of [] m h = absurd (Memᴰ.not-nil m)
  keep-of (x ∷ l) m h = go (p x) refl (Memᴰ.cases_cons m) (λ i. keep-of l i h)
    where
      go : (t : Bool) → p x ≡ t → (e ≡ x) ⊎ (e ∈ l) → (e ∈ l → e ∈ selected p l) → e ∈ pick t (x ∷ selected p l) (selected p l)
      go true q (inl w) ih = Memᴰ.head w
      go true q (inr i) ih = Memᴰ.tail (ih i)
      go false q (inl w) ih = let z = sym h ∙ ap p w ∙ q in absurd (let z : ◌≡◌ {A = ℕ} 0 1 = cc in omega arith)
      go false q (inr i) ih = ih i

pub up-to : (e i m : ℕ) → e ∈ up_from i m → (i ≤ e) × (e < i + m)
up-to e i zero h = absurd (Memᴰ.not-nil h)
up-to e i (suc m) h =
    ⊎_elim (λ p. (omega arith, omega arith)) (λ t. let u = up-to e (suc i) m t in (omega arith, omega arith))
    (Memᴰ.cases_cons h)

pub up_of : (e i m : ℕ) → i ≤ e → e < i + m → e ∈ up_from i m
up_of e i zero h k = absurd (omega arith)
up_of e i (suc m) h k = ⊎_elim (λ p. Memᴰ.head p) (λ l. Memᴰ.tail (up_of e (suc i) m l (omega arith))) (apart e i h)
  where
    apart : (a b : ℕ) → b ≤ a → (a ≡ b) ⊎ (b < a)
    apart zero zero h = inl refl
    apart zero (suc b) h = absurd (omega arith)
    apart (suc a) zero h = inr (omega arith)
    apart (suc a) (suc b) h = ⊎_elim (λ p. inl (ap suc p)) (λ l. inr (omega arith)) (apart a b (omega arith))

-- row numbers that pass a test are numbered upwards
numbered : (cmp : ℕ → ℕ → Ordering) (laws : Lawful cmp) (p : ℕ → Bool) (i m : ℕ) → Up cmp laws (λ e. e) (selected p (up_from i m))
numbered cmp laws p i zero = tt
numbered cmp laws p i (suc m) = go (p i) (numbered cmp laws p (suc i) m)
  where
    go : (t : Bool) → Up cmp laws (λ e. e) (selected p (up_from (suc i) m))
        → Up cmp laws (λ e. e) (pick t (i ∷ selected p (up_from (suc i) m)) (selected p (up_from (suc i) m)))
    go true ih = ((λ f j t. omega (arith, up-to f (suc i) m (keep-to p f (up_from (suc i) m) j).0)), ih)
    go false ih = ih

-- ---- the claim
module _ (first second rows : List ℕ) (k : Keys) (n : ℕ) where
  each-is : (e : ℕ) → e ∈ sorted_rows first second rows k n ↔ ListedRow first second rows k n e
  unfolding sorted_rows
  each-is e =
      let order = row_order first second rows k in
      let laws = lawful-rows first second rows k in
      let test = row_marked first second rows k in
      let l = selected test (up_from 0 n) in
      let s = sort-lowest order laws (λ e. e) e l (numbered order laws test 0 n) in
      let to : (j : ℕ) → j ∈ l → (j < n) × (test j ≡ true) =
      λ j m. let u = keep-to test j (up_from 0 n) m in let v = up-to j 0 n u.0 in (omega arith, u.1) in
      let of : (j : ℕ) → j < n → test j ≡ true → j ∈ l =
      λ j b t. keep-of test j (up_from 0 n) (up_of j 0 n (omega arith) (omega arith)) t in (
        (λ m.
            let u = s.0 m in
            record { below = (to e u.0).0; wanted = (to e u.0).1; lowest = λ j b t q. u.1 j (of j b t) q }),
        λ h. s.1 (of e h.below h.wanted, λ j m q. let u = to j m in h.lowest j u.0 u.1 q),
      )

  pub sorted-ranked : Ranked first second rows k n (sorted_rows first second rows k n)
  unfolding sorted_rows
  sorted-ranked =
      record {
        ascends =
            sort-ascends (row_order first second rows k) (lawful-rows first second rows k)
            (selected (row_marked first second rows k) (up_from 0 n));
        each = each-is;
      }

  pub ranked-only : (l : List ℕ) → Ranked first second rows k n l → l ≡ sorted_rows first second rows k n
  ranked-only l r =
      ascending-unique (row_order first second rows k) (lawful-rows first second rows k) l (sorted_rows first second rows k n)
      r.ascends sorted-ranked.ascends (λ e m. (each-is e).1 ((r.each e).0 m)) (λ e m. (r.each e).1 ((each-is e).0 m))

-- where every row is wanted no two tie, so that the list has each wanted row
pub every-apart : (first second rows : List ℕ) (k : Keys) → k.every ≡ true → (i j : ℕ) → row_order first second rows k i j ≡ Equal → i ≡ j
unfolding row_order
every-apart first second rows k h i j e =
    let cell = column_at first second rows k in
    let name = name_of first second rows k in
    let last : Ordering = pick k.every (cmp_nat i j) Equal in
    let minor : Ordering = cmp_nat (cell k.minor i) (cell k.minor j) in
    let bytes : Ordering = cmp_bytes (name i) (name j) in
    let a = (then_tie (cmp_nat (cell k.major i) (cell k.major j)) (and_then bytes (and_then minor last)) e).1 in
    let b = (then_tie bytes (and_then minor last) a).1 in
    exact-nat i j (rw h at (then_tie minor last b).1)

-- rows listed by name tie where the names are the same bytes
pub same_name : (first second rows : List ℕ) (width from len mark value i j : ℕ)
    → row_order first second rows (by_name width from len mark value) i j ≡ Equal
    ↔ row_name first rows width from len i ≡ row_name first rows width from len j
same_name first second rows width from len mark value i j =
    let is = names-order first second rows width from len mark value i j in
    let x = row_name first rows width from len i in
    let y = row_name first rows width from len j in (
      (λ e. exact_bytes x y (sym is ∙ e)),
      λ e. is ∙ ap (cmp_bytes x) (sym e) ∙ cmp-refl x,
    )

-- ---- the claim of a list of names
ascends-as : (c d : ℕ → ℕ → Ordering) → ((i j : ℕ) → c i j ≡ d i j) → (l : List ℕ) → Ascending c l → Ascending d l
ascends-as c d same [] a = tt
ascends-as c d same (x ∷ l) a = (before l a.0, ascends-as c d same l a.1)
  where
    before : (m : List ℕ) → Before c x m → Before d x m
    before [] b = tt
    before (y ∷ m) b = (sym (same x y) ∙ b.0, before m b.1)

module _ (text rows : List ℕ) (width from len mark value n : ℕ) where
  by_bytes : (i j : ℕ) → row_order text text rows (by_name width from len mark value) i j
      ≡ cmp_bytes (row_name text rows width from len i) (row_name text rows width from len j)
  by_bytes = names-order text text rows width from len mark value

  wanted-is : (e : ℕ) → row_marked text text rows (by_name width from len mark value) e ≡ true ↔ cell_of rows width e mark ≡ value
  unfolding row_marked
  wanted-is e = (eqb-true (cell_of rows width e mark) value, eq-eqb (cell_of rows width e mark) value)

  -- listed as a row, and listed as a name
  as-name : (e : ℕ) → ListedRow text text rows (by_name width from len mark value) n e ↔ NameListed text rows width from len mark value n e
  as-name e = (
    (λ h.
        record {
          below = h.below;
          wanted = (wanted-is e).0 h.wanted;
          lowest = λ j b w q. h.lowest j b ((wanted-is j).1 w) ((same_name text text rows width from len mark value e j).1 q);
        }),
    λ h.
        record {
          below = h.below;
          wanted = (wanted-is e).1 h.wanted;
          lowest = λ j b w q. h.lowest j b ((wanted-is j).0 w) ((same_name text text rows width from len mark value e j).0 q);
        },
  )

  pub names-ranked : NamesRanked text rows width from len mark value n (sorted_rows text text rows (by_name width from len mark value) n)
  names-ranked =
      let k = by_name width from len mark value in
      let l = sorted_rows text text rows k n in
      let r = sorted-ranked text text rows k n in
      record {
        ascends =
            ascends-as (row_order text text rows k) (on cmp_bytes (row_name text rows width from len)) by_bytes l r.ascends;
        each = λ e. ((λ m. (as-name e).0 ((r.each e).0 m)), λ h. (r.each e).1 ((as-name e).1 h));
      }

  pub names-only : (l : List ℕ) → NamesRanked text rows width from len mark value n l
      → l ≡ sorted_rows text text rows (by_name width from len mark value) n
  names-only l r =
      let k = by_name width from len mark value in
      ranked-only text text rows k n l
      (record {
        ascends =
            ascends-as (on cmp_bytes (row_name text rows width from len)) (row_order text text rows k) (λ i j. sym (by_bytes i j)) l
            r.ascends;
        each = λ e. ((λ m. (as-name e).1 ((r.each e).0 m)), λ h. (r.each e).1 ((as-name e).0 h));
      })
