-- Columns that are filled row by row; and what is then told of table 7. Assumes nothing.
use mathlib.Core.Path.{◌≡◌, refl, sym, ◌∙◌, ap}
use mathlib.Core.Bool.{Bool, true, false}
use mathlib.Core.List.{List, [], ◌∷◌, ◌++◌, map, map-append, append_assoc, append-nil}
use Prim.Native.Nat.{ℕ, suc, ◌+◌, ◌-◌, ◌≤◌, ◌<◌}
use native.Mathlib.Nat.{mul-one, sub-zero, div-one}
use native.Mathlib.Numerals.{add-one}
use native.Mathlib.Omega.{arith}
use borrow.Author.Tests.{le-leb, lt-leb}
use lib.ListN.{length, length-append, length-map}
use Rattle.refusal.specs.Said.{Said, accepted, refused, follow, spot, Place}
use Rattle.table.specs.Table.{cells, laid, put_row, capacity_of, name_in}
use Rattle.table.specs.Shape.{width, capacity_in}
use Rattle.table.specs.Listing.{fitted}
use Rattle.table.proofs.Laws.{length-laid, length-put-row, put-row-laid}
use Rattle.sorting.specs.Sort.{selected, up_from}
use Rattle.domains.specs.Classify.{import_domain}
use Rattle.requirements.specs.Requirements.{room_of, row_domain, Requires}
use Rattle.requirements.specs.Filling.{Column, Fills}

-- ---- one column
alone : ℕ → List ℕ
alone v = v ∷ []

cells-alone : (l : List ℕ) → cells alone l ≡ l
unfolding cells alone
cells-alone [] = refl
cells-alone (v ∷ l) = ap (λ (k : List ℕ). v ∷ k) (cells-alone l)

put_alone : (n : ℕ) (l : List ℕ) (v : ℕ) → length l < n → put_row (laid n l) (length l) (v ∷ []) ≡ laid n (l ++ v ∷ [])
unfolding alone
put_alone n l v h =
    ap (λ (k : List ℕ). put_row (laid n k) (length l) (v ∷ [])) (sym (cells-alone l))
    ∙ put-row-laid alone 1 (λ r. refl) n l v (omega (arith, mul-one (length l)))
    ∙ ap (laid n) (cells-alone (l ++ v ∷ []))

pub column-none : (n : ℕ) {t : List ℕ} → t ≡ laid n [] → Column n [] t
column-none n e = record { long = ap length e ∙ length-laid n [] (omega arith); holds = λ h. e }

pub column-more : {n : ℕ} {l t after : List ℕ} {k : ℕ} (v : ℕ) → Column n l t → k ≡ length l → after ≡ put_row t k (v ∷ [])
    → Column n (l ++ v ∷ []) after
column-more {n} {l} {t} {after} {k} v c q e = record {
  long = ap length e ∙ length-put-row t k (v ∷ []) ∙ c.long;
  holds = λ h.
      let fits : length l < n = omega (arith, length-append l (v ∷ [])) in
      e ∙ ap (λ (j : ℕ). put_row t j (v ∷ [])) q ∙ ap (λ (x : List ℕ). put_row x (length l) (v ∷ [])) (c.holds (omega arith))
      ∙ put_alone n l v fits;
}

-- ---- the loop: the rows listed so far, and those that are left
module _ (good : ℕ → Bool) (i n : ℕ) where
  keep-next : i < n → selected good (up_from i (n - i)) ≡ selected good (i ∷ up_from (i + 1) (n - (i + 1)))
  keep-next h = let q : n - i ≡ suc (n - (i + 1)) = omega arith in rw (q, add-one i)

  keep-end : n ≤ i → selected good (up_from i (n - i)) ≡ []
  keep-end h = let q : n - i ≡ 0 = omega arith in rw q

pub record Filling (of : ℕ → ℕ) (good : ℕ → Bool) (n nd nr : ℕ) (domains rows : List ℕ) (found i : ℕ) : Type 0 where
  pub done : List ℕ
  pub count : found ≡ length done
  pub most : found ≤ i
  pub goes_on : done ++ selected good (up_from i (n - i)) ≡ selected good (up_from 0 n)
  pub in-domains : Column nd (map of done) domains
  pub in_rows : Column nr done rows

pub fill-begin : (of : ℕ → ℕ) (good : ℕ → Bool) (n nd nr : ℕ) {domains rows : List ℕ} → domains ≡ laid nd [] → rows ≡ laid nr []
    → Filling of good n nd nr domains rows 0 0
fill-begin of good n nd nr d r = record {
  done = [];
  count = refl;
  most = omega arith;
  goes_on = ap (λ (k : ℕ). selected good (up_from 0 k)) (sub-zero n);
  in-domains = column-none nd d;
  in_rows = column-none nr r;
}

module _ {of : ℕ → ℕ} {good : ℕ → Bool} {n nd nr : ℕ} {domains rows : List ℕ} {found i : ℕ}
    (f : Filling of good n nd nr domains rows found i) where
  pub fill-hit : i < n → good i ≡ true → {domains1 rows1 : List ℕ} {found1 : ℕ} → domains1 ≡ put_row domains found (of i ∷ [])
      → rows1 ≡ put_row rows found (i ∷ []) → found1 ≡ found + 1 → Filling of good n nd nr domains1 rows1 found1 (i + 1)
  fill-hit h e d r q = record {
    done = f.done ++ i ∷ [];
    count = omega (arith, q, f.count, length-append f.done (i ∷ []));
    most = omega (arith, q, f.most);
    goes_on = append_assoc f.done (i ∷ []) _ ∙ ap (λ (l : List ℕ). f.done ++ l) (sym (keep-next good i n h ∙ rw e)) ∙ f.goes_on;
    in-domains = rw (map-append of f.done (i ∷ [])) (column-more (of i) f.in-domains (f.count ∙ sym (length-map f.done of)) d);
    in_rows = column-more i f.in_rows f.count r;
  }

  pub fill-miss : i < n → good i ≡ false → {domains1 rows1 : List ℕ} {found1 : ℕ} → domains1 ≡ domains → rows1 ≡ rows → found1 ≡ found
      → Filling of good n nd nr domains1 rows1 found1 (i + 1)
  fill-miss h e d r q = record {
    done = f.done;
    count = q ∙ f.count;
    most = omega (arith, q, f.most);
    goes_on = ap (λ (l : List ℕ). f.done ++ l) (sym (keep-next good i n h ∙ rw e)) ∙ f.goes_on;
    in-domains = rw d f.in-domains;
    in_rows = rw r f.in_rows;
  }

  pub fill_end : n ≤ i → {before0 before1 : List ℕ} → nd ≡ length before0 → nr ≡ length before1
      → Fills of (selected good (up_from 0 n)) before0 domains before1 rows found
  fill_end h p q =
      let e : f.done ≡ selected good (up_from 0 n) =
      sym (append-nil f.done) ∙ ap (λ (l : List ℕ). f.done ++ l) (sym (keep-end good i n h)) ∙ f.goes_on in
      record { count = f.count ∙ ap length e; in-domains = rw (← e, ← p) f.in-domains; in_rows = rw (← e, ← q) f.in_rows }

-- ---- what is told of table 7
pub requires-stop : {of : ℕ → ℕ} {x : Said (List ℕ)} {domains domains1 rows rows1 : List ℕ} {m : ℕ} {p : Place} {a : Said ℕ}
    → x ≡ refused m p
    → a ≡ refused m p → domains1 ≡ laid (length domains) [] → rows1 ≡ laid (length rows) []
    → Requires of x domains domains1 rows rows1 a
unfolding follow
requires-stop e q d r = rw e (record { answer-is = q; domains-are = d; rows_are = r })

pub room-is : (nd nr : ℕ) {k room : ℕ} → k ≡ capacity_in 7 nd → room ≡ capacity_of nr 1 k → room ≡ room_of nd nr
unfolding capacity_of
room-is nd nr p q = omega (arith, p, q, div-one nd, div-one nr)

module _ {of : ℕ → ℕ} {l domains domains1 rows rows1 : List ℕ} {found : ℕ} (f : Fills of l domains domains1 rows rows1 found)
    {room : ℕ} (is : room ≡ room_of (length domains) (length rows)) where
  pub fills-full : room < found → fitted 7 (room_of (length domains) (length rows)) l ≡ refused 13 (spot 7)
  unfolding fitted
  fills-full h = rw (lt-leb (length l) (room_of (length domains) (length rows)) (omega (arith, is, f.count)))

  pub fills-good : found ≤ room → {x : Said (List ℕ)} → x ≡ fitted 7 (room_of (length domains) (length rows)) l
      → Requires of x domains domains1 rows rows1 (accepted found)
  unfolding fitted follow
  fills-good h e =
      let fits : length l ≤ room_of (length domains) (length rows) = omega (arith, is, f.count) in
      rw (e, le-leb (length l) (room_of (length domains) (length rows)) fits)
      (record {
        answer-is = ap accepted f.count;
        domains-are = f.in-domains.holds (omega (arith, length-map l of));
        rows_are = f.in_rows.holds (omega arith);
      })

-- ---- the domain of a row, by its names
pub row-domain : (file imports : List ℕ) (i : ℕ) {source field : List ℕ} → source ≡ name_in file imports (width 2) i 0
    → field ≡ name_in file imports (width 2) i 2 → import_domain source field ≡ row_domain file imports i
row-domain file imports i es ef = rw (es, ef)
