-- Two tables whose rows below the count have the same names and kinds: what is said of a row, and of all. Assumes nothing.
use mathlib.Core.Path.{◌≡◌, refl, ◌∙◌, ap}
use mathlib.Core.List.{List, map}
use Prim.Native.Nat.{ℕ, ◌<◌}
use native.Mathlib.Omega.{arith}
use lib.Dec.{eqb}
use Rattle.table.specs.Table.{cell_of}
use Rattle.table.specs.Shape.{width}
use Rattle.sorting.specs.Sort.{◌∈◌, selected, up_from, sort}
use Rattle.sorting.specs.Keys.{by_name, row_name, file_of, name_of, row_order, row_marked, sorted_rows}
use Rattle.sorting.specs.declared.Keys.{Keys}
use Rattle.sorting.proofs.Numbers.{sort-agree}
use Rattle.sorting.proofs.Ranking.{keep-to, up-to}
use Rattle.sorting.proofs.Rowing.{lawful-rows}
use Rattle.import_rows.specs.Queries.{kind_is}
use Rattle.domains.specs.Classify.{import_domain}
use Rattle.requirements.specs.Requirements.{function_rows, row_domain}
use Rattle.differences.specs.View.{Need, Row, row, need_at, export_rows}
use Rattle.blind.specs.Claims.{AlikeNames, SameRows}
use Rattle.blind.proofs.Lists.{keep-agree, map-agree}

module _ (file t u : List ℕ) (n : ℕ) (alike : AlikeNames t u n) where
  -- ---- a row
  module _ (i : ℕ) (h : i < n) where
    pub source-same : row_name file t (width 2) 0 1 i ≡ row_name file u (width 2) 0 1 i
    source-same = rw (alike i 0 h (omega arith), alike i 1 h (omega arith))

    field-same : row_name file t (width 2) 2 3 i ≡ row_name file u (width 2) 2 3 i
    field-same = rw (alike i 2 h (omega arith), alike i 3 h (omega arith))

    domain-same : row_domain file t i ≡ row_domain file u i
    domain-same = λ z. import_domain (source-same z) (field-same z)

    need-same : need_at file t i ≡ need_at file u i
    unfolding need_at
    need-same = λ z. record { domain = domain-same z; source = source-same z }

    kind-same : (kind : ℕ) → kind_is t kind i ≡ kind_is u kind i
    unfolding kind_is
    kind-same kind = ap (λ (k : ℕ). eqb k kind) (alike i 4 h (omega arith))

  -- ---- all rows
  below : (i : ℕ) → i ∈ up_from 0 n → i < n
  below i m = let b = up-to i 0 n m in omega arith

  functions-same : function_rows t n ≡ function_rows u n
  functions-same = keep-agree (kind_is t 0) (kind_is u 0) (up_from 0 n) (λ i m. kind-same i (below i m) 0)

  of-functions : {A : Type 0} (f g : ℕ → A) → ((i : ℕ) → i < n → f i ≡ g i) → map f (function_rows t n) ≡ map g (function_rows u n)
  of-functions f g same =
      map-agree f g (function_rows t n) (λ i m. same i (below i (keep-to (kind_is t 0) i (up_from 0 n) m).0))
      ∙ ap (map g) functions-same

  abbrev names : Keys
  names = by_name (width 2) 0 1 (width 2) 0

  name-same : (i : ℕ) → i < n → name_of file file t names i ≡ name_of file file u names i
  unfolding name_of file_of cell_of
  name-same i h = source-same i h

  order_same : (i j : ℕ) → i < n → j < n → row_order file file t names i j ≡ row_order file file u names i j
  unfolding row_order cell_of
  order_same i j h k = rw (name-same i h, name-same j k)

  marked-same : (i : ℕ) → row_marked file file t names i ≡ row_marked file file u names i
  unfolding row_marked cell_of
  marked-same i = refl

  namespaces-same : sorted_rows file file t names n ≡ sorted_rows file file u names n
  unfolding sorted_rows
  namespaces-same =
      sort-agree (row_order file file t names) (row_order file file u names) (lawful-rows file file u names)
      (selected (row_marked file file t names) (up_from 0 n)) (λ i j l m. order_same i j (listed i l) (listed j m))
      ∙ ap (sort (row_order file file u names)) (keep-agree _ _ (up_from 0 n) (λ i m. marked-same i))
    where
      listed : (i : ℕ) → i ∈ selected (row_marked file file t names) (up_from 0 n) → i < n
      listed i m = below i (keep-to (row_marked file file t names) i (up_from 0 n) m).0

pub same_rows : SameRows
same_rows file t u n alike =
    record {
      kinds = λ kind i h. kind-same file t u n alike i h kind;
      domains = domain-same file t u n alike;
      pairs = need-same file t u n alike;
      views = λ exports m.
          ap (λ (l : List (Row Need)). record { exports = export_rows file exports m; needs = l })
          (of-functions file t u n alike (row (need_at file t)) (row (need_at file u))
          (λ i h. ap (λ (k : Need). record { at = i; key = k }) (need-same file t u n alike i h)));
      functions = functions-same file t u n alike;
      asks = of-functions file t u n alike (row_domain file t) (row_domain file u) (domain-same file t u n alike);
      namespaces = namespaces-same file t u n alike;
    }
