-- The export list and the list of capability pairs, by numbers. Assumes nothing.
use Rattle.std.specs.Prelude.{Option, unwrap_or}
use mathlib.Core.Path.{◌≡◌, refl, sym, ◌∙◌, ap}
use mathlib.Core.Bool.{Bool, true, false}
use mathlib.Core.List.{List, [], ◌∷◌, map}
use Prim.Native.Nat.{ℕ, ◌+◌, ◌-◌, ◌≤◌, ◌<◌}
use native.Mathlib.Omega.{arith}
use borrow.Author.Tests.{ltb-true, ltb-false}
use lib.Dec.{ltb}
use lib.ListN.{length}
use Rattle.refusal.specs.Pick.{pick}
use Rattle.text.specs.Order.{cmp_nat, and_then, cmp_bytes}
use Rattle.std.specs.declared.cmp.Ordering.{Ordering}
use Rattle.std.specs.declared.cmp.Ordering.TheVariants.{Less, Equal, Greater}
use Rattle.table.specs.Shape.{cell_in}
use Rattle.sorting.specs.Sort.{sort, selected, up_from}
use Rattle.kinds.specs.Kinds.{kind_of}
use Rattle.import_rows.specs.Queries.{kind_is}
use Rattle.differences.specs.View.{ExportKey, Need, export_key_at, need_at, export_rows, row}
use Rattle.differences.specs.Compared.{Given}
use Rattle.differences.specs.Rank.{rank_of}
use Rattle.differences.specs.Differences.{kind_slug, cmp_export, cmp_need, export_order, need_order, changes}
use Rattle.differences.specs.Numbers.{sided}
use Rattle.differences.proofs.Ranks.{rank-order}
use Rattle.differences.proofs.Only.{lawful-export, lawful-exports, lawful-needs}
use Rattle.differences.proofs.Numbered.{sided-first, sided-second, number-order}
use Rattle.compat.specs.declared.keys.Key.{Key}
use Rattle.compat.specs.Keying.{key_name, export_key, need_key, export_keys, need_keys, row_count, keys_of, every_of, table_of}
use Rattle.compat.specs.Listing.{exports_between, export_numbered, needs_between, need_numbered, Listed, Passed}
use Rattle.compat.specs.declared.keys.Rows.{Rows}
use Rattle.compat.specs.declared.keys.Rows.TheVariants.{Exports, Needs}
use Rattle.differences.proofs.Tests.{exports-good}
use Rattle.keyed.specs.Keying.{missing, Lacks}
use Rattle.keyed.proofs.Listing.{missing-few}
use Rattle.keyed.proofs.Joining.{joined}
use Rattle.compat.proofs.Sizing.{lists-numbers}
use Rattle.compat.proofs.Keyed.{key_then, order_is, wanted-is}

then_equal : (o : Ordering) → and_then o Equal ≡ o
then_equal Less = refl
then_equal Equal = refl
then_equal Greater = refl

-- what a key says
record Says (b c : List ℕ) (k : Key) (major : ℕ) (name : List ℕ) (minor : ℕ) (wanted : Bool) : Type 0 where
  pub major-is : k.major ≡ major
  pub name-is : key_name b c k ≡ name
  pub minor-is : k.minor ≡ minor
  pub mark-is : k.wanted ≡ wanted

sided-same : {A : Type 0} (nb : ℕ) (x : A) (i : ℕ) → sided nb (λ j. x) (λ j. x) i ≡ x
unfolding sided
sided-same nb x i = by (ltb i nb)
  where
    by : (t : Bool) → pick t x x ≡ x
    by true = refl
    by false = refl

module _ (b be c ce : List ℕ) (nb : ℕ) where
  abbrev ExportSays : Key → ExportKey → Type 0
  ExportSays k e = Says b c k 0 e.name (rank_of e.kind) true

  export-says : (i : ℕ) → ExportSays (export_keys be nb ce i) (export_numbered b be nb c ce i).row.key
  unfolding export_key export_key_at key_name
  export-says i = by (ltb i nb) refl
    where
      first : (j : ℕ) → ExportSays (export_key 0 be j) (export_key_at b be j)
      first j = record { major-is = refl; name-is = refl; minor-is = refl; mark-is = refl }

      second : (j : ℕ) → ExportSays (export_key 1 ce j) (export_key_at c ce j)
      second j = record { major-is = refl; name-is = refl; minor-is = refl; mark-is = refl }

      by : (t : Bool) → ltb i nb ≡ t → ExportSays (export_keys be nb ce i) (export_numbered b be nb c ce i).row.key
      by true e =
          let l = ltb-true i nb e in
          rw (sided-first nb (export_key 0 be) (export_key 1 ce) i l, sided-first nb _ _ i l) (first i)
      by false e =
          let l = ltb-false i nb e in
          rw (sided-second nb (export_key 0 be) (export_key 1 ce) i l, sided-second nb _ _ i l) (second (i - nb))

  export-orders : {k l : Key} {e f : ExportKey} → ExportSays k e → ExportSays l f → e.kind ≤ 255 → f.kind ≤ 255
      → key_then b c k l ≡ cmp_export e f
  unfolding cmp_export cmp_bytes key_name kind_of
  export-orders {e = e} {f = f} p q h m =
      rw (p.major-is, q.major-is, p.name-is, q.name-is, p.minor-is, q.minor-is, rank-order e.kind f.kind h m)
      (ap (and_then (cmp_bytes e.name f.name)) (then_equal (cmp_bytes (kind_slug e.kind) (kind_slug f.kind))))

keep_all : (l : List ℕ) → selected (λ i. true) l ≡ l
keep_all [] = refl
keep_all (x ∷ l) = ap (◌∷◌ x) (keep_all l)

module _ (b be c ce : List ℕ) (nb nc : ℕ) (good_b : (i : ℕ) → i < nb → cell_in 3 be i 2 ≤ 255)
    (good_c : (i : ℕ) → i < nc → cell_in 3 ce i 2 ≤ 255) where
  kind-good : (i : ℕ) → i < nb + nc → (export_numbered b be nb c ce i).row.key.kind ≤ 255
  unfolding export_key_at
  kind-good i h = by (ltb i nb) refl
    where
      first : (j : ℕ) → j < nb → (export_key_at b be j).kind ≤ 255
      first j l = good_b j l

      second : (j : ℕ) → j < nc → (export_key_at c ce j).kind ≤ 255
      second j l = good_c j l

      by : (t : Bool) → ltb i nb ≡ t → (export_numbered b be nb c ce i).row.key.kind ≤ 255
      by true e = let l = ltb-true i nb e in rw (sided-first nb _ _ i l) (first i l)
      by false e = let l = ltb-false i nb e in rw (sided-second nb _ _ i l) (second (i - nb) (omega arith))

  pub exports-listed : (size : ℕ)
      → map (export_numbered b be nb c ce) (missing b c (table_of size (export_keys be nb ce) (nb + nc)) nb (nb + nc) true)
      ≡ exports_between b be nb c ce nc
  unfolding exports_between export_order
  exports-listed size =
      joined cmp_export (export_key_at b be) (export_key_at c ce) (λ i. true) (λ i. true) nb nc b c
      (table_of size (export_keys be nb ce) (nb + nc))
      (λ i j h k. order_is b c size (export_keys be nb ce) (nb + nc) i j h k
      ∙ export-orders b be c ce nb (export-says b be c ce nb i) (export-says b be c ce nb j) (kind-good i h) (kind-good j k))
      (λ i h. wanted-is b c size (export_keys be nb ce) (nb + nc) i h ∙ (export-says b be c ce nb i).mark-is ∙ sym (sided-same nb true i))
      true export_order lawful-exports
      (λ i j h k li lj. number-order cmp_export (export_key_at b be) (export_key_at c ce) (λ i. true) (λ i. true) nb nc
      lawful-export i j h k li lj)
      ∙ ap
      (λ (l : List ℕ). sort export_order
      (changes cmp_export (map (row (export_key_at b be)) l) (map (row (export_key_at c ce)) (selected (λ i. true) (up_from 0 nc)))))
      (keep_all (up_from 0 nb))
      ∙ ap (λ (l : List ℕ). sort export_order (changes cmp_export (export_rows b be nb) (map (row (export_key_at c ce)) l)))
      (keep_all (up_from 0 nc))

-- ---- capability pairs
module _ (b bi c ci : List ℕ) (nb : ℕ) where
  abbrev NeedSays : Key → Need → Bool → Type 0
  NeedSays k e w = Says b c k e.domain e.source 0 w

  need-says : (i : ℕ)
      → NeedSays (need_keys b bi nb c ci i) (need_numbered b bi nb c ci i).row.key (sided nb (kind_is bi 0) (kind_is ci 0) i)
  unfolding need_key need_at key_name
  need-says i = by (ltb i nb) refl
    where
      first : (j : ℕ) → NeedSays (need_key 0 b bi j) (need_at b bi j) (kind_is bi 0 j)
      first j = record { major-is = refl; name-is = refl; minor-is = refl; mark-is = refl }

      second : (j : ℕ) → NeedSays (need_key 1 c ci j) (need_at c ci j) (kind_is ci 0 j)
      second j = record { major-is = refl; name-is = refl; minor-is = refl; mark-is = refl }

      by : (t : Bool) → ltb i nb ≡ t
          → NeedSays (need_keys b bi nb c ci i) (need_numbered b bi nb c ci i).row.key (sided nb (kind_is bi 0) (kind_is ci 0) i)
      by true e =
          let l = ltb-true i nb e in
          rw (
            sided-first nb (need_key 0 b bi) (need_key 1 c ci) i l,
            sided-first nb (kind_is bi 0) (kind_is ci 0) i l,
            sided-first nb _ _ i l,
          )
          (first i)
      by false e =
          let l = ltb-false i nb e in
          rw (
            sided-second nb (need_key 0 b bi) (need_key 1 c ci) i l,
            sided-second nb (kind_is bi 0) (kind_is ci 0) i l,
            sided-second nb _ _ i l,
          )
          (second (i - nb))

  -- the domain of a number's row
  pub need-major : (i : ℕ) → (need_keys b bi nb c ci i).major ≡ (need_numbered b bi nb c ci i).row.key.domain
  need-major i = (need-says i).major-is

  need-orders : {k l : Key} {e f : Need} {v w : Bool} → NeedSays k e v → NeedSays l f w → key_then b c k l ≡ cmp_need e f
  unfolding cmp_need cmp_bytes key_name
  need-orders {e = e} {f = f} p q =
      rw (p.major-is, q.major-is, p.name-is, q.name-is, p.minor-is, q.minor-is)
      (ap (and_then (cmp_nat e.domain f.domain)) (then_equal (cmp_bytes e.source f.source)))

pub needs-listed : (b bi c ci : List ℕ) (nb nc : ℕ)
    → (size : ℕ) → map (need_numbered b bi nb c ci) (missing b c (table_of size (need_keys b bi nb c ci) (nb + nc)) nb (nb + nc) false)
    ≡ needs_between b bi nb c ci nc
unfolding needs_between need_order
needs-listed b bi c ci nb nc size =
    joined cmp_need (need_at b bi) (need_at c ci) (kind_is bi 0) (kind_is ci 0) nb nc b c
    (table_of size (need_keys b bi nb c ci) (nb + nc))
    (λ i j h k. order_is b c size (need_keys b bi nb c ci) (nb + nc) i j h k
    ∙ need-orders b bi c ci nb (need-says b bi c ci nb i) (need-says b bi c ci nb j))
    (λ i h. wanted-is b c size (need_keys b bi nb c ci) (nb + nc) i h ∙ (need-says b bi c ci nb i).mark-is)
    false need_order lawful-needs
    (λ i j h k li lj. then_equal (cmp_need (need_numbered b bi nb c ci i).row.key (need_numbered b bi nb c ci j).row.key))

-- ---- either list
pub rows-listed : (rows : Rows) (b c : Given) (size : ℕ) {nb nc : ℕ} {keys before after : List ℕ} {t every : Bool} {s : Option ℕ} {r : ℕ}
    → nb ≡ row_count rows b → nc ≡ row_count rows c → Passed rows b → Passed rows c
    → keys ≡ table_of size (keys_of rows b c) (nb + nc) → every ≡ every_of rows
    → Lacks t (missing b.file c.file keys nb (nb + nc) every) before after s → t ≡ true → nb + nc ≤ length before → r ≡ unwrap_or s 0
    → Listed rows b c after r
rows-listed Exports b c size m n p q k e w y h u =
    let f = b.file in
    let g = c.file in
    let all = b.export_count + c.export_count in
    lists-numbers (rw (k, e, m, n) at w) y
    (omega (arith, h, m, n, missing-few f g (table_of size (keys_of Exports b c) all) b.export_count all (omega arith) true)) u
    (exports-listed f b.exports g c.exports b.export_count c.export_count (exports-good _ _ _ p).1 (exports-good _ _ _ q).1 size)
rows-listed Needs b c size m n p q k e w y h u =
    let f = b.file in
    let g = c.file in
    let all = b.import_count + c.import_count in
    lists-numbers (rw (k, e, m, n) at w) y
    (omega (arith, h, m, n, missing-few f g (table_of size (keys_of Needs b c) all) b.import_count all (omega arith) false)) u
    (needs-listed f b.imports g c.imports b.import_count c.import_count size)
