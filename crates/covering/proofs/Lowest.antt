-- A capability difference is named by its lowest row. Assumes nothing.
use mathlib.Core.Path.{◌≡◌, refl, sym, ◌∙◌, ap}
use mathlib.Core.Logic.{◌↔◌, ⊎_elim}
use mathlib.Core.Bool.{Bool, true, false, not}
use mathlib.Core.List.Memᴰ
use mathlib.Core.List.{List, [], ◌∷◌, ◌++◌, map}
use Prim.Native.Nat.{ℕ, zero, suc, ◌<◌}
use native.Mathlib.Omega.{arith}
use Rattle.refusal.specs.Pick.{pick}
use Rattle.std.specs.declared.cmp.Ordering.TheVariants.{Equal}
use Rattle.sorting.specs.Sort.{◌∈◌, sort, selected, up_from}
use Rattle.sorting.proofs.Sorts.{tie-self}
use Rattle.sorting.proofs.Firsts.{Up, sort-lowest}
use Rattle.sorting.proofs.Ranking.{keep-to, up-to}
use Rattle.differences.specs.declared.Change.{Change}
use Rattle.differences.specs.declared.Change.TheVariants.{Removed, Added}
use Rattle.differences.specs.View.{Need, Row, row}
use Rattle.differences.specs.Differences.{Entry, entry, cmp_need, need_order, has_key, without, changes}
use Rattle.covering.specs.Replacing.{IsChange, IsLowest, Rising}
use Rattle.covering.proofs.Differ.{map-mem, part-mem, apart, changes-mem, mem-changes}
use Rattle.covering.proofs.Orders.{of-needs}

module _ {K : Type 0} where
  -- the rows of a table, those that pass a test
  pub rising-rows : (f : ℕ → K) (p : ℕ → Bool) (i n : ℕ) → Rising (map (row f) (selected p (up_from i n)))
  rising-rows f p i zero = tt
  rising-rows f p i (suc n) = by (p i) (rising-rows f p (suc i) n)
    where
      later : (s : Row K) → s ∈ map (row f) (selected p (up_from (suc i) n)) → i < s.at
      later s m =
          let u = map-mem (row f) s (selected p (up_from (suc i) n)) m in
          let v = keep-to p u.0 (up_from (suc i) n) u.1 in
          let e : s.at ≡ u.0 = ap (λ (r : Row K). r.at) u.2 in
          omega (arith, (up-to u.0 (suc i) n v.0).0)

      by : (t : Bool) → Rising (map (row f) (selected p (up_from (suc i) n)))
          → Rising (map (row f) (pick t (i ∷ selected p (up_from (suc i) n)) (selected p (up_from (suc i) n))))
      by true ih = (later, ih)
      by false ih = ih

  rising-keep : (q : Row K → Bool) (l : List (Row K)) → Rising l → Rising (selected q l)
  rising-keep q [] h = tt
  rising-keep q (r ∷ l) h = by (q r) (rising-keep q l h.1)
    where
      by : (t : Bool) → Rising (selected q l) → Rising (pick t (r ∷ selected q l) (selected q l))
      by true ih = ((λ s m. h.0 s (keep-to q s l m).0), ih)
      by false ih = ih

at_of : Entry Need → ℕ
at_of e = e.row.at

up-part : (h : Change) (l : List (Row Need)) → Rising l → Up need_order of-needs.flaws at_of (map (entry h) l)
unfolding at_of
up-part h [] r = tt
up-part h (x ∷ l) r = (
  (λ f m t.
      let s = map-mem (entry h) f l m in
      let q : f.row.at ≡ s.0.at = ap (λ (e : Entry Need). e.row.at) s.2 in
      omega (arith, r.0 s.0 s.1)),
  up-part h l r.1,
)

up-append : (l m : List (Entry Need)) → Up need_order of-needs.flaws at_of l → Up need_order of-needs.flaws at_of m
    → ((x f : Entry Need) → x ∈ l → f ∈ m → need_order x f ≡ Equal → ⊥) → Up need_order of-needs.flaws at_of (l ++ m)
up-append [] m u v n = v
up-append (x ∷ l) m u v n = (
  (λ f i t. ⊎_elim (λ j. u.0 f j t) (λ j. absurd (n x f (Memᴰ.head refl) j t)) (Memᴰ.append_cases l i)),
  up-append l m u.1 v (λ y f i j. n y f (Memᴰ.tail i) j),
)

-- each pair that one of the two lacks, once, by its lowest row
module _ (b c : List (Row Need)) (rb : Rising b) (rc : Rising c) where
  rising : Up need_order of-needs.flaws at_of (changes cmp_need b c)
  rising =
      up-append (map (entry Removed) (without cmp_need b c)) (map (entry Added) (without cmp_need c b))
      (up-part Removed (without cmp_need b c) (rising-keep (λ (r : Row Need). not (has_key cmp_need r.key c)) b rb))
      (up-part Added (without cmp_need c b) (rising-keep (λ (r : Row Need). not (has_key cmp_need r.key b)) c rc))
      (λ x f i j t.
      apart of-needs x.row f.row b c (part-mem of-needs Removed x b c i).1 (part-mem of-needs Added f c b j).1
      (of-needs.ties x f t))

  pub lowest-each : (e : Entry Need) → e ∈ sort need_order (changes cmp_need b c) ↔ (IsChange e b c × IsLowest e b c)
  unfolding at_of need_order
  lowest-each e =
      let all = sort-lowest need_order of-needs.flaws at_of e (changes cmp_need b c) rising in (
        (λ m. let s = all.0 m in (
          changes-mem of-needs e b c s.0,
          λ f u p. s.1 f (mem-changes of-needs f b c u) (ap (cmp_need e.row.key) p ∙ tie-self cmp_need of-needs.laws e.row.key),
        )),
        λ s. all.1 (
          mem-changes of-needs e b c s.0,
          λ f m t. s.1 f (changes-mem of-needs f b c m) (sym (of-needs.ties e f t)),
        ),
      )
