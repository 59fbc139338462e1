-- Where a policy, a module and a comparison are refused: numbers of at most twenty digits. Assumes nothing.
use mathlib.Core.Path.{◌≡◌, refl, sym, subst₂}
use mathlib.Core.Bool.{Bool, true, false}
use mathlib.Core.List.{List}
use Prim.Native.Nat.{ℕ, zero, suc, ◌+◌, ◌≤◌}
use native.Mathlib.Omega.{arith}
use lib.Dec.{leb, ltb, eqb}
use lib.ListN.{length}
use borrow.Author.Tests.{leb-true, ltb-false, eqb-true}
use Rattle.refusal.specs.Pick.{pick, within}
use Rattle.refusal.specs.Sizes.{file_limit, text_limit}
use Rattle.refusal.specs.Said.{Said, accepted, refused, follow, Place, offset, spot, kind_at}
use Rattle.refusal.proofs.Following.{never}
use Rattle.text.proofs.Laws.{both-two}
use Rattle.table.specs.Shape.{capacity_in, limit, width}
use Rattle.table.specs.Testing.{first_from, tested}
use Rattle.table.specs.Entries.{finished}
use Rattle.table.proofs.Cells.{capacity-limit}
use Rattle.import_rows.specs.Queries.{imports_tested}
use Rattle.wasm.specs.Module.{Parsed, module_at}
use Rattle.conform.specs.Claims.{Bytes}
use Rattle.conform.specs.Places.{with_offset}
use Rattle.conform.proofs.Places.{places-in-file, kind-there, only-offsets, tables-few}
use Rattle.policy.specs.Reader.{read_policy}
use Rattle.differences.specs.Compared.{Given, lists, viewed, exports_tested, tables_tested, roomed, compared}
use Rattle.rewritten.proofs.Enough.{read-placed}
use Rattle.reviewed.specs.Review.{lent, read_build}
use Rattle.lengths.proofs.Lines.{Short}

-- ---- a policy
pub policy-short : (s : List ℕ) {n : ℕ} {p : Place} → read_policy s ≡ refused n p → Short n p
policy-short s e =
    let q = read-placed s e in
    record { number = omega (arith, q.number); place = omega (arith, q.place); beside = omega (arith, q.beside) }

-- ---- a module
within-small : (lo hi n : ℕ) → within lo hi n ≡ true → n ≤ hi
within-small lo hi n e = leb-true n hi (both-two (leb lo n) (leb n hi) e)

offset-number : (n : ℕ) → with_offset n ≡ true → n ≤ 19
offset-number n e = by (within 1 2 n) refl (eqb n 4) refl e
  where
    by : (t : Bool) → within 1 2 n ≡ t → (u : Bool) → eqb n 4 ≡ u → pick t true (pick u true (within 17 19 n)) ≡ true → n ≤ 19
    by true p u q e = omega (arith, within-small 1 2 n p)
    by false p true q e = omega (arith, eqb-true n 4 q)
    by false p false q e = within-small 17 19 n e

module-short : (b : List ℕ) → Bytes b → length b ≤ text_limit → {n : ℕ} (p : Place) → module_at b lent ≡ refused n p → Short n p
module-short b bytes h {n} (offset p) e =
    record {
      number = omega (arith, offset-number n (only-offsets b lent n (offset p) e));
      place = omega (arith, places-in-file b lent n p e);
      beside = omega arith;
    }
module-short b bytes h {n} (spot p) e =
    record {
      number = omega (arith, within-small 13 14 n (only-offsets b lent n (spot p) e));
      place = omega (arith, tables-few b lent n p e);
      beside = omega arith;
    }
module-short b bytes h {n} (kind_at k o) e =
    let q = kind-there b lent n k o bytes e in
    record { number = omega (arith, only-offsets b lent n (kind_at k o) e); place = omega (arith, q.3); beside = omega (arith, q.0) }

-- ---- a file that is read, or refused for its length
pub record Accepts (b : List ℕ) (m : Parsed) : Type 0 where
  pub few : length b ≤ text_limit
  pub is : module_at b lent ≡ accepted m

module _ (b : List ℕ) where
  pub build-accepts : (m : Parsed) → read_build b ≡ accepted m → Accepts b m
  unfolding read_build
  build-accepts m e = by (ltb text_limit (length b)) refl e
    where
      by : (t : Bool) → ltb text_limit (length b) ≡ t → pick t (refused 14 (spot 0)) (module_at b lent) ≡ accepted m → Accepts b m
      by true q e = absurd (never e)
      by false q e = record { few = ltb-false text_limit (length b) q; is = e }

  pub build-short : Bytes b → {n : ℕ} (p : Place) → read_build b ≡ refused n p → Short n p
  unfolding read_build
  build-short bytes {n} p e = by (ltb text_limit (length b)) refl e
    where
      long : Short 14 (spot 0)
      long = record { number = omega arith; place = omega arith; beside = omega arith }

      by : (t : Bool) → ltb text_limit (length b) ≡ t → pick t (refused 14 (spot 0)) (module_at b lent) ≡ refused n p → Short n p
      by true q e = let i : 14 ≡ n = cc in let j : spot 0 ≡ p = cc in subst₂ (λ (k : ℕ) (r : Place). Short k r) i j long
      by false q e = module-short b bytes (ltb-false text_limit (length b) q) p e

-- ---- a comparison
abbrev Stops : {X : Type 0} → Said X → Type 0
Stops x = (n : ℕ) (p : Place) → x ≡ refused n p → Short n p

stops_at : {X : Type 0} (n p : ℕ) → n ≤ 2048 → p ≤ 2048 → Stops {X = X} (refused n (spot p))
stops_at n p h k m q e =
    let i : n ≡ m = cc in
    let j : spot p ≡ q = cc in
    let s : Short n (spot p) = record { number = omega arith; place = omega arith; beside = omega arith } in
    subst₂ (λ (k : ℕ) (r : Place). Short k r) i j s

stops-not : {X : Type 0} (v : X) → Stops (accepted v)
stops-not v n p e = absurd (never (sym e))

stops-pick : {X : Type 0} (t : Bool) (x y : Said X) → Stops x → Stops y → Stops (pick t x y)
stops-pick true x y h k = h
stops-pick false x y h k = k

stops-follow : {X Y : Type 0} (x : Said X) (f : X → Said Y) → Stops x → ((v : X) → Stops (f v)) → Stops (follow x f)
unfolding follow
stops-follow (accepted v) f h k n p e = k v n p e
stops-follow (refused m q) f h k n p e =
    let i : m ≡ n = cc in let j : q ≡ p = cc in subst₂ (λ (k : ℕ) (r : Place). Short k r) i j (h m q refl)

first_stops : (test : ℕ → Bool) (i k : ℕ) → i + k ≤ 2048 → Stops (first_from test i k)
unfolding first_from
first_stops test i zero h = stops-not tt
first_stops test i (suc k) h =
    stops-pick (test i) _ _ (stops_at 15 i (omega arith) (omega arith)) (first_stops test (i + 1) k (omega arith))

tested-stops : (room n : ℕ) (test : ℕ → Bool) → room ≤ 2048 → n ≤ 2048 → Stops (tested room n test)
unfolding tested
tested-stops room n test h k = stops-pick (ltb room n) _ _ (stops_at 15 room (omega arith) h) (first_stops test 0 n (omega arith))

-- tables with so few rows
pub record Counted (g : Given) : Type 0 where
  pub imports : g.import_count ≤ 1024
  pub exports : g.export_count ≤ 1024

tables-stop : (g : Given) → Counted g → Stops (tables_tested g)
unfolding tables_tested imports_tested exports_tested
tables-stop g few =
    let x = capacity-limit (length g.imports) (width 2) (limit 2) in
    let y = capacity-limit (length g.exports) (width 3) (limit 3) in
    stops-follow _ _
    (tested-stops (capacity_in 2 (length g.imports)) g.import_count _ (omega (arith, x)) (omega (arith, few.imports)))
    (λ u. tested-stops (capacity_in 3 (length g.exports)) g.export_count _ (omega (arith, y)) (omega (arith, few.exports)))

finished-stops : {R : Type 0} (tn room : ℕ) (rows : List R) → tn ≤ 2048 → Stops (finished tn room rows)
unfolding finished
finished-stops tn room rows h = stops-pick (leb (length rows) room) _ _ (stops-not (length rows)) (stops_at 13 tn (omega arith) h)

pub compared-short : (b c : Given) (room8 room9 : ℕ) → Counted b → Counted c → Stops (compared b c room8 room9)
unfolding compared roomed
compared-short b c room8 room9 h k =
    stops-pick (ltb file_limit (length b.file)) _ _ (stops_at 14 0 (omega arith) (omega arith))
    (stops-pick (ltb file_limit (length c.file)) _ _ (stops_at 14 0 (omega arith) (omega arith))
    (stops-follow _ _ (tables-stop b h)
    (λ u. stops-follow _ _ (tables-stop c k)
    (λ v. stops-follow _ _ (finished-stops 8 room8 _ (omega arith))
    (λ m. stops-follow _ _ (finished-stops 9 room9 _ (omega arith)) (λ n. stops-not (lists (viewed b) (viewed c))))))))
