-- Marks taken from a table of keys, row by row. Assumes nothing.
use mathlib.Core.Path.{◌≡◌, refl, sym, ◌∙◌, ap}
use mathlib.Core.Bool.{Bool, true, false}
use mathlib.Core.List.{List}
use Prim.Native.Nat.{ℕ, ◌+◌, ◌*◌, ◌<◌}
use native.Mathlib.Omega.{arith}
use borrow.Author.Tests.{lt-ltb, le-ltb, ltb-true, ltb-false, eq-eqb, ne_eqb, eqb-true, eqb-false}
use lib.Dec.{eqb, ltb}
use lib.ListN.{length, get_or, set, length-set, get_or-eq_default}
use lib.Seq.{get_or-set_same, get_or-set_other}
use Rattle.refusal.specs.Pick.{pick, both}
use Rattle.table.specs.Table.{cell_of}
use Rattle.table.proofs.Cells.{cell-there}
use Rattle.keyed.specs.Quick.{Unmarked}

-- ---- one row
module _ (l : List ℕ) (k : ℕ) where
  abbrev less : List ℕ
  less = set l (k * 6 + 5) 0

  set-others : (i j : ℕ) → j < 5 → cell_of less 6 i j ≡ cell_of l 6 i j
  set-others i j h =
      cell-there less 6 i j (omega arith)
      ∙ get_or-set_other l (k * 6 + 5) (i * 6 + j) 0 0 (λ e. omega arith)
      ∙ sym (cell-there l 6 i j (omega arith))

  set-mark : (i : ℕ) → cell_of less 6 i 5 ≡ pick (eqb i k) 0 (cell_of l 6 i 5)
  set-mark i = by (eqb i k) refl
    where
      zero-there : (t : Bool) → ltb (k * 6 + 5) (length l) ≡ t → get_or less (k * 6 + 5) 0 ≡ 0
      zero-there true e = get_or-set_same l (k * 6 + 5) 0 0 (ltb-true (k * 6 + 5) (length l) e)
      zero-there false e =
          get_or-eq_default less 0 (omega (arith, ltb-false (k * 6 + 5) (length l) e, length-set l (k * 6 + 5) 0))

      by : (t : Bool) → eqb i k ≡ t → cell_of less 6 i 5 ≡ pick t 0 (cell_of l 6 i 5)
      by true e =
          let q : i ≡ k = eqb-true i k e in
          cell-there less 6 i 5 (omega arith) ∙ ap (λ (m : ℕ). get_or less (m * 6 + 5) 0) q ∙ zero-there (ltb (k * 6 + 5) (length l)) refl
      by false e =
          cell-there less 6 i 5 (omega arith)
          ∙ get_or-set_other l (k * 6 + 5) (i * 6 + 5) 0 0 (λ q. eqb-false i k e (omega arith))
          ∙ sym (cell-there l 6 i 5 (omega arith))

-- ---- row by row
module _ (keys found : List ℕ) where
  pub none_yet : Unmarked keys found 0 keys
  none_yet = record { long = refl; others = λ i j h. refl; marks = λ i. rw (le-ltb i 0 (omega arith)) }

  module _ (k : ℕ) {now : List ℕ} (u : Unmarked keys found k now) where
    -- whether a row is below k + 1
    below : (i : ℕ) (b : Bool) → ltb i k ≡ b → (c : Bool) → eqb i k ≡ c → ltb i (k + 1) ≡ pick c true b
    below i true p true q = absurd (omega (arith, ltb-true i k p, eqb-true i k q))
    below i true p false q = lt-ltb i (k + 1) (omega (arith, ltb-true i k p))
    below i false p true q = lt-ltb i (k + 1) (omega (arith, eqb-true i k q))
    below i false p false q =
        le-ltb i (k + 1) (let h : i ≡ k → ⊥ = eqb-false i k q in omega (arith, ltb-false i k p))

    pub one_kept : {m : ℕ} → m ≡ cell_of found 1 k 0 → (m ≡ 1 → ⊥) → Unmarked keys found (k + 1) now
    one_kept e h =
        record {
          long = u.long;
          others = u.others;
          marks = λ i. u.marks i ∙ ap (λ (t : Bool). pick t 0 (cell_of keys 6 i 5)) (by i (ltb i k) refl (eqb i k) refl);
        }
      where
        here : get_or found k 0 ≡ 1 → ⊥
        here q = h (e ∙ cell-there found 1 k 0 (omega arith) ∙ ap (λ (j : ℕ). get_or found j 0) (omega arith) ∙ q)

        by : (i : ℕ) (b : Bool) → ltb i k ≡ b → (c : Bool) → eqb i k ≡ c
            → both (ltb i k) (eqb (get_or found i 0) 1) ≡ both (ltb i (k + 1)) (eqb (get_or found i 0) 1)
        by i b p true q =
            let s : i ≡ k = eqb-true i k q in
            rw (below i b p true q, p, s, ne_eqb (get_or found k 0) 1 here) (no b)
          where
            no : (b : Bool) → both b false ≡ false
            no true = refl
            no false = refl
        by i b p false q = rw (below i b p false q, p)

    pub one-taken : {m : ℕ} → m ≡ cell_of found 1 k 0 → m ≡ 1 → {after : List ℕ} → after ≡ set now (k * 6 + 5) 0
        → Unmarked keys found (k + 1) after
    one-taken e h {after} s =
        record {
          long = ap length s ∙ (simp length-set) ∙ u.long;
          others = λ i j l. ap (λ (t : List ℕ). cell_of t 6 i j) s ∙ set-others now k i j l ∙ u.others i j l;
          marks = λ i. ap (λ (t : List ℕ). cell_of t 6 i 5) s ∙ set-mark now k i ∙ by i (ltb i k) refl (eqb i k) refl;
        }
      where
        here : get_or found k 0 ≡ 1
        here = ap (λ (j : ℕ). get_or found j 0) (omega arith) ∙ sym (cell-there found 1 k 0 (omega arith)) ∙ sym e ∙ h

        by : (i : ℕ) (b : Bool) → ltb i k ≡ b → (c : Bool) → eqb i k ≡ c
            → pick (eqb i k) 0 (cell_of now 6 i 5) ≡ pick (both (ltb i (k + 1)) (eqb (get_or found i 0) 1)) 0 (cell_of keys 6 i 5)
        by i b p true q =
            let v : i ≡ k = eqb-true i k q in
            rw (below i b p true q, q, v, eq-eqb (get_or found k 0) 1 here)
        by i b p false q = rw (below i b p false q, q) (u.marks i ∙ rw p)
