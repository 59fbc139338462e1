-- A row whose cells from its kind on are as the reader leaves them has the mark of its kind and flag, and zeros where nothing is there: its
-- descriptor gives no 15. Assumes nothing.
use mathlib.Core.Path.{◌≡◌, refl, ap}
use mathlib.Core.Bool.{Bool, true, false}
use mathlib.Core.List.{List}
use Prim.Native.Nat.{ℕ, suc, ◌+◌, ◌*◌, ◌<◌}
use native.Mathlib.Omega.{arith}
use lib.ListN.{get_or}
use borrow.Author.Tests.{le-leb, eq-eqb}
use Rattle.refusal.specs.Pick.{pick}
use Rattle.table.specs.Testing.{count_from}
use Rattle.conform.specs.Asked.{CellsFit, function, table, table-most, memory, memory-most, global}
use Rattle.import_rows.specs.Queries.{import_cell, given_of, number_there, number_fits, marked, desc_fits, kind_fits}

module _ (t : List ℕ) (i : ℕ) where
  zero-fits : (g c : ℕ) → import_cell t i c ≡ 0 → number_fits g t i c ≡ true
  unfolding number_fits
  zero-fits g c e = rw e (by (number_there g c))
    where
      by : (b : Bool) → pick b true true ≡ true
      by true = refl
      by false = refl

  there-fits : (g c : ℕ) → number_there g c ≡ true → number_fits g t i c ≡ true
  unfolding number_fits
  there-fits g c e = rw e

  six-fit : (g : ℕ) → number_fits g t i 5 ≡ true → number_fits g t i 6 ≡ true → number_fits g t i 7 ≡ true → number_fits g t i 8 ≡ true
      → number_fits g t i 9 ≡ true → number_fits g t i 10 ≡ true → import_cell t i 11 ≡ g → marked g t i ≡ true
  unfolding marked count_from
  six-fit g five six seven eight nine ten mark = rw (mark, eq-eqb g g refl, five, six, seven, eight, nine, ten)

  of-kind : (k f g : ℕ) → k < 4 → import_cell t i 4 ≡ k → import_cell t i 7 ≡ f → given_of k f ≡ g → marked g t i ≡ true
      → kind_fits t i ≡ true
  unfolding kind_fits desc_fits
  of-kind k f g h kind flag given fits = rw (kind, flag, given, le-leb k 255 (omega arith), fits)

  pub row_fits : (l : List ℕ) → ((j : ℕ) → j < 8 → import_cell t i (suc (suc (suc (suc j)))) ≡ get_or l j 0) → CellsFit l → kind_fits t i ≡ true
  unfolding given_of
  row_fits l e (function {x}) =
      of-kind 0 0 1 (omega arith) (e 0 (omega arith)) (e 3 (omega arith)) refl
      (six-fit 1 (there-fits 1 5 refl) (zero-fits 1 6 (e 2 (omega arith))) (zero-fits 1 7 (e 3 (omega arith)))
      (zero-fits 1 8 (e 4 (omega arith))) (zero-fits 1 9 (e 5 (omega arith))) (zero-fits 1 10 (e 6 (omega arith))) (e 7 (omega arith)))
  row_fits l e (table {f = f} even) =
      of-kind 1 f 14 (omega arith) (e 0 (omega arith)) (e 3 (omega arith)) (ap (λ (r : ℕ). 14 + r * 16) even)
      (six-fit 14 (zero-fits 14 5 (e 1 (omega arith))) (there-fits 14 6 refl) (there-fits 14 7 refl) (there-fits 14 8 refl)
      (zero-fits 14 9 (e 5 (omega arith))) (zero-fits 14 10 (e 6 (omega arith))) (e 7 (omega arith)))
  row_fits l e (table-most {f = f} odd) =
      of-kind 1 f 30 (omega arith) (e 0 (omega arith)) (e 3 (omega arith)) (ap (λ (r : ℕ). 14 + r * 16) odd)
      (six-fit 30 (zero-fits 30 5 (e 1 (omega arith))) (there-fits 30 6 refl) (there-fits 30 7 refl) (there-fits 30 8 refl)
      (there-fits 30 9 refl) (zero-fits 30 10 (e 6 (omega arith))) (e 7 (omega arith)))
  row_fits l e (memory {f = f} even) =
      of-kind 2 f 12 (omega arith) (e 0 (omega arith)) (e 3 (omega arith)) (ap (λ (r : ℕ). 12 + r * 16) even)
      (six-fit 12 (zero-fits 12 5 (e 1 (omega arith))) (zero-fits 12 6 (e 2 (omega arith))) (there-fits 12 7 refl) (there-fits 12 8 refl)
      (zero-fits 12 9 (e 5 (omega arith))) (zero-fits 12 10 (e 6 (omega arith))) (e 7 (omega arith)))
  row_fits l e (memory-most {f = f} odd) =
      of-kind 2 f 28 (omega arith) (e 0 (omega arith)) (e 3 (omega arith)) (ap (λ (r : ℕ). 12 + r * 16) odd)
      (six-fit 28 (zero-fits 28 5 (e 1 (omega arith))) (zero-fits 28 6 (e 2 (omega arith))) (there-fits 28 7 refl) (there-fits 28 8 refl)
      (there-fits 28 9 refl) (zero-fits 28 10 (e 6 (omega arith))) (e 7 (omega arith)))
  row_fits l e (global {t = x}) =
      of-kind 3 0 34 (omega arith) (e 0 (omega arith)) (e 3 (omega arith)) refl
      (six-fit 34 (zero-fits 34 5 (e 1 (omega arith))) (there-fits 34 6 refl) (zero-fits 34 7 (e 3 (omega arith)))
      (zero-fits 34 8 (e 4 (omega arith))) (zero-fits 34 9 (e 5 (omega arith))) (there-fits 34 10 refl) (e 7 (omega arith)))
