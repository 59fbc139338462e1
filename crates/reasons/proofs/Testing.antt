-- The test of a row of table 8 or 9, by what the calls on its cells answer. Assumes nothing.
use mathlib.Core.Path.{◌≡◌}
use mathlib.Core.Bool.{false}
use mathlib.Core.List.{List}
use Prim.Native.Nat.{ℕ, ◌≤◌, ◌<◌}
use borrow.Author.Tests.{le-leb, lt-leb}
use lib.Dec.{eqb, ltb}
use Rattle.refusal.specs.Pick.{pick}
use Rattle.table.specs.Shape.{cell_in}
use Rattle.reasons.specs.Reasons.{export_diff_fits, need_diff_fits}

module _ (nb nc : ℕ) (table : List ℕ) (i : ℕ) where
  pub export-fits : {row change count : ℕ} → row ≡ cell_in 8 table i 1 → change ≡ cell_in 8 table i 0
      → count ≡ pick (eqb change 0) nb nc → ltb row count ≡ export_diff_fits nb nc table i
  unfolding export_diff_fits
  export-fits r c n = rw (n, r, c)

  module _ {domain : ℕ} (d : domain ≡ cell_in 9 table i 1) where
    pub need-over : 6 < domain → false ≡ need_diff_fits nb nc table i
    unfolding need_diff_fits
    need-over h = rw (← d, lt-leb domain 6 h)

    pub need-fits : domain ≤ 6 → {row change count : ℕ} → row ≡ cell_in 9 table i 2 → change ≡ cell_in 9 table i 0
        → count ≡ pick (eqb change 0) nb nc → ltb row count ≡ need_diff_fits nb nc table i
    unfolding need_diff_fits
    need-fits h r c n = rw (← d, le-leb domain 6 h, n, r, c)
