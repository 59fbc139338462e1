-- The test of a row of table 3, by what the calls on its cells answer; and what a test that passes says. Assumes nothing.
use mathlib.Core.Path.{◌≡◌, refl}
use mathlib.Core.Bool.{Bool, true, false}
use mathlib.Core.List.{List}
use Prim.Native.Nat.{ℕ, zero, suc, ◌+◌, ◌≤◌, ◌<◌}
use native.Mathlib.Omega.{arith}
use borrow.Author.Tests.{leb-true, ltb-true, ltb-false}
use lib.Dec.{leb, ltb}
use lib.ListN.{length}
use Rattle.refusal.specs.Pick.{pick, both}
use Rattle.refusal.specs.Sizes.{fits_in}
use Rattle.refusal.specs.Said.{accepted, refused, spot}
use Rattle.refusal.proofs.Following.{never}
use Rattle.table.specs.Shape.{width, limit, capacity_in, cell_in}
use Rattle.table.specs.Testing.{bad, first_from, tested}
use Rattle.table.proofs.Cells.{capacity-limit}
use Rattle.import_rows.specs.Queries.{import_fits, imports_tested}
use Rattle.differences.specs.Compared.{export_fits, exports_tested}

module _ (n : ℕ) (exports : List ℕ) (i : ℕ) where
  module _ {a b : ℕ} {f : Bool} (ea : a ≡ cell_in 3 exports i 0) (eb : b ≡ cell_in 3 exports i 1) (ef : f ≡ fits_in n a b) where
    name-is : fits_in n (cell_in 3 exports i 0) (cell_in 3 exports i 1) ≡ f
    name-is = rw (← ea, ← eb, ← ef)

    pub name_out : f ≡ false → false ≡ export_fits n exports i
    unfolding export_fits
    name_out h = rw (name-is, h)

    pub name_in : f ≡ true → {k : ℕ} → k ≡ cell_in 3 exports i 2 → leb k 255 ≡ export_fits n exports i
    unfolding export_fits
    name_in h q = rw (name-is, h, q)

-- ---- tables that pass
pub never-false : true ≡ false → ⊥
never-false e = let z : ◌≡◌ {A = ℕ} 0 1 = cc in omega arith

first-all : (test : ℕ → Bool) (k i j : ℕ) → first_from test i k ≡ accepted tt → i ≤ j → j < i + k → test j ≡ false
unfolding first_from
first-all test zero i j e h l = absurd (omega arith)
first-all test (suc k) i j e h l = by (test i) refl e (λ q m. first-all test k (i + 1) j q m (omega arith))
  where
    by : (t : Bool) → test i ≡ t → pick t (refused 15 (spot i)) (first_from test (i + 1) k) ≡ accepted tt
        → (first_from test (i + 1) k ≡ accepted tt → i + 1 ≤ j → test j ≡ false) → test j ≡ false
    by true q r rest = absurd (never r)
    by false q r rest = here (ltb i j) refl
      where
        here : (s : Bool) → ltb i j ≡ s → test j ≡ false
        here true d = rest r (omega (arith, ltb-true i j d))
        here false d = let same : j ≡ i = omega (arith, ltb-false i j d) in rw same q

-- the count is within the capacity, and no row is test
pub tested-all : (room n : ℕ) (test : ℕ → Bool) → tested room n test ≡ accepted tt → (n ≤ room) × ((j : ℕ) → j < n → test j ≡ false)
unfolding tested
tested-all room n test e = by (ltb room n) refl e
  where
    by : (t : Bool) → ltb room n ≡ t → pick t (refused 15 (spot room)) (first_from test 0 n) ≡ accepted tt
        → (n ≤ room) × ((j : ℕ) → j < n → test j ≡ false)
    by true q r = absurd (never r)
    by false q r = (ltb-false room n q, λ j l. first-all test n 0 j r (omega arith) (omega arith))

-- the count is within the limit, and each kind is a byte
pub exports-good : (size : ℕ) (exports : List ℕ) (n : ℕ) → exports_tested size exports n ≡ accepted tt
    → (n ≤ limit 3) × ((j : ℕ) → j < n → cell_in 3 exports j 2 ≤ 255)
unfolding exports_tested export_fits
exports-good size exports n e =
    let t = tested-all (capacity_in 3 (length exports)) n (bad (export_fits size exports)) e in
    (omega (arith, t.0, capacity-limit (length exports) (width 3) (limit 3)), λ j l. kind-in j (t.1 j l))
  where
    kind-in : (j : ℕ) → bad (export_fits size exports) j ≡ false → cell_in 3 exports j 2 ≤ 255
    kind-in j q =
        by (fits_in size (cell_in 3 exports j 0) (cell_in 3 exports j 1)) (leb (cell_in 3 exports j 2) 255) refl q
      where
        by : (a b : Bool) → leb (cell_in 3 exports j 2) 255 ≡ b → pick (both a b) false true ≡ false → cell_in 3 exports j 2 ≤ 255
        by true true d r = leb-true (cell_in 3 exports j 2) 255 d
        by true false d r = absurd (never-false r)
        by false b d r = absurd (never-false r)

pub imports-good : (size : ℕ) (imports : List ℕ) (n : ℕ) → imports_tested size imports n ≡ accepted tt → n ≤ limit 2
unfolding imports_tested
imports-good size imports n e =
    let t = tested-all (capacity_in 2 (length imports)) n (bad (import_fits size imports)) e in
    omega (arith, t.0, capacity-limit (length imports) (width 2) (limit 2))
