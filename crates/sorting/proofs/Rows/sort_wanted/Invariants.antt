use Prim.Native.Nat.{ℕ, ◌<◌}
use mathlib.Core.Bool.{Bool}
use mathlib.Core.Path.{◌≡◌}
use lib.ListN.{length}
use Rattle.sorting.specs.Sort.{sort}
use Rattle.sorting.specs.Filling.{order_of, Ordered, Filled}
use Rattle.sorting.proofs.Listing.{kept_from}
use Rattle.sorting.proofs.Rows.sort_wanted.Given as goal

abbrev pub invariant-loop-i : goal.invariant-loop-i
invariant-loop-i g l =
    let order = order_of l.self in
    (length l.sorted ≡ length l.initial.sorted)
    × Ordered order l.sorted l.k
    × ((wanted : ℕ → Bool) → ((i : ℕ) (r : Bool) → i < l.n → goal.F-post g l.is_wanted i r → r ≡ wanted i)
    → Filled (sort order (kept_from wanted l.i l.n)) l.initial.sorted l.sorted l.k)
