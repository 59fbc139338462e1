-- docs/RULES.md, "Tables": 15, for a table that is handed in with a count; and how many rows pass a test. Stated once, over the test of a
-- row. Assumes nothing.
use Rattle.std.specs.Prelude.{Bool, true, false, ℕ, zero, suc, ◌+◌, ltb, Option, Some, None}
use Rattle.refusal.specs.Pick.{pick}
use Rattle.refusal.specs.Said.{Said, accepted, refused, spot}

-- a row is bad where it does not pass
abbrev pub bad : (ℕ → Bool) → ℕ → Bool
bad good i = pick (good i) false true

-- 15 at the first of k rows, from row i on, that is bad
unfoldable pub first_from : (ℕ → Bool) → ℕ → ℕ → Said (Unit {0})
first_from bad i zero = accepted tt
first_from bad i (suc k) = pick (bad i) (refused 15 (spot i)) (first_from bad (i + 1) k)

-- a table that takes so many rows, of which n are stated: 15 at the capacity where the count exceeds it, else at the first bad row
unfoldable pub tested : ℕ → ℕ → (ℕ → Bool) → Said (Unit {0})
tested room n bad = pick (ltb room n) (refused 15 (spot room)) (first_from bad 0 n)

-- the count alone: 15 at the capacity where it exceeds it
unfoldable pub counted : ℕ → ℕ → Said (Unit {0})
counted room n = pick (ltb room n) (refused 15 (spot room)) (accepted tt)

-- 15 at the row that a search for a bad one found
unfoldable pub row_refused : Option ℕ → Said (Unit {0})
row_refused (Some i) = refused 15 (spot i)
row_refused None = accepted tt

-- how many of k rows, from row i on, pass
unfoldable pub count_from : (ℕ → Bool) → ℕ → ℕ → ℕ
count_from good i zero = 0
count_from good i (suc k) = pick (good i) (suc (count_from good (i + 1) k)) (count_from good (i + 1) k)
