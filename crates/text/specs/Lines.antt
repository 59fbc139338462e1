-- docs/RULES.md, "Texts": the lines of a text. Assumes nothing.
use Rattle.std.specs.Prelude.{Bool, true, false, List, [], ◌∷◌, ℕ, ◌+◌, ◌-◌, eqb, ltb, get_or, length}
use Rattle.refusal.specs.Pick.{pick, both}
use Rattle.text.specs.Find.{begins, index_of}

-- x stands before the first of the lines
unfoldable pub onto : ℕ → List (List ℕ) → List (List ℕ)
onto x [] = (x ∷ []) ∷ []
onto x (l ∷ ls) = (x ∷ l) ∷ ls

-- a byte before the lines ls: LF begins a new line, a CR just before LF goes, any other byte is the line's
unfoldable pub before : Bool → Bool → ℕ → List (List ℕ) → List (List ℕ)
before true cr x ls = [] ∷ ls
before false true x ls = ls
before false false x ls = onto x ls

-- the lines of s: a line ends at LF, a CR just before it dropped; a last empty line does not count
unfoldable pub lines : List ℕ → List (List ℕ)
lines [] = []
lines (x ∷ s) = before (eqb x 10) (both (eqb x 13) (begins (10 ∷ []) s)) x (lines s)

-- ---- for the code: the line at the front of s, by its first LF.
-- `lines_next` of proofs/LineLaws.antt says that it is the first of `lines s`
-- the end of a line whose LF is at n, with a CR to drop or none
abbrev pub end_by : Bool → ℕ → ℕ
end_by true n = n - 1
end_by false n = n

-- there is an LF, and a CR just before it
unfoldable pub cr_before : List ℕ → ℕ → Bool
cr_before s n = both (ltb n (length s)) (both (ltb 0 n) (eqb (get_or s (n - 1) 0) 13))

-- the line's length
unfoldable pub line_len : List ℕ → ℕ
line_len s = end_by (cr_before s (index_of 10 s)) (index_of 10 s)

-- its length with what ends it
unfoldable pub line_step : List ℕ → ℕ
line_step s = pick (ltb (index_of 10 s) (length s)) (index_of 10 s + 1) (index_of 10 s)
