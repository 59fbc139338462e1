-- The definitions at small tables: the lines' bytes, and rows that are bad. Assumes nothing.
use mathlib.Core.Path.{◌≡◌, refl}
use mathlib.Core.Bool.{true, false}
use mathlib.Core.List.{[], ◌∷◌}
use lib.ListN.{length}
use Rattle.reasons.specs.Reasons.{export_reason, need_reason, export_diff_fits, need_diff_fits}
use Rattle.reasons.specs.Reasons.{export_row}
use Rattle.table.specs.Table.{cell_of}
use Rattle.table.specs.Testing.{bad}
use Rattle.kinds.specs.Kinds.{kind_of}
use Rattle.domains.specs.Domain.{slug, slugs}

-- `export removed: x (func)`, LF
removed-line : export_reason (record { name = 120 ∷ []; kind = 0 })
    ≡ 101 ∷ 120 ∷ 112 ∷ 111 ∷ 114 ∷ 116 ∷ 32 ∷ 114 ∷ 101 ∷ 109 ∷ 111 ∷ 118 ∷ 101 ∷ 100 ∷ 58 ∷ 32
    ∷ 120 ∷ 32 ∷ 40 ∷ 102 ∷ 117 ∷ 110 ∷ 99 ∷ 41 ∷ 10 ∷ []
unfolding export_reason kind_of
removed-line = refl

-- the three lines of C20: 25, 31 and 39 bytes
func-line : length (export_reason (record { name = 120 ∷ []; kind = 0 })) ≡ 25
unfolding export_reason kind_of
func-line = refl

other-line : length (export_reason (record { name = 121 ∷ []; kind = 4 })) ≡ 31
unfolding export_reason kind_of
other-line = refl

need-line : length (need_reason 6 (109 ∷ [])) ≡ 39
unfolding need_reason slug slugs
need-line = refl

-- a change of 7 is added: no reason in table 8 (C36), and the candidate's count is what its row is held against
added_none : export_row (120 ∷ []) (0 ∷ 1 ∷ 0 ∷ 0 ∷ []) (7 ∷ 0 ∷ []) 0 ≡ []
unfolding export_row cell_of
added_none = refl

added-side : bad (export_diff_fits 0 1 (7 ∷ 0 ∷ [])) 0 ≡ false
unfolding export_diff_fits cell_of
added-side = refl

-- a removed row points into the baseline's table (C22); a domain of 7 is bad (C24)
removed-side : bad (export_diff_fits 1 9 (0 ∷ 1 ∷ [])) 0 ≡ true
unfolding export_diff_fits cell_of
removed-side = refl

domain-seven : bad (need_diff_fits 1 1 (1 ∷ 7 ∷ 0 ∷ [])) 0 ≡ true
unfolding need_diff_fits cell_of
domain-seven = refl
