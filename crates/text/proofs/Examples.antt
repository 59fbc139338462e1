-- Worked examples as one claim, computed. Assumes nothing.
use mathlib.Core.Path.{◌≡◌, refl}
use mathlib.Core.List.{[], ◌∷◌}
use lib.ListN.{replicate}
use Rattle.text.specs.Scan.{scan}
use Rattle.text.specs.Utf8.{up_to, seq_len, after, covers, followers, follow_in}
use Rattle.text.specs.Find.{seek, begins, index_of2}
use Rattle.text.specs.Trim.{trim_start, trim_end, start_len, end_len, trimmed}
use Rattle.text.specs.Chars.{chars, chars_from, code_of, code_by, more_by, more}
use Rattle.text.specs.White.{is_white}
use Rattle.text.specs.Ranges.{in_some}
use Rattle.text.specs.Lines.{lines, before, onto}
use Rattle.text.specs.Order.{cmp_bytes}
use Rattle.std.specs.declared.cmp.Ordering.TheVariants.{Less}

abbrev pub Utf8s : Type 0
Utf8s =
    (up_to (0xC3 ∷ 0xA9 ∷ 0xE2 ∷ 0x82 ∷ 0xAC ∷ 0xF0 ∷ 0x9F ∷ 0x98 ∷ 0x80 ∷ []) ≡ 9)
    × (up_to (0x61 ∷ 0xE2 ∷ 0x82 ∷ []) ≡ 1)
    × (up_to (0x61 ∷ 0xC0 ∷ 0x80 ∷ []) ≡ 1)
    × (up_to (0xED ∷ 0xA0 ∷ 0x80 ∷ []) ≡ 0)
    × (up_to (0xF4 ∷ 0x90 ∷ 0x80 ∷ 0x80 ∷ []) ≡ 0)
    × (up_to (replicate 4096 0x61) ≡ 4096)

pub utf8s : Utf8s
unfolding up_to scan seq_len after covers followers follow_in
utf8s = (refl, refl, refl, refl, refl, refl)

-- U+3000 a U+0085 tab; White_Space alone
abbrev pub Trims : Type 0
Trims =
    (trim_start (0xE3 ∷ 0x80 ∷ 0x80 ∷ 0x61 ∷ 0xC2 ∷ 0x85 ∷ 0x09 ∷ []) ≡ 3)
    × (trim_end (0xE3 ∷ 0x80 ∷ 0x80 ∷ 0x61 ∷ 0xC2 ∷ 0x85 ∷ 0x09 ∷ []) ≡ 4)
    × (trimmed (0xE3 ∷ 0x80 ∷ 0x80 ∷ 0x61 ∷ 0xC2 ∷ 0x85 ∷ 0x09 ∷ []) ≡ record { from = 3; len = 1 })
    × (trimmed (0x20 ∷ 0xC2 ∷ 0xA0 ∷ 0x0A ∷ []) ≡ record { from = 4; len = 0 })

pub trims : Trims
unfolding trimmed trim_start trim_end start_len end_len chars chars_from is_white in_some code_of
    code_by more more_by seq_len after covers followers follow_in
trims = (refl, refl, refl, refl)

-- lines; order; the first "//"
abbrev pub Texts : Type 0
Texts =
    (lines (97 ∷ 13 ∷ 10 ∷ 10 ∷ 98 ∷ 13 ∷ []) ≡ (97 ∷ []) ∷ [] ∷ (98 ∷ 13 ∷ []) ∷ [])
    × (lines (97 ∷ 10 ∷ []) ≡ (97 ∷ []) ∷ [])
    × (cmp_bytes (97 ∷ 98 ∷ []) (97 ∷ 98 ∷ 0 ∷ []) ≡ Less)
    × (index_of2 47 47 (97 ∷ 47 ∷ 98 ∷ 47 ∷ 47 ∷ []) ≡ 3)

pub texts : Texts
unfolding lines before onto cmp_bytes index_of2 seek begins
texts = (refl, refl, refl, refl)
