-- docs/RULES.md, "Kinds and sections": kinds by their byte, their words, and the words of section ids. Assumes nothing.
use Rattle.std.specs.Prelude.{ℕ, ◌+◌, ◌-◌, ◌/◌, ◌%◌, List, [], ◌∷◌, eqb, ltb, get_or}
use Rattle.refusal.specs.Pick.{pick}
use Rattle.kinds.specs.declared.ExternalKind.{ExternalKind}
use Rattle.kinds.specs.declared.ExternalKind.TheVariants.{Func, Table, Memory, Global, Other}

unfoldable pub kind_of : ℕ → ExternalKind
kind_of b = pick (eqb b 0) Func (pick (eqb b 1) Table (pick (eqb b 2) Memory (pick (eqb b 3) Global (Other b))))

abbrev pub kind_byte : ExternalKind → ℕ
kind_byte Func = 0
kind_byte Table = 1
kind_byte Memory = 2
kind_byte Global = 3
kind_byte (Other b) = b

-- 0 to 9, a to f
abbrev pub hex_of : ℕ → ℕ
hex_of n = pick (ltb n 10) (48 + n) (97 + (n - 10))

-- the two digits of a byte
abbrev pub hex_byte : ℕ → List ℕ
hex_byte b = hex_of (b / 16) ∷ hex_of (b % 16) ∷ []

-- func, table, memory, global; others are `other:0x` and two digits
abbrev pub kind_word : ExternalKind → List ℕ
kind_word Func = 102 ∷ 117 ∷ 110 ∷ 99 ∷ []
kind_word Table = 116 ∷ 97 ∷ 98 ∷ 108 ∷ 101 ∷ []
kind_word Memory = 109 ∷ 101 ∷ 109 ∷ 111 ∷ 114 ∷ 121 ∷ []
kind_word Global = 103 ∷ 108 ∷ 111 ∷ 98 ∷ 97 ∷ 108 ∷ []
kind_word (Other b) = 111 ∷ 116 ∷ 104 ∷ 101 ∷ 114 ∷ 58 ∷ 48 ∷ 120 ∷ hex_of (b / 16) ∷ hex_of (b % 16) ∷ []

-- custom, type, import, function, table, memory, global,
-- export, start, element, code, data, data-count, tag
unfoldable pub section_words : List (List ℕ)
section_words =
    (99 ∷ 117 ∷ 115 ∷ 116 ∷ 111 ∷ 109 ∷ [])
    ∷ (116 ∷ 121 ∷ 112 ∷ 101 ∷ [])
    ∷ (105 ∷ 109 ∷ 112 ∷ 111 ∷ 114 ∷ 116 ∷ [])
    ∷ (102 ∷ 117 ∷ 110 ∷ 99 ∷ 116 ∷ 105 ∷ 111 ∷ 110 ∷ [])
    ∷ (116 ∷ 97 ∷ 98 ∷ 108 ∷ 101 ∷ [])
    ∷ (109 ∷ 101 ∷ 109 ∷ 111 ∷ 114 ∷ 121 ∷ [])
    ∷ (103 ∷ 108 ∷ 111 ∷ 98 ∷ 97 ∷ 108 ∷ [])
    ∷ (101 ∷ 120 ∷ 112 ∷ 111 ∷ 114 ∷ 116 ∷ [])
    ∷ (115 ∷ 116 ∷ 97 ∷ 114 ∷ 116 ∷ [])
    ∷ (101 ∷ 108 ∷ 101 ∷ 109 ∷ 101 ∷ 110 ∷ 116 ∷ [])
    ∷ (99 ∷ 111 ∷ 100 ∷ 101 ∷ [])
    ∷ (100 ∷ 97 ∷ 116 ∷ 97 ∷ [])
    ∷ (100 ∷ 97 ∷ 116 ∷ 97 ∷ 45 ∷ 99 ∷ 111 ∷ 117 ∷ 110 ∷ 116 ∷ [])
    ∷ (116 ∷ 97 ∷ 103 ∷ [])
    ∷ []

-- the word of an id; of any other, `unknown`
unfoldable pub section_word : ℕ → List ℕ
section_word id = get_or section_words id (117 ∷ 110 ∷ 107 ∷ 110 ∷ 111 ∷ 119 ∷ 110 ∷ [])
