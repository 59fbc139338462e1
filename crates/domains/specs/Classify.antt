-- docs/RULES.md, "Domains and verdicts": the domain that an import or an interface path belongs to. Assumes nothing.
use Rattle.std.specs.Prelude.{Bool, List, [], ◌∷◌, ℕ, take, drop}
use Rattle.refusal.specs.Pick.{pick}
use Rattle.text.specs.Find.{begins, same, index_of}

-- a name begins with a word, or is it
pub data Test : Type 0 where
  front : List ℕ → Test
  exact : List ℕ → Test

unfoldable pub passes : Test → List ℕ → Bool
passes (front w) s = begins w s
passes (exact w) s = same w s

-- a test, and the number of the domain of a name that passes it
pub data Clue : Type 0 where
  entry : Test → ℕ → Clue

-- the domain of the first entry that a name passes, 6 (unknown) where there is none
unfoldable pub classed_by : List Clue → List ℕ → ℕ
classed_by [] s = 6
classed_by (entry t d ∷ es) s = pick (passes t s) d (classed_by es s)

-- ---- fields of preview 1: fd_, path_, environ_, args_, clock_, sock_, random_get
unfoldable pub preview : List Clue
preview =
    entry (front (102 ∷ 100 ∷ 95 ∷ [])) 0
    ∷ entry (front (112 ∷ 97 ∷ 116 ∷ 104 ∷ 95 ∷ [])) 0
    ∷ entry (front (101 ∷ 110 ∷ 118 ∷ 105 ∷ 114 ∷ 111 ∷ 110 ∷ 95 ∷ [])) 1
    ∷ entry (front (97 ∷ 114 ∷ 103 ∷ 115 ∷ 95 ∷ [])) 1
    ∷ entry (front (99 ∷ 108 ∷ 111 ∷ 99 ∷ 107 ∷ 95 ∷ [])) 2
    ∷ entry (front (115 ∷ 111 ∷ 99 ∷ 107 ∷ 95 ∷ [])) 3
    ∷ entry (exact (114 ∷ 97 ∷ 110 ∷ 100 ∷ 111 ∷ 109 ∷ 95 ∷ 103 ∷ 101 ∷ 116 ∷ [])) 4
    ∷ []

-- ---- the first part of a path: filesystem, cli, clocks, sockets, random, io
unfoldable pub heads : List Clue
heads =
    entry (exact (102 ∷ 105 ∷ 108 ∷ 101 ∷ 115 ∷ 121 ∷ 115 ∷ 116 ∷ 101 ∷ 109 ∷ [])) 0
    ∷ entry (exact (99 ∷ 108 ∷ 105 ∷ [])) 1
    ∷ entry (exact (99 ∷ 108 ∷ 111 ∷ 99 ∷ 107 ∷ 115 ∷ [])) 2
    ∷ entry (exact (115 ∷ 111 ∷ 99 ∷ 107 ∷ 101 ∷ 116 ∷ 115 ∷ [])) 3
    ∷ entry (exact (114 ∷ 97 ∷ 110 ∷ 100 ∷ 111 ∷ 109 ∷ [])) 4
    ∷ entry (exact (105 ∷ 111 ∷ [])) 5
    ∷ []

-- `wasi:`, `wasi_snapshot_preview1`, `wasi_unstable`
abbrev pub wasi : List ℕ
wasi = 119 ∷ 97 ∷ 115 ∷ 105 ∷ 58 ∷ []

abbrev pub preview1 : List ℕ
preview1 =
    119 ∷ 97 ∷ 115 ∷ 105 ∷ 95 ∷ 115 ∷ 110 ∷ 97 ∷ 112 ∷ 115 ∷ 104 ∷ 111 ∷ 116 ∷ 95
    ∷ 112 ∷ 114 ∷ 101 ∷ 118 ∷ 105 ∷ 101 ∷ 119 ∷ 49 ∷ []

abbrev pub unstable : List ℕ
unstable = 119 ∷ 97 ∷ 115 ∷ 105 ∷ 95 ∷ 117 ∷ 110 ∷ 115 ∷ 116 ∷ 97 ∷ 98 ∷ 108 ∷ 101 ∷ []

-- s up to its first b
abbrev pub up_to_byte : ℕ → List ℕ → List ℕ
up_to_byte b s = take (index_of b s) s

-- up to `/` or `@`
unfoldable pub head_of : List ℕ → List ℕ
head_of s = up_to_byte 64 (up_to_byte 47 s)

-- of a path: one leading `wasi:` is dropped, and what stands up to `/` or `@` decides
unfoldable pub path_domain : List ℕ → ℕ
path_domain s = classed_by heads (head_of (pick (begins wasi s) (drop 5 s) s))

-- of a function import, by its module name and its field
unfoldable pub import_domain : List ℕ → List ℕ → ℕ
import_domain m f =
    pick (begins preview1 m) (classed_by preview f)
    (pick (same unstable m) (classed_by preview f)
    (pick (begins wasi m) (path_domain m)
    6))
