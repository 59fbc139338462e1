-- docs/RULES.md, "Texts": a piece of a text, its bytes and where they begin; trimming, and one byte taken off the end. Assumes nothing.
use Rattle.std.specs.Prelude.{◌≡◌, List, [], ◌∷◌, ℕ, zero, suc, ◌+◌, ◌-◌, ◌≤◌, eqb, leb, length, take, drop}
use Rattle.refusal.specs.Pick.{pick, both}
use Rattle.text.specs.Trim.{trim_start, trim_end}
use Rattle.text.specs.declared.pieces.Span.{Span}

pub record Piece : Type 0 where
  pub at : ℕ
  pub bytes : List ℕ

-- its first n bytes
abbrev pub first : ℕ → Piece → Piece
first n p = record { at = p.at; bytes = take n p.bytes }

-- what follows its first n bytes
abbrev pub beyond : ℕ → Piece → Piece
beyond n p = record { at = p.at + n; bytes = drop n p.bytes }

-- without the White_Space at its start, then without that at its end
abbrev pub fore : Piece → Piece
fore p = beyond (trim_start p.bytes) p

unfoldable pub trim : Piece → Piece
trim p = first (trim_end (fore p).bytes) (fore p)

-- how many bytes stay when the bytes b at the end go
unfoldable pub shorn : ℕ → List ℕ → ℕ
shorn b [] = zero
shorn b (x ∷ s) = pick (both (eqb x b) (eqb (shorn b s) zero)) zero (suc (shorn b s))

-- ---- for the code, which knows a piece by its ends: the bytes of s from a to e
abbrev pub bytes_between : List ℕ → ℕ → ℕ → List ℕ
bytes_between s a e = take (e - a) (drop a s)

-- with their place
abbrev pub piece : List ℕ → ℕ → ℕ → Piece
piece s a e = record { at = a; bytes = bytes_between s a e }

abbrev pub span : ℕ → ℕ → Span
span from past = record { from = from; past = past }

-- the part of s from a to e, trimmed, by its ends; the empty part at the start where s has no such part
unfoldable pub trimmed_at : List ℕ → ℕ → ℕ → Span
trimmed_at s a e =
    let t = trim (piece s a e) in
    pick (both (leb a e) (leb e (length s))) (span t.at (t.at + length t.bytes)) (span 0 0)

-- the part from a to e, trimmed, is that from f to g
pub record TrimTo (s : List ℕ) (a e f g : ℕ) : Type 0 where
  pub low : a ≤ f
  pub mid : f ≤ g
  pub high : g ≤ e
  pub same : trim (piece s a e) ≡ piece s f g
