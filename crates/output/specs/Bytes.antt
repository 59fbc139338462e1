-- docs/RULES.md, "Policy writer" and "Differences": bytes written into a lent buffer one after the other, or only counted. Assumes nothing.
use Rattle.std.specs.Prelude.{Bool, true, false, ◌≡◌, List, ◌++◌, ℕ, ◌+◌, ◌≤◌, min, leb, ltb, length, take, drop, Result}
use Rattle.refusal.specs.declared.Refusal.{Refusal}
use Rattle.refusal.specs.Pick.{pick, both}
use Rattle.refusal.specs.Said.{Said, accepted, refused, said_by, spot}

-- the last number that a place can be
abbrev pub most : ℕ
most = 18446744073709551615

-- the place after n bytes from `at` on
unfoldable pub place_after : ℕ → ℕ → ℕ
place_after at n = min (at + n) most

-- d with w from `at` on
abbrev pub overlaid : List ℕ → ℕ → List ℕ → List ℕ
overlaid d at w = take at d ++ w ++ drop (at + length w) d

-- d after w was put at `at`: with `go`, and where w fits, w is there; else d is as it was
unfoldable pub put_at : List ℕ → ℕ → Bool → List ℕ → List ℕ
put_at d at go w = pick (both go (leb (at + length w) (length d))) (overlaid d at w) d

-- one call: the buffer was d and is x, and r is the place after w
pub record Puts (d : List ℕ) (at : ℕ) (go : Bool) (w : List ℕ) (r : ℕ) (x : List ℕ) : Type 0 where
  pub next-is : r ≡ place_after at (length w)
  pub output-is : x ≡ put_at d at go w

-- calls in a row, which together were to write w: without `go` nothing is written, with it w is, if it fits
pub record Wrote (d : List ℕ) (at : ℕ) (go : Bool) (w : List ℕ) (r : ℕ) (x : List ℕ) : Type 0 where
  pub next : r ≡ place_after at (length w)
  pub long : length x ≡ length d
  pub kept : go ≡ false → x ≡ d
  pub left : go ≡ true → at + length w ≤ length d → at + length w ≤ most → x ≡ overlaid d at w

-- ---- what is written into so much room: 16, with the bytes needed, or these bytes
unfoldable pub room_for : List ℕ → ℕ → Said (List ℕ)
room_for w room = pick (ltb room (length w)) (refused 16 (spot (length w))) (accepted w)

-- the answer: how many bytes
abbrev pub written_count : Said (List ℕ) → Said ℕ
written_count (accepted w) = accepted (length w)
written_count (refused n p) = refused n p

-- the buffer d after it: the bytes, and what stood past them; all of it after a refusal
abbrev pub left : List ℕ → Said (List ℕ) → List ℕ
left d (accepted w) = w ++ drop (length w) d
left d (refused n p) = d

-- ---- the promise: the answer, and the buffer, which was d and is x
pub record WriterTells (o : Said (List ℕ)) (d : List ℕ) (r : Result ℕ Refusal) (x : List ℕ) : Type 0 where
  pub answer : said_by r ≡ written_count o
  pub output : x ≡ left d o

-- for the code: of bytes that are known
abbrev pub Formed : List ℕ → List ℕ → Result ℕ Refusal → List ℕ → Type 0
Formed w d r x = WriterTells (room_for w (length d)) d r x

-- ---- the same after the first `at` bytes of the buffer, which stay: 16, with the bytes needed for both
unfoldable pub room_from : ℕ → List ℕ → ℕ → Said (List ℕ)
room_from at w room = pick (ltb room (at + length w)) (refused 16 (spot (at + length w))) (accepted w)

-- the answer: the place after the bytes
abbrev pub written_count_from : ℕ → Said (List ℕ) → Said ℕ
written_count_from at (accepted w) = accepted (at + length w)
written_count_from at (refused n p) = refused n p

abbrev pub left_from : ℕ → List ℕ → Said (List ℕ) → List ℕ
left_from at d (accepted w) = overlaid d at w
left_from at d (refused n p) = d

pub record WriterTellsFrom (at : ℕ) (o : Said (List ℕ)) (d : List ℕ) (r : Result ℕ Refusal) (x : List ℕ) : Type 0 where
  pub answer : said_by r ≡ written_count_from at o
  pub output : x ≡ left_from at d o

abbrev pub FormedFrom : ℕ → List ℕ → List ℕ → Result ℕ Refusal → List ℕ → Type 0
FormedFrom at w d r x = WriterTellsFrom at (room_from at w (length d)) d r x
