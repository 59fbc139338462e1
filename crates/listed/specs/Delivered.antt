-- docs/RULES.md, "Numbered answers": a value that is told in a struct of numbers, with bytes that go to a lent buffer, 16 last.
-- Stated once over the value, its bytes and the struct. Assumes nothing.
use Rattle.std.specs.Prelude.{ℕ, ◌+◌, ◌≡◌, List, length}
use Rattle.refusal.specs.Said.{Said, accepted, follow}
use Rattle.refusal.specs.declared.Part.{Part}
use Rattle.table.specs.Shape.{full_cells}
use Rattle.output.specs.Bytes.{room_for, written_count, left}

-- where a name stands that there is not
abbrev pub no_part : Part
no_part = record { from = 0; len = 0 }

-- x, whose value's bytes have to go into so much room: 16, with the bytes needed
unfoldable pub housed : {A : Type 0} → (A → List ℕ) → ℕ → Said A → Said A
housed bytes room x = follow x (λ v. follow (room_for (bytes v) room) (λ w. accepted v))

-- the answer is told as `told` says, and the buffer, which was d, is y: the value's bytes, and what stood past them; d after a refusal
pub record Delivers {A R : Type 0} (bytes : A → List ℕ) (told : Said A → R) (x : Said A) (d : List ℕ) (r : R) (y : List ℕ) : Type 0 where
  pub answer-is : r ≡ told (housed bytes (length d) x)
  pub output-is : y ≡ left d (follow (housed bytes (length d) x) (λ v. accepted (bytes v)))

-- for the code: no call lays out more cells than tables 1 to 4 have at their limits
abbrev pub most_cells : ℕ
most_cells = full_cells 1 + full_cells 2 + full_cells 3 + full_cells 4

-- the bytes o, or a refusal, told by their count
pub record Lays {R : Type 0} (told : Said ℕ → R) (o : Said (List ℕ)) (d : List ℕ) (r : R) (y : List ℕ) : Type 0 where
  pub answer-is : r ≡ told (written_count o)
  pub output-is : y ≡ left d o
