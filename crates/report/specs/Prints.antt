-- docs/RULES.md, "Programs": a text that is put at the start of a lent buffer, for a program to print. Assumes nothing.
use Rattle.std.specs.Prelude.{◌≡◌, List, [], ◌++◌, ℕ, ltb, length, drop}
use Rattle.refusal.specs.Pick.{pick}

-- the promise: w is printed. r is how many bytes, and the buffer was d and is x
pub record Prints (w d : List ℕ) (r : ℕ) (x : List ℕ) : Type 0 where
  pub count-is : r ≡ length w
  pub output-is : x ≡ w ++ drop (length w) d

-- nothing where there is no room for all of it
unfoldable pub whole_in : ℕ → List ℕ → List ℕ
whole_in room w = pick (ltb room (length w)) [] w
