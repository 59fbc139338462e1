-- For the code of utf8: the steps in which it goes over a text. Nothing here is the Unicode Standard's. Assumes nothing.
use Rattle.std.specs.Prelude.{◌≡◌, List, ℕ, zero, suc, ◌+◌, ◌≤◌, ◌<◌, length, drop, Option, Some, None}
use Rattle.text.specs.Scan.{scan}
use Rattle.text.specs.Utf8.{seq_len}

-- the step at `at`: past the sequence there, or none
unfoldable pub sequence_of : ℕ → ℕ → Option ℕ
sequence_of at zero = None
sequence_of at (suc k) = Some (at + suc k)

unfoldable pub step_at : List ℕ → ℕ → Option ℕ
step_at s at = sequence_of at (seq_len (drop at s))

-- n is within s, and what is left at `at` is as long well formed as if n had been reached
pub record Went (s : List ℕ) (at n : ℕ) : Type 0 where
  pub more : at < n
  pub inside : n ≤ length s
  pub same : at + scan seq_len 0 (drop at s) ≡ n + scan seq_len 0 (drop n s)

-- the same where n may be `at` itself
pub record Ran (s : List ℕ) (at n : ℕ) : Type 0 where
  pub past : at ≤ n
  pub inside : n ≤ length s
  pub same : at + scan seq_len 0 (drop at s) ≡ n + scan seq_len 0 (drop n s)

-- one or more sequences from `at`, or an ill-formed one
abbrev pub Jumped : List ℕ → ℕ → Option ℕ → Type 0
Jumped s at (Some n) = Went s at n
Jumped s at None = scan seq_len 0 (drop at s) ≡ 0
