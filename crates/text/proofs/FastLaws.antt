-- ASCII bytes are sequences. Assumes nothing.
use Rattle.std.specs.Prelude.{Option, Some, None}
use mathlib.Core.Path.{◌≡◌, sym, ◌∙◌, refl}
use mathlib.Core.List.{List}
use Prim.Native.Nat.{ℕ, suc, ◌+◌, ◌≤◌, ◌<◌}
use native.Mathlib.Omega.{arith}
use native.Mathlib.Nat.{suc-add, zero-add}
use lib.Bits.{bit_or}
use lib.ListN.{length, get_or, drop}
use Rattle.bits.proofs.Masks.{below_two, below-three, below-four}
use Rattle.text.specs.Scan.{scan}
use Rattle.text.specs.Utf8.{seq_len}
use Rattle.text.specs.Steps.{Went, Ran, step_at, Jumped}
use Rattle.text.proofs.Laws.{scan-next, left-next}
use Rattle.text.proofs.Utf8Laws.{seq-ascii, went, stuck}

-- one ASCII byte passed
ascii-pass : (s : List ℕ) (i j : ℕ) → i < length s → get_or s i 0 < 0x80 → j ≡ i + 1
    → scan seq_len 0 (drop i s) ≡ suc (scan seq_len 0 (drop j s))
ascii-pass s i j h k e =
    let one : seq_len (drop i s) ≡ 1 = rw (left-next s i h) (seq-ascii (get_or s i 0) (drop (i + 1) s) k) in
    rw e (scan-next seq_len s i 0 one (omega arith) ∙ suc-add 0 _ ∙ rw zero-add)

-- ---- ASCII bytes, one after another
pub ran-none : (s : List ℕ) (at : ℕ) → at ≤ length s → Ran s at at
ran-none s at h = record { past = omega arith; inside = h; same = refl }

pub ran-join : (s : List ℕ) (at i n : ℕ) → Ran s at i → Ran s i n → Ran s at n
ran-join s at i n f g = record { past = omega (arith, f, g); inside = g.inside; same = f.same ∙ g.same }

-- of bytes that are ASCII together the last is
pub ran-next : (s : List ℕ) (at i all : ℕ) → at + i < length s → (all < 0x80 → Ran s at (at + i))
    → bit_or all (get_or s (at + i) 0) < 0x80 → Ran s at (at + (i + 1))
ran-next s at i all h f k =
    let x = below_two k in
    let r = f x.0 in
    let p = ascii-pass s (at + i) (at + (i + 1)) h x.1 (omega arith) in
    record { past = omega arith; inside = omega arith; same = r.same ∙ omega (arith, p) }

-- ---- eight bytes that are ASCII, seven of them together, are each a sequence
pub jump-eight : (s : List ℕ) (at : ℕ) → at + 8 ≤ length s → get_or s at 0 < 0x80
    → bit_or
    (bit_or (bit_or (get_or s (at + 1) 0) (get_or s (at + 2) 0)) (get_or s (at + 3) 0))
    (bit_or (bit_or (bit_or (get_or s (at + 4) 0) (get_or s (at + 5) 0)) (get_or s (at + 6) 0)) (get_or s (at + 7) 0))
    < 0x80
    → Went s at (at + 8)
jump-eight s at b f h =
    let x = below_two h in
    let y = below-three x.0 in
    let z = below-four x.1 in
    let p₀ = ascii-pass s at (at + 1) (omega arith) f refl in
    let p₁ = ascii-pass s (at + 1) (at + 2) (omega arith) y.0 (omega arith) in
    let p₂ = ascii-pass s (at + 2) (at + 3) (omega arith) y.1 (omega arith) in
    let p₃ = ascii-pass s (at + 3) (at + 4) (omega arith) y.2 (omega arith) in
    let p₄ = ascii-pass s (at + 4) (at + 5) (omega arith) z.0 (omega arith) in
    let p₅ = ascii-pass s (at + 5) (at + 6) (omega arith) z.1 (omega arith) in
    let p₆ = ascii-pass s (at + 6) (at + 7) (omega arith) z.2 (omega arith) in
    let p₇ = ascii-pass s (at + 7) (at + 8) (omega arith) z.3 (omega arith) in
    record { more = omega arith; inside = omega arith; same = omega arith }

-- and more that follow
pub jump-on : (s : List ℕ) (at i n : ℕ) → Went s at i → Ran s i n → Went s at n
jump-on s at i n f g = record { more = omega (arith, f, g); inside = g.inside; same = f.same ∙ g.same }

-- one ASCII byte
pub jump-one : (s : List ℕ) (at : ℕ) → at < length s → get_or s at 0 < 0x80 → Went s at (at + 1)
jump-one s at h f =
    let p = ascii-pass s at (at + 1) h f refl in
    record { more = omega arith; inside = omega arith; same = omega arith }

-- one sequence, or none
pub jump-step : (s : List ℕ) (at : ℕ) (r : Option ℕ) → at < length s → r ≡ step_at s at → Jumped s at r
jump-step s at (Some n) h e = went s at n h (sym e)
jump-step s at None h e = stuck s at (sym e)
