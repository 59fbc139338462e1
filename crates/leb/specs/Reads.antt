-- docs/RULES.md, "Numbers and names": what each read finds in s at an offset: a value and the offset after it, or a refusal at an offset
-- of s. Who hands in a part of a longer file tells it from there (`relocated`). Assumes nothing.
use Rattle.std.specs.Prelude.{ℕ, ◌+◌, ◌-◌, ◌*◌, ◌^◌, List, length, get_or, take, drop, ltb, leb, eqb, ℤ}
use Rattle.refusal.specs.Pick.{pick}
use Rattle.refusal.specs.Said.{Said, accepted, refused, Got, got, onward, offset, kind_at}
use Rattle.refusal.specs.declared.Part.{Part}
use Rattle.text.specs.Utf8.{up_to}
use Rattle.leb.specs.Groups.{Out, value, ends, overlong, oversize, u_n, s_n}

abbrev pub part : ℕ → ℕ → Part
part a n = record { from = a; len = n }

-- the bytes of a range
abbrev pub part_bytes : List ℕ → Part → List ℕ
part_bytes s p = take p.len (drop p.from s)

unfoldable pub byte_at : List ℕ → ℕ → Said (Got ℕ)
byte_at s at = pick (ltb at (length s)) (accepted (got (get_or s at 0) (at + 1))) (refused 1 (offset at))

-- four bytes, lowest first
unfoldable pub fixed_at : List ℕ → ℕ → Said (Got ℕ)
fixed_at s at =
    pick (leb (at + 4) (length s))
    (accepted (got (get_or s at 0 + 2 ^ 8 * get_or s (at + 1) 0 + 2 ^ 16 * get_or s (at + 2) 0 + 2 ^ 24 * get_or s (at + 3) 0) (at + 4)))
    (refused 1 (offset at))

-- n bytes. A cursor past the end is told first, then a sum past the address range
unfoldable pub taken_at : List ℕ → ℕ → ℕ → Said (Got Part)
taken_at s at n =
    pick (ltb (length s) at) (refused 1 (offset at))
    (pick (ltb (18446744073709551615 - at) n) (refused 5 (kind_at at at))
    (pick (leb (at + n) (length s)) (accepted (got (part at n) (at + n))) (refused 1 (offset at))))

unfoldable pub skip_at : List ℕ → ℕ → ℕ → Said (Got (Unit {0}))
skip_at s at n = onward (taken_at s at n) (λ p next. accepted (got tt next))

-- a number at `at`: bytes that end are told where they end, a number that is too long or whose tenth byte is too large where it starts
unfoldable pub told_at : {X : Type 0} → ℕ → Out X → Said (Got X)
told_at at (value v k) = accepted (got v (at + k))
told_at at (ends k) = refused 1 (offset (at + k))
told_at at overlong = refused 17 (offset at)
told_at at oversize = refused 18 (offset at)

unfoldable pub uleb_at : List ℕ → ℕ → Said (Got ℕ)
uleb_at s at = told_at at (u_n 64 (drop at s))

unfoldable pub sleb_at : List ℕ → ℕ → Said (Got ℤ)
sleb_at s at = told_at at (s_n 64 (drop at s))

-- a number that is too big for a u32 is told where it ends
unfoldable pub narrowed : ℕ → ℕ → Said (Got ℕ)
narrowed v next = pick (leb v 4294967295) (accepted (got v next)) (refused 19 (offset next))

unfoldable pub u32_at : List ℕ → ℕ → Said (Got ℕ)
u32_at s at = onward (uleb_at s at) narrowed

-- a u32 length, then so many bytes
unfoldable pub counted_at : List ℕ → ℕ → Said (Got Part)
counted_at s at = onward (u32_at s at) (λ n next. taken_at s next n)

-- a range of well-formed UTF-8; one that is not is told where it begins
unfoldable pub checked : List ℕ → Part → ℕ → Said (Got Part)
checked s p next = pick (eqb (up_to (part_bytes s p)) p.len) (accepted (got p next)) (refused 4 (offset p.from))

unfoldable pub name_at : List ℕ → ℕ → Said (Got Part)
name_at s at = onward (counted_at s at) (checked s)
