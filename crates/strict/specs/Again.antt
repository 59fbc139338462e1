-- docs/RULES.md, "Strict reading", rules 2, 5 and 8: a second walk over what the plain reader decodes, a definition beside each of
-- its own (`wasm`, specs/Entry to Module), with what holds so far. It follows an accepted plain read, so that none of its own refusals is
-- ever told and no place of them is moved (proofs/Seeing). Assumes nothing.
use Rattle.std.specs.Prelude.{ℕ, zero, suc, ◌-◌, ◌%◌, true, false, List, length, leb, eqb}
use Rattle.refusal.specs.Pick.{pick}
use Rattle.refusal.specs.Said.{Said, accepted, refused, Got, got, onward, kind_at}
use Rattle.text.specs.Find.{same}
use Rattle.table.specs.Walking.{walk_from}
use Rattle.leb.specs.Reads.{part_bytes, byte_at, u32_at, counted_at}
use Rattle.wasm.specs.Custom.{name_word}
use Rattle.strict.specs.declared.again.Marks.{Marks}
use Rattle.strict.specs.declared.again.Frame.{Frame}

-- nothing is broken yet
unfoldable pub fresh : Marks
fresh = record { short = true; used = true; plain = true }

-- rule 2: a number took k bytes
unfoldable pub with_number : Marks → ℕ → Marks
with_number m k = record { short = pick (leb k 5) m.short false; used = m.used; plain = m.plain }

-- rule 5: the entries of a section ended at an offset of its n bytes
unfoldable pub with_entries : Marks → ℕ → ℕ → Marks
with_entries m at n = record { short = m.short; used = pick (eqb at n) m.used false; plain = m.plain }

-- rule 8: a limits flag, or a mutability
unfoldable pub with_flag : Marks → ℕ → Marks
with_flag m byte = record { short = m.short; used = m.used; plain = pick (leb byte 1) m.plain false }

-- a number
unfoldable pub number_marks : List ℕ → ℕ → Marks → Said (Got Marks)
number_marks s at m = onward (u32_at s at) (λ v next. accepted (got (with_number m (next - at)) next))

-- a size or a name: a length, and so many bytes
unfoldable pub part_marks : List ℕ → ℕ → Marks → Said (Got Marks)
part_marks s at m = onward (counted_at s at) (λ p next. accepted (got (with_number m (p.from - at)) next))

-- ---- entries
unfoldable pub limits_marks : List ℕ → ℕ → Marks → Said (Got Marks)
limits_marks s at m =
    onward (byte_at s at) (λ flag a.
    onward (number_marks s a (with_flag m flag)) (λ k b.
    pick (eqb (flag % 2) 1) (number_marks s b k) (accepted (got k b))))

unfoldable pub table_marks : List ℕ → ℕ → Marks → Said (Got Marks)
table_marks s at m = onward (byte_at s at) (λ element a. limits_marks s a m)

unfoldable pub global_marks : List ℕ → ℕ → Marks → Said (Got Marks)
global_marks s at m = onward (byte_at s at) (λ type a. onward (byte_at s a) (λ mutable b. accepted (got (with_flag m mutable) b)))

unfoldable pub desc_marks : List ℕ → ℕ → ℕ → Marks → Said (Got Marks)
desc_marks s kind at m =
    pick (eqb kind 0) (number_marks s at m)
    (pick (eqb kind 1) (table_marks s at m)
    (pick (eqb kind 2) (limits_marks s at m)
    (pick (eqb kind 3) (global_marks s at m)
    (refused 5 (kind_at kind at)))))

unfoldable pub import_marks : List ℕ → ℕ → Marks → Said (Got Marks)
import_marks s at m =
    onward (part_marks s at m) (λ k a.
    onward (part_marks s a k) (λ l b.
    onward (byte_at s b) (λ kind d. desc_marks s kind d l)))

unfoldable pub export_marks : List ℕ → ℕ → Marks → Said (Got Marks)
export_marks s at m =
    onward (part_marks s at m) (λ k a.
    onward (byte_at s a) (λ kind b. number_marks s b k))

unfoldable pub symbol_marks : List ℕ → ℕ → Marks → Said (Got Marks)
symbol_marks s at m = onward (number_marks s at m) (λ k a. part_marks s a k)

-- an entry of section 2 or 7, or of the function names
unfoldable pub entry_marks : ℕ → List ℕ → ℕ → Marks → Said (Got Marks)
entry_marks which s at m =
    pick (eqb which 2) (import_marks s at m)
    (pick (eqb which 7) (export_marks s at m)
    (symbol_marks s at m))

-- ---- runs of entries
-- n entries more
unfoldable pub run_from : (ℕ → Marks → Said (Got Marks)) → ℕ → ℕ → Marks → Said (Got Marks)
run_from read zero at m = accepted (got m at)
run_from read (suc n) at m = onward (read at m) (λ k next. run_from read n next k)

-- a count, then so many entries
unfoldable pub run_marks : ℕ → List ℕ → Marks → Said (Got Marks)
run_marks which s m = onward (u32_at s 0) (λ count at. run_from (entry_marks which s) count at (with_number m at))

-- ---- custom sections
-- what a subsection tells, by its id
unfoldable pub told_marks : ℕ → List ℕ → Marks → Said (Got Marks)
told_marks id s m =
    pick (eqb id 0) (part_marks s 0 m)
    (pick (eqb id 1) (run_marks 1 s m)
    (accepted (got m 0)))

-- a subsection, or a section: an id, a size, and its bytes, whole, which `inside` looks into
unfoldable pub framed_marks : (ℕ → List ℕ → Marks → Said (Got Marks)) → List ℕ → ℕ → Marks → Said (Got Marks)
framed_marks inside s at m =
    onward (byte_at s at) (λ id a.
    onward (counted_at s a) (λ p next.
    onward (inside id (part_bytes s p) (with_number m (p.from - a))) (λ k e. accepted (got k next))))

unfoldable pub subsection_marks : List ℕ → ℕ → Marks → Said (Got Marks)
subsection_marks s at m = framed_marks told_marks s at m

unfoldable pub custom_marks : List ℕ → Marks → Said (Got Marks)
custom_marks s m =
    onward (counted_at s 0) (λ p at.
    pick (same name_word (part_bytes s p)) (walk_from (subsection_marks s) s at (with_number m p.from))
    (accepted (got (with_number m p.from) at)))

-- ---- sections
-- the entries of section 2 or 7, which must end where the section does
unfoldable pub list_marks : ℕ → List ℕ → Marks → Said (Got Marks)
list_marks id s m = onward (run_marks id s m) (λ k e. accepted (got (with_entries k e (length s)) e))

-- those that the plain reader does not look into are not looked into here
unfoldable pub contents_marks : ℕ → List ℕ → Marks → Said (Got Marks)
contents_marks id s m =
    pick (eqb id 0) (custom_marks s m)
    (pick (eqb id 2) (list_marks 2 s m)
    (pick (eqb id 7) (list_marks 7 s m)
    (accepted (got m 0))))

unfoldable pub section_marks : List ℕ → ℕ → Marks → Said (Got Marks)
section_marks b at m = framed_marks contents_marks b at m

-- the file, from the end of the header on
unfoldable pub marks_at : List ℕ → Said (Got Marks)
marks_at b = walk_from (section_marks b) b 8 fresh

-- ---- for the code
-- an id, a size and so many bytes, and what holds after the size
unfoldable pub frame_at : List ℕ → ℕ → Marks → Said (Got Frame)
frame_at s at m =
    onward (byte_at s at) (λ id a.
    onward (counted_at s a) (λ p next. accepted (got (record { id = id; bytes = p; marks = with_number m (p.from - a) }) next)))
