-- docs/RULES.md, "The module": entries of sections, read at an offset of the bytes s, which start at `base` in the file. An entry and the
-- offset after it, or a refusal, whose offset is one of s too: sections move it. The specification's own grammar of entries stands in
-- Grammar.antt. Assumes nothing.
use Rattle.std.specs.Prelude.{ℕ, ◌+◌, ◌%◌, List, eqb, Some, None}
use Rattle.refusal.specs.Pick.{pick}
use Rattle.refusal.specs.Said.{Said, accepted, refused, Got, got, onward, kind_at}
use Rattle.refusal.specs.declared.Part.{Part}
use Rattle.leb.specs.Reads.{part, byte_at, u32_at, name_at}
use Rattle.wasm.specs.declared.entry.Limits.{Limits}
use Rattle.wasm.specs.declared.entry.Desc.{Desc}
use Rattle.wasm.specs.declared.entry.Import.{Import}
use Rattle.wasm.specs.declared.entry.Export.{Export}
use Rattle.wasm.specs.declared.entry.Symbol.{Symbol}

-- a flag byte, a u32, and a second u32 if bit 0 of the flag is set
unfoldable pub limits_at : List ℕ → ℕ → Said (Got Limits)
limits_at s at =
    onward (byte_at s at) (λ flag a.
    onward (u32_at s a) (λ least b.
    pick (eqb (flag % 2) 1)
    (onward (u32_at s b) (λ most d. accepted (got (record { flag = flag; least = least; most = Some most }) d)))
    (accepted (got (record { flag = flag; least = least; most = None }) b))))

unfoldable pub func_at : List ℕ → ℕ → Said (Got Desc)
func_at s at = onward (u32_at s at) (λ index a. accepted (got (Desc.Func index) a))

unfoldable pub table_at : List ℕ → ℕ → Said (Got Desc)
table_at s at = onward (byte_at s at) (λ element a. onward (limits_at s a) (λ l b. accepted (got (Desc.Table element l) b)))

unfoldable pub memory_at : List ℕ → ℕ → Said (Got Desc)
memory_at s at = onward (limits_at s at) (λ l a. accepted (got (Desc.Memory l) a))

unfoldable pub global_at : List ℕ → ℕ → Said (Got Desc)
global_at s at = onward (byte_at s at) (λ type a. onward (byte_at s a) (λ mutable b. accepted (got (Desc.Global type mutable) b)))

-- by the kind byte, which lies at k; any other kind is 5, its place is the byte itself, and its offset comes beside it
unfoldable pub desc_at : List ℕ → ℕ → ℕ → ℕ → Said (Got Desc)
desc_at s kind k at =
    pick (eqb kind 0) (func_at s at)
    (pick (eqb kind 1) (table_at s at)
    (pick (eqb kind 2) (memory_at s at)
    (pick (eqb kind 3) (global_at s at)
    (refused 5 (kind_at kind k)))))

-- a range of the bytes as a range of the file
abbrev pub moved : ℕ → Part → Part
moved base p = part (base + p.from) p.len

-- two names, a kind, and what the kind asks for
unfoldable pub import_at : List ℕ → ℕ → ℕ → Said (Got Import)
import_at s base at =
    onward (name_at s at) (λ m a.
    onward (name_at s a) (λ f b.
    onward (byte_at s b) (λ kind d.
    onward (desc_at s kind b d) (λ desc e.
    accepted (got (record { «module» = moved base m; field = moved base f; kind = kind; desc = desc }) e)))))

-- a name, a kind, an index
unfoldable pub export_at : List ℕ → ℕ → ℕ → Said (Got Export)
export_at s base at =
    onward (name_at s at) (λ p a.
    onward (byte_at s a) (λ kind b.
    onward (u32_at s b) (λ index d.
    accepted (got (record { name = moved base p; kind = kind; index = index }) d))))

-- a function's index and name
unfoldable pub symbol_at : List ℕ → ℕ → ℕ → Said (Got Symbol)
symbol_at s base at =
    onward (u32_at s at) (λ index a.
    onward (name_at s a) (λ p b.
    accepted (got (record { index = index; name = moved base p }) b)))
