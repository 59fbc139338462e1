-- docs/RULES.md, "The module": custom sections, and the name section (Core Specification 2.0, appendix 7.4.1): subsection 0 names the
-- module, the last wins; 1 adds function names. Assumes nothing.
use Rattle.std.specs.Prelude.{ℕ, ◌+◌, ◌≡◌, List, [], ◌∷◌, length, eqb, Option, Some}
use Rattle.refusal.specs.Pick.{pick}
use Rattle.refusal.specs.Said.{Said, accepted, relocated, Got, got, onward}
use Rattle.refusal.specs.declared.Part.{Part}
use Rattle.text.specs.Find.{same}
use Rattle.table.specs.Table.{laid, cells}
use Rattle.table.specs.Walking.{walk_from}
use Rattle.leb.specs.Reads.{part_bytes, byte_at, name_at, counted_at}
use Rattle.wasm.specs.declared.entry.Symbol.{Symbol}
use Rattle.wasm.specs.declared.custom.Named.{Named}
use Rattle.wasm.specs.declared.custom.Custom.{Custom}
use Rattle.wasm.specs.Entry.{moved}
use Rattle.wasm.specs.Rows.{symbol_cells, symbols_of}

-- what name sections have told: the module's name and the functions'
pub record Names : Type 0 where
  pub label : Option Part
  pub symbols : List Symbol

unfoldable pub named_of : Names → Named
named_of t = record { label = t.label; count = length t.symbols }

-- a table of n cells holds the function names
unfoldable pub NamesHeld : List ℕ → ℕ → Names → Type 0
NamesHeld table n t = table ≡ laid n (cells symbol_cells t.symbols)

-- subsection 0
unfoldable pub label_at : List ℕ → ℕ → Names → Said (Got Names)
label_at s base t =
    onward (name_at s 0) (λ p e.
    accepted (got (record { label = Some (moved base p); symbols = t.symbols }) e))

-- what a subsection's bytes s, from base in the file, tell; n is the cells of the table
unfoldable pub told_by : ℕ → List ℕ → ℕ → ℕ → Names → Said (Got Names)
told_by id s base n t =
    pick (eqb id 0) (label_at s base t)
    (pick (eqb id 1) (onward (symbols_of s base n t.symbols) (λ rows e.
    accepted (got (record { label = t.label; symbols = rows }) e)))
    (accepted (got t 0)))

-- the subsection at an offset of the name section's payload: an id, a size, and its bytes, whole; what they refuse is told from where
-- the payload starts
unfoldable pub subsection_at : List ℕ → ℕ → ℕ → ℕ → Names → Said (Got Names)
subsection_at s base n at t =
    onward (byte_at s at) (λ id a.
    onward (counted_at s a) (λ p next.
    onward (relocated p.from (told_by id (part_bytes s p) (base + p.from) n t)) (λ u e. accepted (got u next))))

-- the bytes of `name`
unfoldable pub name_word : List ℕ
name_word = 110 ∷ 97 ∷ 109 ∷ 101 ∷ []

-- a custom section's own name, and what it tells
pub record CustomSaid : Type 0 where
  pub name : Part
  pub inner : Names

unfoldable pub custom_of : CustomSaid → Custom
custom_of u = record { name = u.name; inner = named_of u.inner }

unfoldable pub CustomHeld : List ℕ → ℕ → CustomSaid → Type 0
CustomHeld table n u = table ≡ laid n (cells symbol_cells u.inner.symbols)

unfoldable pub custom_at : List ℕ → ℕ → ℕ → Names → Said (Got CustomSaid)
custom_at s base n t =
    onward (name_at s 0) (λ p at.
    onward (pick (same name_word (part_bytes s p)) (walk_from (subsection_at s base n) s at t) (accepted (got t at))) (λ u e.
    accepted (got (record { name = moved base p; inner = u }) e)))
