-- What an import asks for, as seven cells of its row. Assumes nothing.
use Prim.Native.Nat.{ℕ}
use mathlib.Core.Path.{◌≡◌, refl, ap, ◌∙◌}
use mathlib.Core.List.{List, [], ◌∷◌}
use lib.ListN.{length, get_or}
use Rattle.table.specs.Table.{put_row}
use Rattle.table.specs.Shape.{width}
use Rattle.wasm.specs.declared.entry.Desc.{Desc}
use Rattle.wasm.specs.declared.entry.Import.{Import}
use Rattle.wasm.specs.Rows.{desc_cells, import_cells, import_wide}

pub import-wide : (r : Import) → length (import_cells r) ≡ width 2
import-wide = import_wide

-- the seven cells one by one
abbrev pub seven_from : List ℕ → List ℕ
seven_from l = get_or l 0 0 ∷ get_or l 1 0 ∷ get_or l 2 0 ∷ get_or l 3 0 ∷ get_or l 4 0 ∷ get_or l 5 0 ∷ get_or l 6 0 ∷ []

desc-seven : (d : Desc) → seven_from (desc_cells d) ≡ desc_cells d
unfolding desc_cells
desc-seven (Desc.Func index) = refl
desc-seven (Desc.Table element l) = refl
desc-seven (Desc.Memory l) = refl
desc-seven (Desc.Global type mutable) = refl

-- a row that was put with them
pub import-put : (r : Import) (l t u : List ℕ) (k : ℕ) → l ≡ desc_cells r.desc
    → u ≡ put_row t k (r.«module».from ∷ r.«module».len ∷ r.field.from ∷ r.field.len ∷ r.kind ∷ seven_from l)
    → u ≡ put_row t k (import_cells r)
unfolding import_cells
import-put r l t u k e h =
    h
    ∙ ap (λ (x : List ℕ). put_row t k (r.«module».from ∷ r.«module».len ∷ r.field.from ∷ r.field.len ∷ r.kind ∷ x))
    (ap seven_from e ∙ desc-seven r.desc)
