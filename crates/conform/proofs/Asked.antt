-- What a row of table 2 says of what its import asks for. Assumes nothing.
use Prim.Native.Nat.{ℕ}
use mathlib.Core.Path.{◌≡◌, refl, ap, ◌∙◌}
use mathlib.Core.List.{List, ◌∷◌}
use Rattle.wasm.specs.Shapes.{Desc, table_desc}
use Rattle.wasm.specs.Rows.{desc_cells, import_cells}
use Rattle.conform.specs.Grammar.{ref_byte, Lim, least, between, DescOf}
use Rattle.conform.specs.Claims.{limits_of, desc_kind, desc_of}
use Rattle.conform.specs.Sound.{even, odd, DescFits, function, tables, memories, globals}
use Rattle.conform.specs.Asked.{CellsFit, RowsFit, table_asks, asks_for, CellsSay}

-- ---- every row
desc-cells-fit : (kind : ℕ) (d : Desc) → DescFits kind d → CellsFit (kind ∷ desc_cells d)
unfolding desc_cells
desc-cells-fit kind d (function h) = CellsFit.function
desc-cells-fit kind d (tables h (even a b n)) = CellsFit.table b
desc-cells-fit kind d (tables h (odd a b n k)) = CellsFit.table-most b
desc-cells-fit kind d (memories (even a b n)) = CellsFit.memory b
desc-cells-fit kind d (memories (odd a b n k)) = CellsFit.memory-most b
desc-cells-fit kind d (globals h k) = CellsFit.global

pub rows_fit : RowsFit
unfolding import_cells
rows_fit n r ok = desc-cells-fit r.kind r.desc ok.desc-fits

-- ---- by production
asks-cells : (d : DescOf) → desc_cells (desc_of d) ≡ asks_for d
unfolding desc_cells
asks-cells (DescOf.func x) = refl
asks-cells (DescOf.table t) = by t.limits where
  by : (m : Lim) → desc_cells (table_desc (ref_byte t.element) (limits_of m)) ≡ table_asks (ref_byte t.element) m
  by (least n) = refl
  by (between n k) = refl
asks-cells (DescOf.mem (least n)) = refl
asks-cells (DescOf.mem (between n k)) = refl
asks-cells (DescOf.global g) = refl

pub cells_say : CellsSay
unfolding import_cells
cells_say b row v h =
    ap (λ (k : ℕ). k ∷ desc_cells row.desc) h.kind-is
    ∙ ap (λ (l : List ℕ). desc_kind v.desc ∷ l) (ap desc_cells h.desc-is ∙ asks-cells v.desc)
