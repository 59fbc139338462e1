-- What is known of an accepted module: its rows never give 15, and the comparison of two is answered from their lists. Assumes nothing.
use mathlib.Core.Path.{◌≡◌, refl, sym, ◌∙◌, ap, subst}
use mathlib.Core.Bool.{Bool, true, false}
use mathlib.Core.List.{List, [], ◌∷◌}
use Prim.Native.Nat.{ℕ, zero, suc, ◌+◌, ◌/◌, ◌≤◌, ◌<◌}
use native.Mathlib.Omega.{arith}
use native.Mathlib.Nat.{min-le_left}
use lib.Dec.{leb}
use lib.ListN.{length, get_or, length-map}
use borrow.Author.Tests.{le-leb, le-ltb}
use Rattle.refusal.specs.Pick.{pick, both}
use Rattle.refusal.specs.Sizes.{file_limit}
use Rattle.refusal.specs.Said.{Said, accepted, follow}
use Rattle.refusal.proofs.Following.{one_value, Followed, followed, follow-goes}
use Rattle.table.specs.Table.{laid, cells, capacity_of}
use Rattle.table.specs.Shape.{width, limit, capacity_in, cell_in}
use Rattle.table.specs.Testing.{bad, first_from, tested}
use Rattle.table.proofs.Cells.{row-starts, capacity-limit}
use Rattle.refusal.specs.Each.{Each, each-cons}
use Rattle.table.proofs.Laws.{length-laid, length-cells, cell-laid}
use Rattle.table.proofs.Testing.{tested-rows}
use Rattle.leb.specs.Reads.{part}
use Rattle.wasm.specs.declared.Module.{Module}
use Rattle.wasm.specs.Shapes.{Import, Export, func}
use Rattle.wasm.specs.Rows.{import_cells, export_cells}
use Rattle.wasm.specs.Module.{Tables, Parsed, module_at, module_of, counts_of, tables_of, Holds}
use Rattle.conform.specs.Sound.{ImportOk, ExportOk, ModuleOk}
use Rattle.wasm.proofs.Asked.{import-wide}
use Rattle.conform.proofs.Sound.{rows-sound}
use Rattle.conform.proofs.Asked.{rows_fit}
use Rattle.conform.proofs.Exactly.{only-these}
use Rattle.sorting.specs.Sort.{selected, up_from}
use Rattle.import_rows.specs.Queries.{kind_is, import_fits, imports_tested}
use Rattle.differences.specs.View.{export_key_at, need_at}
use Rattle.differences.specs.View.{row as row_of}
use Rattle.differences.specs.Compared.{export_fits, exports_tested, tables_tested, lists, roomed, compared}
use Rattle.standin.specs.Builds.{Build, handed, view}
use Rattle.covering.proofs.Views.{keep-length}
use Rattle.standin.proofs.Fitting.{row_fits}

-- ---- tables whose rows are all good
all-good : (test : ℕ → Bool) (i k : ℕ) → ((j : ℕ) → i ≤ j → j < i + k → test j ≡ false) → first_from test i k ≡ accepted tt
unfolding first_from
all-good test i zero h = refl
all-good test i (suc k) h = rw (h i (omega arith) (omega arith)) (all-good test (i + 1) k (λ j l m. h j (omega arith) (omega arith)))

tested-good : (room n : ℕ) (test : ℕ → Bool) → n ≤ room → ((j : ℕ) → j < n → test j ≡ false) → tested room n test ≡ accepted tt
tested-good room n test h good = tested-rows room n test h ∙ all-good test 0 n (λ j l m. good j (omega arith))

each_at : {E : Type 0} {P : E → Type 0} (d : E) (es : List E) → Each P es → (i : ℕ) → i < length es → P (get_or es i d)
each_at d [] h i k = absurd (omega arith)
each_at d (e ∷ es) (each-cons p a) zero k = p
each_at d (e ∷ es) (each-cons p a) (suc i) k = each_at d es a i (omega arith)

-- a table of n cells that holds rows of w cells, no more than it takes: 15 is not given where no each-cons is bad
module _ {R : Type 0} (f : R → List ℕ) (w limit n : ℕ) (wide : (r : R) → length (f r) ≡ w) (rows : List R)
    (few : length rows ≤ capacity_of n w limit) where
  holds-long : length (laid n (cells f rows)) ≡ n
  unfolding capacity_of
  holds-long =
      let h = row-starts n w (length rows) (omega (arith, few, min-le_left (n / w) limit)) in
      length-laid n (cells f rows) (omega (arith, length-cells f w wide rows))

  pub rows-good : (test : ℕ → Bool) → ((i : ℕ) → i < length rows → test i ≡ false)
      → tested (capacity_of (length (laid n (cells f rows))) w limit) (length rows) test ≡ accepted tt
  rows-good test good = tested-good (capacity_of (length (laid n (cells f rows))) w limit) (length rows) test (rw holds-long few) good

-- ---- the rows that a read leaves
pub no_import : Import
no_import = record { «module» = part 0 0; field = part 0 0; kind = 0; desc = func 0 }

pub no_export : Export
no_export = record { name = part 0 0; kind = 0; index = 0 }

export-wide : (r : Export) → length (export_cells r) ≡ width 3
unfolding export_cells
export-wide r = refl

fits : (a b : ℕ) {m : ℕ} {t : Bool} → a + b ≤ m → t ≡ true → both (leb (a + b) m) t ≡ true
fits a b {m} h e = rw (le-leb (a + b) m h, e)

pub import-cell : (n : ℕ) (rows : List Import) (i j : ℕ) → i < length rows → j < width 2
    → cell_in 2 (laid n (cells import_cells rows)) i j ≡ get_or (import_cells (get_or rows i no_import)) j 0
import-cell n rows i j h k = cell-laid import_cells (width 2) import-wide n rows i j no_import h k

pub export-cell : (n : ℕ) (rows : List Export) (i j : ℕ) → i < length rows → j < width 3
    → cell_in 3 (laid n (cells export_cells rows)) i j ≡ get_or (export_cells (get_or rows i no_export)) j 0
export-cell n rows i j h k = cell-laid export_cells (width 3) export-wide n rows i j no_export h k

module _ (m n : ℕ) (rows : List Import) (ok : Each (ImportOk m) rows) where
  abbrev imported : List ℕ
  imported = laid n (cells import_cells rows)

  import-good : (i : ℕ) → i < length rows → bad (import_fits m imported) i ≡ false
  unfolding import_fits import_cells
  import-good i h =
      let r = each_at no_import rows ok i h in
      ap (λ (t : Bool). pick t false true)
      (fits (cell_in 2 imported i 0) (cell_in 2 imported i 1)
      (omega (arith, r.module-in, import-cell n rows i 0 h (omega arith), import-cell n rows i 1 h (omega arith)))
      (fits (cell_in 2 imported i 2) (cell_in 2 imported i 3)
      (omega (arith, r.field_in, import-cell n rows i 2 h (omega arith), import-cell n rows i 3 h (omega arith)))
      (row_fits imported i _ (λ j l. import-cell n rows i (suc (suc (suc (suc j)))) h (omega arith)) (rows_fit m _ r))))

  pub imports-good : length rows ≤ capacity_in 2 n → imports_tested m imported (length rows) ≡ accepted tt
  unfolding imports_tested
  imports-good few = rows-good import_cells (width 2) (limit 2) n import-wide rows few (bad (import_fits m imported)) import-good

module _ (m n : ℕ) (rows : List Export) (ok : Each (ExportOk m) rows) where
  abbrev exported : List ℕ
  exported = laid n (cells export_cells rows)

  export-good : (i : ℕ) → i < length rows → bad (export_fits m exported) i ≡ false
  unfolding export_fits export_cells
  export-good i h =
      let r = each_at no_export rows ok i h in
      ap (λ (t : Bool). pick t false true)
      (fits (cell_in 3 exported i 0) (cell_in 3 exported i 1)
      (omega (arith, r.name-in-file, export-cell n rows i 0 h (omega arith), export-cell n rows i 1 h (omega arith)))
      (le-leb (cell_in 3 exported i 2) 255 (omega (arith, r.kind-byte, export-cell n rows i 2 h (omega arith)))))

  exports-good : length rows ≤ capacity_in 3 n → exports_tested m exported (length rows) ≡ accepted tt
  unfolding exports_tested
  exports-good few = rows-good export_cells (width 3) (limit 3) n export-wide rows few (bad (export_fits m exported)) export-good

-- ---- a build
module _ (b : Build) where
  -- what was read of its file
  pub read : Followed (module_at b.file b.sizes) (λ m. accepted (module_of (length b.file) m)) b.answer
  read = followed (module_at b.file b.sizes) (λ m. accepted (module_of (length b.file) m)) (sym b.promise.answer-is)

  unfoldable pub parsed : Tables
  parsed = read.what.tables

  pub holds : Holds b.tables b.sizes parsed
  unfolding tables_of parsed
  holds = subst (λ (x : Said Parsed). Holds b.tables b.sizes (tables_of x)) read.first b.promise.tables-are

  pub sound : ModuleOk b.file b.sizes read.what
  sound = rows-sound b.file b.sizes read.what b.bytes read.first

  pub short : length b.file ≤ file_limit
  short = (only-these b.file b.sizes read.what b.bytes read.first).short

  pub import-count : b.answer.imports ≡ length parsed.imports
  unfolding parsed module_of counts_of
  import-count = ap (λ (m : Module). m.imports) (sym (one_value read.then))

  pub export-count : b.answer.exports ≡ length parsed.exports
  unfolding parsed module_of counts_of
  export-count = ap (λ (m : Module). m.exports) (sym (one_value read.then))

  pub imports-tested : imports_tested (length b.file) b.tables.imports b.answer.imports ≡ accepted tt
  unfolding parsed
  imports-tested =
      ap (λ (t : List ℕ). imports_tested (length b.file) t b.answer.imports) holds.imports-are
      ∙ ap (λ (k : ℕ). imports_tested (length b.file) (laid b.sizes.imports (cells import_cells parsed.imports)) k) import-count
      ∙ imports-good (length b.file) b.sizes.imports parsed.imports sound.rows_ok.imports-ok sound.rows_ok.imports-few

  exports-tested : exports_tested (length b.file) b.tables.exports b.answer.exports ≡ accepted tt
  unfolding parsed
  exports-tested =
      ap (λ (t : List ℕ). exports_tested (length b.file) t b.answer.exports) holds.exports-are
      ∙ ap (λ (k : ℕ). exports_tested (length b.file) (laid b.sizes.exports (cells export_cells parsed.exports)) k) export-count
      ∙ exports-good (length b.file) b.sizes.exports parsed.exports sound.rows_ok.exports-ok sound.rows_ok.exports-few

  -- its rows never give 15
  tables-tested : tables_tested (handed b) ≡ accepted tt
  unfolding tables_tested
  tables-tested = sym (follow-goes _ imports-tested (sym exports-tested))

  -- and are no more than the limits
  pub few-imports : b.answer.imports ≤ limit 2
  unfolding parsed
  few-imports = omega (arith, import-count, sound.rows_ok.imports-few, capacity-limit b.sizes.imports (width 2) (limit 2))

  pub few-exports : b.answer.exports ≤ limit 3
  unfolding parsed
  few-exports = omega (arith, export-count, sound.rows_ok.exports-few, capacity-limit b.sizes.exports (width 3) (limit 3))

pub up-length : (i n : ℕ) → length (up_from i n) ≡ n
up-length i zero = refl
up-length i (suc n) = ap suc (up-length (suc i) n)

pub view-exports : (b : Build) → length (view b).exports ≤ limit 3
view-exports b =
    omega (
      arith,
      few-exports b,
      up-length 0 b.answer.exports,
      length-map (up_from 0 b.answer.exports) (row_of (export_key_at b.file b.tables.exports)),
    )

pub view-needs : (b : Build) → length (view b).needs ≤ limit 2
view-needs b =
    let fns = selected (kind_is b.tables.imports 0) (up_from 0 b.answer.imports) in
    omega (
      arith,
      few-imports b,
      up-length 0 b.answer.imports,
      keep-length (kind_is b.tables.imports 0) (up_from 0 b.answer.imports),
      length-map fns (row_of (need_at b.file b.tables.imports)),
    )

-- the comparison of two builds: the lists, where there is room for them
pub compared_is : (b c : Build) (room8 room9 : ℕ)
    → compared (handed b) (handed c) room8 room9 ≡ roomed room8 room9 (lists (view b) (view c))
unfolding compared follow
compared_is b c room8 room9 =
    rw (le-ltb file_limit (length b.file) (short b), le-ltb file_limit (length c.file) (short c), tables-tested b, tables-tested c)
