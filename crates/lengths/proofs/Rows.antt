-- The lines for the rows of a table: together a line's own bytes for each row, and four for each byte of the file. Assumes nothing.
use mathlib.Core.Path.{◌≡◌, refl}
use mathlib.Core.Bool.{not}
use mathlib.Core.List.{List, [], ◌∷◌, ◌++◌, map}
use Prim.Native.Nat.{ℕ, ◌+◌, ◌*◌, ◌≤◌, ◌<◌}
use native.Mathlib.Omega.{arith}
use lib.Dec.{eqb}
use lib.ListN.{length, get_or, drop, length-take}
use Rattle.refusal.specs.Pick.{pick, both}
use Rattle.std.specs.declared.cmp.Ordering.{Ordering}
use Rattle.table.specs.Table.{laid, cells, inside, range_of}
use Rattle.table.specs.Shape.{width, cell_in}
use Rattle.table.proofs.Laws.{cell-laid}
use Rattle.sorting.specs.Sort.{sort, selected, up_from}
use Rattle.sorting.specs.Keys.{row_name}
use Rattle.import_rows.specs.Queries.{kind_is}
use Rattle.wasm.specs.Shapes.{Import, Export}
use Rattle.wasm.specs.Rows.{import_cells, export_cells}
use Rattle.wasm.proofs.Asked.{import-wide}
use Rattle.conform.specs.Sound.{total, import_size, export_size}
use Rattle.verdicts.specs.Evaluate.{violates}
use Rattle.verdicts.specs.declared.Verdict.{Verdict}
use Rattle.requirements.specs.Requirements.{row_domain}
use Rattle.differences.specs.declared.Change.{Change}
use Rattle.differences.specs.declared.Change.TheVariants.{Removed, Added}
use Rattle.differences.specs.View.{ExportKey, Need, Row, View, row, export_key_at, need_at, export_rows, need_rows}
use Rattle.differences.specs.Differences.{Entry, entry, has_key, without, changes, is_change, cmp_export, cmp_need, export_order}
use Rattle.differences.specs.Differences.{export_diff}
use Rattle.differences.specs.Differences.{need_order, need_diff}
use Rattle.differences.specs.Compared.{change_number, export_diff_cells, need_diff_cells}
use Rattle.reasons.specs.Reasons.{reason_lines}
use Rattle.reviewed.specs.Texts.{nth, removed_text, added_text}
use Rattle.reviewed.specs.Review.{violation_row, removed_row, added_row}
use Rattle.lengths.proofs.Sums.{total-append, total-selected, total-none, total-sort, total-map, sum_to, lines-sum, sum-le, sum-lines}
use Rattle.lengths.proofs.Sums.{sum_rows, sum_below}
use Rattle.lengths.proofs.Lines.{either, violation-long, removed-long, added-long}

range-short : (s : List ℕ) (from len : ℕ) → length (range_of s from len) ≤ len
unfolding range_of
range-short s from len = either (inside s from len) len _ _ (omega (arith, length-take len (drop from s))) (omega arith)

-- ---- the rows of table 2, which holds rs; d stands for a row that is not there
module _ (file : List ℕ) (n : ℕ) (rs : List Import) (d : Import) where
  abbrev imports : List ℕ
  imports = laid n (cells import_cells rs)

  source-short : (i : ℕ) → i < length rs → length (row_name file imports (width 2) 0 1 i) ≤ (get_or rs i d).«module».len
  unfolding import_cells
  source-short i h =
      let e : cell_in 2 imports i 1 ≡ (get_or rs i d).«module».len = cell-laid import_cells (width 2) import-wide n rs i 1 d h (omega arith) in
      omega (arith, range-short file (cell_in 2 imports i 0) (cell_in 2 imports i 1), e)

  field-short : (i : ℕ) → i < length rs → length (row_name file imports (width 2) 2 3 i) ≤ (get_or rs i d).field.len
  unfolding import_cells
  field-short i h =
      let e : cell_in 2 imports i 3 ≡ (get_or rs i d).field.len = cell-laid import_cells (width 2) import-wide n rs i 3 d h (omega arith) in
      omega (arith, range-short file (cell_in 2 imports i 2) (cell_in 2 imports i 3), e)

  violation-row : (vs : List Verdict) (i : ℕ) → i < length rs
      → length (violation_row file imports vs i) ≤ 45 + 4 * import_size (get_or rs i d)
  unfolding violation_row
  violation-row vs i h =
      let source = row_name file imports (width 2) 0 1 i in
      let field = row_name file imports (width 2) 2 3 i in
      let x : length source ≤ (get_or rs i d).«module».len = source-short i h in
      let y : length field ≤ (get_or rs i d).field.len = field-short i h in
      either (both (kind_is imports 0 i) (violates (nth vs (row_domain file imports i)))) (45 + 4 * import_size (get_or rs i d)) _ _
      (omega (arith, violation-long (row_domain file imports i) field source, x, y)) (omega arith)

  violations-by : (vs : List Verdict)
      → length (reason_lines (violation_row file imports vs) (length rs)) ≤ length rs * 45 + 4 * total import_size rs
  violations-by vs =
      omega (
        arith,
        lines-sum (violation_row file imports vs) (length rs),
        sum-le (λ i. length (violation_row file imports vs i)) (λ i. 45 + 4 * import_size (get_or rs i d)) (length rs) (violation-row vs),
        sum-lines 45 (λ i. import_size (get_or rs i d)) (length rs),
        sum_rows import_size d rs,
      )

  -- the line of a capability that row i needs
  abbrev need_size : ℕ → ℕ
  need_size i = 40 + 4 * length (row_name file imports (width 2) 0 1 i)

  needs-by : sum_to need_size (length rs) ≤ length rs * 40 + 4 * total import_size rs
  needs-by =
      omega (
        arith,
        sum-le need_size (λ i. 40 + 4 * import_size (get_or rs i d)) (length rs) (λ i h. omega (arith, source-short i h)),
        sum-lines 40 (λ i. import_size (get_or rs i d)) (length rs),
        sum_rows import_size d rs,
      )

-- ---- the rows of table 3
module _ (file : List ℕ) (n : ℕ) (rs : List Export) (d : Export) where
  abbrev exports : List ℕ
  exports = laid n (cells export_cells rs)

  abbrev export_line : ℕ → ℕ
  export_line i = 32 + 4 * length (row_name file exports (width 3) 0 1 i)

  exports-by : sum_to export_line (length rs) ≤ length rs * 32 + 4 * total export_size rs
  unfolding export_cells
  exports-by =
      omega (
        arith,
        sum-le export_line (λ i. 32 + 4 * export_size (get_or rs i d)) (length rs) (λ i h.
            let e : cell_in 3 exports i 1 ≡ (get_or rs i d).name.len = cell-laid export_cells (width 3) (λ r. refl) n rs i 1 d h (omega arith) in
            omega (arith, range-short file (cell_in 3 exports i 0) (cell_in 3 exports i 1), e)),
        sum-lines 32 (λ i. export_size (get_or rs i d)) (length rs),
        sum_rows export_size d rs,
      )

-- where there are no rows, there is no line
pub violations-long : (file : List ℕ) (n : ℕ) (rs : List Import) (vs : List Verdict)
    → length (reason_lines (violation_row file (laid n (cells import_cells rs)) vs) (length rs)) ≤ length rs * 45 + 4 * total import_size rs
unfolding reason_lines
violations-long file n [] vs = omega arith
violations-long file n (r ∷ rs) vs = violations-by file n (r ∷ rs) r vs

needs-sum : (file : List ℕ) (n : ℕ) (rs : List Import)
    → sum_to (λ i. 40 + 4 * length (row_name file (laid n (cells import_cells rs)) (width 2) 0 1 i)) (length rs)
    ≤ length rs * 40 + 4 * total import_size rs
unfolding sum_to
needs-sum file n [] = omega arith
needs-sum file n (r ∷ rs) = needs-by file n (r ∷ rs) r

exports-sum : (file : List ℕ) (n : ℕ) (rs : List Export)
    → sum_to (λ i. 32 + 4 * length (row_name file (laid n (cells export_cells rs)) (width 3) 0 1 i)) (length rs)
    ≤ length rs * 32 + 4 * total export_size rs
unfolding sum_to
exports-sum file n [] = omega arith
exports-sum file n (r ∷ rs) = exports-by file n (r ∷ rs) r

-- ---- a list of differences: of one kind of change, no more than all rows of its side
abbrev weigh : {K : Type 0} → Change → (ℕ → ℕ) → Entry K → ℕ
weigh side size e = pick (is_change side e.change) (size e.row.at) 0

module _ {K : Type 0} (cmp : K → K → Ordering) (order : Entry K → Entry K → Ordering) (size : ℕ → ℕ) (b c : List (Row K)) where
  abbrev row_size : Row K → ℕ
  row_size r = size r.at

  abbrev gone : List (Entry K)
  gone = map (entry Removed) (without cmp b c)

  abbrev new : List (Entry K)
  new = map (entry Added) (without cmp c b)

  removed-total : total (weigh Removed size) (sort order (changes cmp b c)) ≤ total row_size b
  removed-total =
      let x : total (weigh Removed size) gone ≡ total row_size (without cmp b c) = total-map (entry Removed) (weigh Removed size) (without cmp b c) in
      let y : total (weigh Removed size) new ≡ total (λ r. 0) (without cmp c b) = total-map (entry Added) (weigh Removed size) (without cmp c b) in
      let z : total {E = Row K} (λ r. 0) (without cmp c b) ≡ 0 = total-none (λ r. 0) (λ r. refl) (without cmp c b) in
      omega (
        arith,
        total-sort (weigh Removed size) order (gone ++ new),
        total-append (weigh Removed size) gone new,
        total-selected row_size (λ r. not (has_key cmp r.key c)) b,
        x,
        y,
        z,
      )

  added-total : total (weigh Added size) (sort order (changes cmp b c)) ≤ total row_size c
  added-total =
      let x : total (weigh Added size) new ≡ total row_size (without cmp c b) = total-map (entry Added) (weigh Added size) (without cmp c b) in
      let y : total (weigh Added size) gone ≡ total (λ r. 0) (without cmp b c) = total-map (entry Removed) (weigh Added size) (without cmp b c) in
      let z : total {E = Row K} (λ r. 0) (without cmp b c) ≡ 0 = total-none (λ r. 0) (λ r. refl) (without cmp b c) in
      omega (
        arith,
        total-sort (weigh Added size) order (gone ++ new),
        total-append (weigh Added size) gone new,
        total-selected row_size (λ r. not (has_key cmp r.key b)) c,
        x,
        y,
        z,
      )

-- ---- table 8: the lines of exports that are gone
no-export : Entry ExportKey
no-export = entry Removed (record { at = 0; key = record { name = []; kind = 0 } })

module _ (file exports : List ℕ) (k : ℕ) (es : List (Entry ExportKey)) where
  abbrev xd : List ℕ
  xd = laid k (cells export_diff_cells es)

  abbrev line_size : ℕ → ℕ
  line_size i = 32 + 4 * length (row_name file exports (width 3) 0 1 i)

  removed-by : (c : Change) (at : ℕ)
      → length (pick (eqb (change_number c) 0) (removed_text (export_key_at file exports at).name (export_key_at file exports at).kind) [])
      ≤ pick (is_change Removed c) (line_size at) 0
  unfolding export_key_at
  removed-by Removed at = removed-long (row_name file exports (width 3) 0 1 at) (cell_in 3 exports at 2)
  removed-by Added at = omega arith

  removed-row : (i : ℕ) → i < length es → length (removed_row file exports xd i) ≤ weigh Removed line_size (get_or es i no-export)
  unfolding removed_row
  removed-row i h =
      let e = get_or es i no-export in
      let x : cell_in 8 xd i 0 ≡ change_number e.change = cell-laid export_diff_cells (width 8) (λ e. refl) k es i 0 no-export h (omega arith) in
      let y : cell_in 8 xd i 1 ≡ e.row.at = cell-laid export_diff_cells (width 8) (λ e. refl) k es i 1 no-export h (omega arith) in
      rw (x, y) (removed-by e.change e.row.at)

  gone_long : length (reason_lines (removed_row file exports xd) (length es)) ≤ total (weigh Removed line_size) es
  gone_long =
      omega (
        arith,
        lines-sum (removed_row file exports xd) (length es),
        sum-le (λ i. length (removed_row file exports xd i)) (λ i. weigh Removed line_size (get_or es i no-export)) (length es) removed-row,
        sum_rows (weigh Removed line_size) no-export es,
      )

-- ---- table 9: the lines of capabilities that are new
no-need : Entry Need
no-need = entry Removed (record { at = 0; key = record { domain = 0; source = [] } })

module _ (file imports : List ℕ) (k : ℕ) (es : List (Entry Need)) where
  abbrev cd : List ℕ
  cd = laid k (cells need_diff_cells es)

  abbrev source_size : ℕ → ℕ
  source_size i = 40 + 4 * length (row_name file imports (width 2) 0 1 i)

  added-by : (c : Change) (domain at : ℕ)
      → length (pick (eqb (change_number c) 0) [] (added_text domain (row_name file imports (width 2) 0 1 at)))
      ≤ pick (is_change Added c) (source_size at) 0
  added-by Removed domain at = omega arith
  added-by Added domain at = added-long domain (row_name file imports (width 2) 0 1 at)

  added-row : (i : ℕ) → i < length es → length (added_row file imports cd i) ≤ weigh Added source_size (get_or es i no-need)
  unfolding added_row
  added-row i h =
      let e = get_or es i no-need in
      let x : cell_in 9 cd i 0 ≡ change_number e.change = cell-laid need_diff_cells (width 9) (λ e. refl) k es i 0 no-need h (omega arith) in
      let z : cell_in 9 cd i 2 ≡ e.row.at = cell-laid need_diff_cells (width 9) (λ e. refl) k es i 2 no-need h (omega arith) in
      rw (x, z) (added-by e.change (cell_in 9 cd i 1) e.row.at)

  new-long : length (reason_lines (added_row file imports cd) (length es)) ≤ total (weigh Added source_size) es
  new-long =
      omega (
        arith,
        lines-sum (added_row file imports cd) (length es),
        sum-le (λ i. length (added_row file imports cd i)) (λ i. weigh Added source_size (get_or es i no-need)) (length es) added-row,
        sum_rows (weigh Added source_size) no-need es,
      )

-- ---- both lists, of a baseline and a candidate that were read
pub exports-long : (file : List ℕ) (n k : ℕ) (rs : List Export) (b c : View)
    → b.exports ≡ export_rows file (laid n (cells export_cells rs)) (length rs)
    → length (reason_lines (removed_row file (laid n (cells export_cells rs)) (laid k (cells export_diff_cells (export_diff b c))))
    (length (export_diff b c)))
    ≤ length rs * 32 + 4 * total export_size rs
unfolding export_diff
exports-long file n k rs b c is =
    let table = laid n (cells export_cells rs) in
    let size : ℕ → ℕ = line_size file table k (export_diff b c) in
    let x : total (λ r. size r.at) (export_rows file table (length rs)) ≡ total size (up_from 0 (length rs)) =
    total-map (row (export_key_at file table)) (λ r. size r.at) (up_from 0 (length rs)) in
    let y : total (λ r. size r.at) b.exports ≡ total (λ r. size r.at) (export_rows file table (length rs)) = rw is in
    omega (
      arith,
      gone_long file table k (export_diff b c),
      removed-total cmp_export export_order size b.exports c.exports,
      x,
      y,
      sum_below size (length rs),
      exports-sum file n rs,
    )

pub needs-long : (file : List ℕ) (n k : ℕ) (rs : List Import) (b c : View)
    → c.needs ≡ need_rows file (laid n (cells import_cells rs)) (length rs)
    → length (reason_lines (added_row file (laid n (cells import_cells rs)) (laid k (cells need_diff_cells (need_diff b c))))
    (length (need_diff b c)))
    ≤ length rs * 40 + 4 * total import_size rs
unfolding need_diff
needs-long file n k rs b c is =
    let table = laid n (cells import_cells rs) in
    let size : ℕ → ℕ = source_size file table k (need_diff b c) in
    let some = selected (kind_is table 0) (up_from 0 (length rs)) in
    let x : total (λ r. size r.at) (need_rows file table (length rs)) ≡ total size some =
    total-map (row (need_at file table)) (λ r. size r.at) some in
    let y : total (λ r. size r.at) c.needs ≡ total (λ r. size r.at) (need_rows file table (length rs)) = rw is in
    omega (
      arith,
      new-long file table k (need_diff b c),
      added-total cmp_need need_order size b.needs c.needs,
      x,
      y,
      total-selected size (kind_is table 0) (up_from 0 (length rs)),
      sum_below size (length rs),
      needs-sum file n rs,
    )
