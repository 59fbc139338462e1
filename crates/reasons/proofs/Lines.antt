-- The lines, as the code puts them together, and how long they are. Assumes nothing.
use mathlib.Core.Path.{◌≡◌, sym, ◌∙◌}
use mathlib.Core.Bool.{Bool, true, false}
use mathlib.Core.List.{List, [], ◌∷◌, ◌++◌}
use Prim.Native.Nat.{ℕ, zero, suc, ◌+◌, ◌*◌, ◌≤◌}
use native.Mathlib.Omega.{arith}
use native.Mathlib.Numerals.{add-one}
use native.Mathlib.Nat.{suc-mul}
use borrow.Author.Tests.{eq-eqb, ne_eqb}
use lib.Dec.{eqb, leb}
use lib.ListN.{length, take, drop, length-append, length-drop, length-take}
use Rattle.refusal.specs.Pick.{pick}
use Rattle.refusal.specs.Sizes.{file_limit}
use Rattle.table.specs.Table.{range_of, name_in}
use Rattle.table.specs.Shape.{width, limit, cell_in}
use Rattle.sorting.specs.Keys.{row_name}
use Rattle.domains.specs.Domain.{slug}
use Rattle.kinds.specs.Kinds.{kind_of, kind_word}
use Rattle.kinds.specs.declared.ExternalKind.{ExternalKind}
use Rattle.kinds.specs.declared.ExternalKind.TheVariants.{Func, Table, Memory, Global, Other}
use Rattle.differences.specs.View.{export_key_at}
use Rattle.differences.specs.Differences.{kind_slug}
use Rattle.differences.specs.Compared.{Given}
use Rattle.output.specs.Bytes.{most}
use Rattle.output.specs.Writing.{Added}
use Rattle.output.specs.declared.bytes.Writer.{Writer}
use Rattle.output.proofs.Writing.{added_none, added_then}
use Rattle.output.proofs.Words.{slug-long}
use Rattle.reasons.specs.Reasons.{export_removed, capability_required, via, export_reason, need_reason, reason_lines, export_row, need_row}
use Rattle.reasons.specs.Reasons.{export_reasons, need_reasons, Diffs, reasons_of, KindFits}

-- ---- a line, by what the calls on the cells answer
module _ (file table : List ℕ) (i : ℕ) {part : List ℕ} where
  pub export-line : {kind : ℕ} → part ≡ name_in file table (width 3) i 0 → kind ≡ cell_in 3 table i 2
      → export_reason (export_key_at file table i)
      ≡ export_removed ++ (part ++ ((32 ∷ 40 ∷ []) ++ (kind_slug kind ++ (41 ∷ 10 ∷ []))))
  unfolding export_reason export_key_at
  export-line p k = rw (p, k)

  pub need-line : (domain : ℕ) → part ≡ name_in file table (width 2) i 0
      → need_reason domain (row_name file table (width 2) 0 1 i)
      ≡ capability_required ++ (slug domain ++ (via ++ (part ++ (10 ∷ []))))
  unfolding need_reason
  need-line domain p = rw p

-- ---- a row
module _ (file rows table : List ℕ) (i : ℕ) {change : ℕ} where
  pub export-none : change ≡ cell_in 8 table i 0 → (change ≡ 0 → ⊥) → export_row file rows table i ≡ []
  unfolding export_row
  export-none e h = rw (← e, ne_eqb change 0 h)

  pub export-some : {row : ℕ} → change ≡ cell_in 8 table i 0 → change ≡ 0 → row ≡ cell_in 8 table i 1
      → export_row file rows table i ≡ export_reason (export_key_at file rows row)
  unfolding export_row
  export-some e h r = rw (← e, eq-eqb change 0 h, r)

  pub need-none : change ≡ cell_in 9 table i 0 → change ≡ 0 → need_row file rows table i ≡ []
  unfolding need_row
  need-none e h = rw (← e, eq-eqb change 0 h)

  pub need-some : {row domain : ℕ} → change ≡ cell_in 9 table i 0 → (change ≡ 0 → ⊥) → domain ≡ cell_in 9 table i 1
      → row ≡ cell_in 9 table i 2 → need_row file rows table i ≡ need_reason domain (row_name file rows (width 2) 0 1 row)
  unfolding need_row
  need-some e h d r = rw (← e, ne_eqb change 0 h, d, r)

-- the kind of a removed export
pub row-kind : (exports xd : List ℕ) (i : ℕ) {change row : ℕ} → KindFits exports xd i → change ≡ cell_in 8 xd i 0 → change ≡ 0
    → row ≡ cell_in 8 xd i 1 → cell_in 3 exports row 2 ≤ 255
row-kind exports xd i k e h r = rw r (k (sym e ∙ h))

-- ---- the rows one after another
module _ (line : ℕ → List ℕ) where
  pub lines-first : (a : Writer) → Added a (reason_lines line 0) a
  unfolding reason_lines
  lines-first a = added_none a

  pub lines_next : (i : ℕ) {a b c : Writer} → Added a (reason_lines line i) b → Added b (line i) c → Added a (reason_lines line (i + 1)) c
  unfolding reason_lines
  lines_next i f g = rw (add-one i) (added_then f g)

  pub lines-all : {i n : ℕ} {a b : Writer} → Added a (reason_lines line i) b → i ≡ n → Added a (reason_lines line n) b
  lines-all w e = rw (← e) w

  lines_long : (k n : ℕ) → ((i : ℕ) → length (line i) ≤ k) → length (reason_lines line n) ≤ n * k
  unfolding reason_lines
  lines_long k zero h = omega arith
  lines_long k (suc n) h =
      omega (arith, length-append (reason_lines line n) (line n), lines_long k n h, h n, suc-mul n k)

-- ---- how long
range-long : (s : List ℕ) (from len : ℕ) → length (range_of s from len) ≤ length s
unfolding range_of
range-long s from len = by (leb (from + len) (length s))
  where
    by : (t : Bool) → length (pick t (take len (drop from s)) []) ≤ length s
    by true = omega (arith, length-take len (drop from s), length-drop from s)
    by false = omega arith

pub kind-long : (k : ExternalKind) → length (kind_word k) ≤ 10
kind-long Func = omega arith
kind-long Table = omega arith
kind-long Memory = omega arith
kind-long Global = omega arith
kind-long (Other b) = omega arith

module _ (file rows table : List ℕ) (i : ℕ) where
  export-long : length (export_row file rows table i) ≤ length file + 30
  unfolding export_row export_reason export_key_at
  export-long = by (eqb (cell_in 8 table i 0) 0)
    where
      row : ℕ
      row = cell_in 8 table i 1

      name : List ℕ
      name = range_of file (cell_in 3 rows row 0) (cell_in 3 rows row 1)

      word : List ℕ
      word = kind_slug (cell_in 3 rows row 2)

      by : (t : Bool) → length (pick t (export_removed ++ (name ++ ((32 ∷ 40 ∷ []) ++ (word ++ (41 ∷ 10 ∷ []))))) []) ≤ length file + 30
      by true =
          omega (
            arith,
            length-append name (32 ∷ 40 ∷ (word ++ (41 ∷ 10 ∷ []))),
            length-append word (41 ∷ 10 ∷ []),
            range-long file (cell_in 3 rows row 0) (cell_in 3 rows row 1),
            kind-long (kind_of (cell_in 3 rows row 2)),
          )
      by false = omega arith

  need-long : length (need_row file rows table i) ≤ length file + 38
  unfolding need_row need_reason
  need-long = by (eqb (cell_in 9 table i 0) 0)
    where
      word : List ℕ
      word = slug (cell_in 9 table i 1)

      name : List ℕ
      name = row_name file rows (width 2) 0 1 (cell_in 9 table i 2)

      by : (t : Bool) → length (pick t [] (capability_required ++ (word ++ (via ++ (name ++ (10 ∷ [])))))) ≤ length file + 38
      by true = omega arith
      by false =
          omega (
            arith,
            length-append word (via ++ (name ++ (10 ∷ []))),
            length-append name (10 ∷ []),
            range-long file (cell_in 2 rows (cell_in 9 table i 2) 0) (cell_in 2 rows (cell_in 9 table i 2) 1),
            slug-long (cell_in 9 table i 1),
          )

-- all of them can be counted, after four thousand million other bytes as well
pub reasons-few : (b c : Given) (d : Diffs) → length b.file ≤ file_limit → length c.file ≤ file_limit → d.export_count ≤ limit 8
    → d.need_count ≤ limit 9 → {at : ℕ} → at ≤ 4294967295 → at + length (reasons_of b c d) ≤ most
unfolding reasons_of
reasons-few b c d h k l o p =
    omega (
      arith,
      length-append (export_reasons b.file b.exports d.exports d.export_count) (need_reasons c.file c.imports d.needs d.need_count),
      lines_long (export_row b.file b.exports d.exports) 16777254 d.export_count
          (λ i. omega (arith, export-long b.file b.exports d.exports i)),
      lines_long (need_row c.file c.imports d.needs) 16777254 d.need_count
          (λ i. omega (arith, need-long c.file c.imports d.needs i)),
    )
