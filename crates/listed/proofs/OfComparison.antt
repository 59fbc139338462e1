-- Two builds that were compared, and the rows of their differences. Assumes nothing.
use Rattle.std.specs.Prelude.{Result, Ok, Err}
use Prim.Native.Nat.{ℕ, ◌*◌, ◌≤◌, ◌<◌}
use mathlib.Core.Path.{◌≡◌, refl, sym, ap, ◌∙◌, subst}
use mathlib.Core.Bool.{Bool}
use mathlib.Core.List.{List, ◌++◌}
use lib.ListN.{length, take}
use borrow.Author.Tests.{lt-ltb, le-ltb}
use mathlib.Core.Logic.{◌⊎◌, inl, inr}
use Rattle.refusal.specs.Said.{Said, accepted, refused, refused_by, follow, spot, Place}
use Rattle.refusal.specs.declared.Refusal.{Refusal}
use Rattle.refusal.proofs.Following.{followed, follow-stops, follow-goes}
use Rattle.table.specs.Table.{laid, cells, capacity_of}
use Rattle.table.specs.Shape.{width, limit, full_cells, capacity_in}
use Rattle.output.specs.Cells.{cell_bytes}
use Rattle.wasm.specs.Module.{module_at, Lent}
use Rattle.wasm.specs.declared.Module.{Module}
use Rattle.conform.specs.Sound.{limits}
use Rattle.differences.specs.View.{ExportKey, Need}
use Rattle.differences.specs.Differences.{Entry}
use Rattle.differences.specs.Compared.{Given, given, Lists, compared, Verdict, verdict_on, export_diff_cells, need_diff_cells}
use Rattle.differences.specs.Compared.{listed, Compares}
use Rattle.compat.specs.Answer.{said_compared}
use Rattle.compat.specs.declared.Lists as code
use Rattle.output.specs.Bytes.{room_for}
use Rattle.reasons.specs.Reasons.{Diffs, diffs, reasons_tested, reasons_of}
use Rattle.listed.specs.declared.comparison.ComparisonTold.{ComparisonTold}
use Rattle.listed.specs.Delivered.{Lays, Delivers}
use Rattle.listed.specs.Comparisons.{Comparison, comparison_by, comparison_bytes, comparison_told, verdict, tabled, explained, build}
use Rattle.listed.specs.Comparisons.{ComparisonCounted, taken_bytes, explained_bytes, Explains, against, builds, comparison}
use Rattle.listed.proofs.Laying.{delivers, delivers-none}
use Rattle.refusal.proofs.Following.{one_value, first-refused}
use Rattle.refusal.specs.Sizes.{file_limit}
use Rattle.table.proofs.Taken.{rows_taken, rows_inside}
use Rattle.conform.proofs.Found.{Found, many-imports, many-exports}

export-wide : (e : Entry ExportKey) → length (export_diff_cells e) ≡ width 8
export-wide e = refl

need-wide : (e : Entry Need) → length (need_diff_cells e) ≡ width 9
need-wide e = refl

-- ---- lists of differences that were made, in tables at the limits
pub record ListsFound (x : Said Lists) (xd cd : List ℕ) (m n : ℕ) (fine : Bool) : Type 0 where
  pub what : Lists
  pub first : x ≡ accepted what
  pub is : verdict m n fine ≡ verdict_on what
  pub held8 : xd ≡ laid (full_cells 8) (cells export_diff_cells what.exports)
  pub held9 : cd ≡ laid (full_cells 9) (cells need_diff_cells what.needs)

rooms : (b c : Given) → compared b c (capacity_in 8 (full_cells 8)) (capacity_in 9 (full_cells 9)) ≡ compared b c (limit 8) (limit 9)
unfolding capacity_of
rooms b c = refl

module _ (b c : Given) {xd0 xd cd0 cd : List ℕ} (r : Result code.Lists Refusal) (long8 : length xd0 ≡ full_cells 8)
    (long9 : length cd0 ≡ full_cells 9)
    (h : Compares (compared b c (capacity_in 8 (length xd0)) (capacity_in 9 (length cd0))) xd0 xd cd0 cd (said_compared r)) where
  same : compared b c (capacity_in 8 (length xd0)) (capacity_in 9 (length cd0)) ≡ compared b c (limit 8) (limit 9)
  same =
      ap (λ (n : ℕ). compared b c (capacity_in 8 n) (capacity_in 9 (length cd0))) long8
      ∙ ap (λ (n : ℕ). compared b c (capacity_in 8 (full_cells 8)) (capacity_in 9 n)) long9
      ∙ rooms b c

  answer : said_compared r ≡ follow (compared b c (limit 8) (limit 9)) (λ l. accepted (verdict_on l))
  answer = h.answer-is ∙ ap (λ (y : Said Lists). follow y (λ l. accepted (verdict_on l))) same

  pub lists-refused : {why : Refusal} → r ≡ Err why → compared b c (limit 8) (limit 9) ≡ refused_by why
  lists-refused e = first-refused (compared b c (limit 8) (limit 9)) verdict_on (sym answer ∙ ap said_compared e)

  pub lists-found : {l : code.Lists} → r ≡ Ok l
      → ListsFound (compared b c (limit 8) (limit 9)) xd cd l.exports l.capabilities l.compatible
  lists-found {l} e =
      let f = followed (compared b c (limit 8) (limit 9)) (λ l. accepted (verdict_on l)) (sym answer ∙ ap said_compared e) in
      record {
        what = f.what;
        first = f.first;
        is = one_value (sym f.then);
        held8 = h.table8-is
            ∙ ap (λ (y : Said Lists). laid (length xd0) (cells export_diff_cells (listed y).exports)) (same ∙ f.first)
            ∙ ap (λ (k : ℕ). laid k (cells export_diff_cells f.what.exports)) long8;
        held9 = h.table9-is
            ∙ ap (λ (y : Said Lists). laid (length cd0) (cells need_diff_cells (listed y).needs)) (same ∙ f.first)
            ∙ ap (λ (k : ℕ). laid k (cells need_diff_cells f.what.needs)) long9;
      }

module _ {x : Said Lists} {xd cd : List ℕ} {m n : ℕ} {fine : Bool} (q : ListsFound x xd cd m n fine) where
  many8 : m ≡ length q.what.exports
  unfolding verdict_on
  many8 = ap (λ (v : Verdict). v.exports) q.is

  many9 : n ≡ length q.what.needs
  unfolding verdict_on
  many9 = ap (λ (v : Verdict). v.capabilities) q.is

  pub lists-counted : length xd ≤ full_cells 8 → length cd ≤ full_cells 9 → ComparisonCounted m n xd cd
  lists-counted a b =
      record {
        exports-in = rows_inside export_diff_cells (width 8) export-wide (full_cells 8) q.what.exports q.held8 many8;
        needs-in = rows_inside need_diff_cells (width 9) need-wide (full_cells 9) q.what.needs q.held9 many9;
        exports-few = a;
        needs-few = b;
      }

  -- the tables are those of the lists
  same_tables : diffs xd m cd n ≡ tabled q.what
  same_tables =
      let l = q.what in
      ap (λ (t : List ℕ). diffs t m cd n) q.held8
      ∙ ap (λ (k : ℕ). diffs (tabled l).exports k cd n) many8
      ∙ ap (λ (t : List ℕ). diffs (tabled l).exports (length l.exports) t n) q.held9
      ∙ ap (λ (k : ℕ). diffs (tabled l).exports (length l.exports) (tabled l).needs k) many9

same_bytes : (l : Lists) → taken_bytes (tabled l) ≡ cell_bytes (cells export_diff_cells l.exports ++ cells need_diff_cells l.needs)
same_bytes l =
    ap (λ (k : List ℕ). cell_bytes (k ++ take (length l.needs * width 9) (tabled l).needs))
    (rows_taken export_diff_cells (width 8) export-wide (full_cells 8) l.exports refl refl)
    ∙ ap (λ (k : List ℕ). cell_bytes (cells export_diff_cells l.exports ++ k))
    (rows_taken need_diff_cells (width 9) need-wide (full_cells 9) l.needs refl refl)

pub explained-none : (b c : Given) {n : ℕ} {p : Place} → compared b c (limit 8) (limit 9) ≡ refused n p → explained b c ≡ refused n p
unfolding explained
explained-none b c e = sym (follow-stops _ e)

-- lists that were made, and what is told of their tables
module _ (b c : Given) (l : Lists) (first : compared b c (limit 8) (limit 9) ≡ accepted l) {d y : List ℕ} {r : ComparisonTold}
    (k : Explains b c (tabled l) (verdict_on l).compatible d r y) where
  abbrev text : List ℕ
  text = reasons_of b c (tabled l)

  abbrev by-lists : Said ℕ → ComparisonTold
  by-lists = comparison_by (verdict_on l) (length text)

  lists-told : Delivers comparison_bytes comparison_told (explained b c) d r y
  unfolding explained explained_bytes comparison_bytes verdict_on
  lists-told = by (reasons_tested b c (tabled l)) refl
    where
      by : (t : Said (Unit {0})) → reasons_tested b c (tabled l) ≡ t → Delivers comparison_bytes comparison_told (explained b c) d r y
      by (accepted u) e =
          let o : explained_bytes b c (tabled l) (length d) ≡ room_for (taken_bytes (tabled l) ++ text) (length d) =
          sym (follow-goes _ e refl) in
          delivers comparison_bytes comparison_told by-lists (record { lists = l; reasons = text })
          (sym (follow-goes _ first (follow-goes _ e refl))) refl (λ n p. refl)
          (rw (← same_bytes l) (subst (λ (z : Said (List ℕ)). Lays by-lists z d r y) o k))
      by (refused n p) e =
          let o : explained_bytes b c (tabled l) (length d) ≡ refused n p = sym (follow-stops _ e) in
          let h : Lays by-lists (refused n p) d r y = subst (λ (z : Said (List ℕ)). Lays by-lists z d r y) o k in
          subst (λ (z : List ℕ). Delivers comparison_bytes comparison_told (explained b c) d r z) (sym h.output-is)
          (delivers-none comparison_bytes comparison_told (sym (follow-goes _ first (follow-stops _ e))) h.answer-is)

pub lists-delivered : (b c : Given) {xd cd : List ℕ} {m n : ℕ} {fine : Bool}
    (q : ListsFound (compared b c (limit 8) (limit 9)) xd cd m n fine)
    {d y : List ℕ} {r : ComparisonTold} → Explains b c (diffs xd m cd n) fine d r y
    → Delivers comparison_bytes comparison_told (explained b c) d r y
lists-delivered b c {xd} {cd} {m} {n} {fine} q {d} {y} {r} k =
    lists-told b c q.what q.first
    (subst (λ (t : Bool). Explains b c (tabled q.what) t d r y) (ap (λ (v : Verdict). v.compatible) q.is)
    (subst (λ (t : Diffs). Explains b c t fine d r y) (same_tables q) k))

-- ---- files that were read
-- what the read left is the build
build-is : {file : List ℕ} {l : Lent} {m : Module} (q : Found file limits l m)
    → given file l.imports m.imports l.exports m.exports ≡ build file q.what
build-is {file} {l} {m} q =
    ap (λ (t : List ℕ). given file t m.imports l.exports m.exports) q.held.imports-are
    ∙ ap (λ (k : ℕ). given file (build file q.what).imports k l.exports m.exports) (many-imports q)
    ∙ ap (λ (t : List ℕ). given file (build file q.what).imports (build file q.what).import_count t m.exports)
    q.held.exports-are
    ∙ ap (λ (k : ℕ). given file (build file q.what).imports (build file q.what).import_count (build file q.what).exports k)
    (many-exports q)

module _ {d y : List ℕ} {r : ComparisonTold} where
  so : {x z : Said Comparison} → x ≡ z → Delivers comparison_bytes comparison_told x d r y
      → Delivers comparison_bytes comparison_told z d r y
  so e h = subst (λ (w : Said Comparison). Delivers comparison_bytes comparison_told w d r y) e h

  pub candidate-read : (b : Given) {file : List ℕ} {l : Lent} {m : Module} → Found file limits l m
      → Delivers comparison_bytes comparison_told
      (explained b (given file l.imports m.imports l.exports m.exports)) d r y
      → Delivers comparison_bytes comparison_told (against b file) d r y
  unfolding against
  candidate-read b q h = so (follow-goes _ q.first (ap (λ (c : Given). explained b c) (build-is q))) h

  pub baseline-read : (candidate : List ℕ) {file : List ℕ} {l : Lent} {m : Module} → Found file limits l m
      → Delivers comparison_bytes comparison_told (against (given file l.imports m.imports l.exports m.exports) candidate) d r y
      → Delivers comparison_bytes comparison_told (builds file candidate) d r y
  unfolding builds
  baseline-read candidate q h = so (follow-goes _ q.first (ap (λ (b : Given). against b candidate) (build-is q))) h

  pub builds-read : (b c : List ℕ) → length b ≤ file_limit → length c ≤ file_limit
      → Delivers comparison_bytes comparison_told (builds b c) d r y → Delivers comparison_bytes comparison_told (comparison b c) d r y
  unfolding comparison
  builds-read b c h k q = rw (le-ltb file_limit (length b) h, le-ltb file_limit (length c) k) q

pub candidate-stops : (b : Given) (file : List ℕ) {n : ℕ} {p : Place} → module_at file limits ≡ refused n p → against b file ≡ refused n p
unfolding against
candidate-stops b file e = sym (follow-stops _ e)

pub baseline-stops : (file candidate : List ℕ) {n : ℕ} {p : Place} → module_at file limits ≡ refused n p
    → builds file candidate ≡ refused n p
unfolding builds
baseline-stops file candidate e = sym (follow-stops _ e)

baseline-long : (b c : List ℕ) → file_limit < length b → comparison b c ≡ refused 14 (spot 0)
unfolding comparison
baseline-long b c h = rw (lt-ltb file_limit (length b) h)

candidate-long : (b c : List ℕ) → length b ≤ file_limit → file_limit < length c → comparison b c ≡ refused 14 (spot 0)
unfolding comparison
candidate-long b c h k = rw (le-ltb file_limit (length b) h, lt-ltb file_limit (length c) k)

pub either-long : (b c : List ℕ) → (file_limit < length b) ⊎ ((length b ≤ file_limit) × (file_limit < length c))
    → comparison b c ≡ refused 14 (spot 0)
either-long b c (inl h) = baseline-long b c h
either-long b c (inr h) = candidate-long b c h.0 h.1
