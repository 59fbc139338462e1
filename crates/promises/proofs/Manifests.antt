-- What the manifest reader leaves never gives 15. Assumes nothing.
use Rattle.std.specs.Prelude.{Option, Some, None}
use Prim.Native.Nat.{ℕ, zero, suc, ◌+◌, ◌≤◌, ◌<◌}
use native.Mathlib.Omega.{arith}
use mathlib.Core.Path.{◌≡◌, refl, sym, ◌∙◌, subst}
use mathlib.Core.Bool.{Bool, true, false}
use mathlib.Core.List.{List, [], ◌∷◌}
use lib.ListN.{length, get_or}
use borrow.Author.Tests.{le-leb, lt-ltb}
use Rattle.refusal.specs.Said.{accepted}
use Rattle.refusal.specs.declared.Part.{Part}
use Rattle.refusal.proofs.Following.{followed, follow-goes}
use Rattle.table.specs.Table.{cells, laid, capacity_of}
use Rattle.table.specs.Shape.{width, limit, cell_in}
use Rattle.table.specs.Testing.{bad, first_from, tested}
use Rattle.table.proofs.Cells.{row-starts}
use Rattle.table.proofs.Laws.{length-laid, length-cells, cell-laid}
use Rattle.table.proofs.Testing.{tested-rows}
use Rattle.refusal.specs.Each.{Each, each_nil, each-cons}
use Rattle.text.specs.Whole.{whole_text}
use Rattle.wit.specs.Shapes.{Reference}
use Rattle.wit.specs.Line.{range_in}
use Rattle.wit.specs.Manifest.{State, ManifestSizes, ManifestLent, ManifestHolds, world_cells, reference_cells, manifest_at}
use Rattle.wit.specs.Sound.{MarkClean, WorldOk, ReferenceOk, ManifestOk}
use Rattle.wit.proofs.Sound.{rows-sound}
use Rattle.reference_rows.specs.Queries.{range_fits, world_fits, worlds_tested, reference_fits, references_tested, manifest_tested}
use Rattle.promises.specs.Manifests.{NeverBad}

-- ---- no each-cons is bad
first-none : (test : ℕ → Bool) (i k : ℕ) → ((j : ℕ) → j < i + k → test j ≡ false) → first_from test i k ≡ accepted tt
unfolding first_from
first-none test i zero h = refl
first-none test i (suc k) h = rw (h i (omega arith)) (first-none test (i + 1) k (λ j b. h j (omega arith)))

each_at : {E : Type 0} {P : E → Type 0} (es : List E) (i : ℕ) (d : E) → i < length es → Each P es → P (get_or es i d)
each_at [] i d h each_nil = absurd (omega arith)
each_at (x ∷ es) zero d h (each-cons p a) = p
each_at (x ∷ es) (suc i) d h (each-cons p a) = each_at es i d (omega arith) a

-- a table that holds so many rows as it takes, each of them good
module _ {R : Type 0} (f : R → List ℕ) (w limit : ℕ) (wide : (r : R) → length (f r) ≡ w) (n : ℕ) (rows : List R)
    (few : length rows ≤ capacity_of n w limit) where
  long : length (laid n (cells f rows)) ≡ n
  unfolding capacity_of
  long = length-laid n (cells f rows) (omega (arith, length-cells f w wide rows, row-starts n w (length rows) (omega arith)))

  all-good : (test : ℕ → Bool) → ((i : ℕ) → i < length rows → test i ≡ true)
      → tested (capacity_of (length (laid n (cells f rows))) w limit) (length rows) (bad test) ≡ accepted tt
  all-good test h =
      let m = subst (λ (x : ℕ). length rows ≤ capacity_of x w limit) (sym long) few in
      tested-rows _ _ (bad test) m ∙ first-none (bad test) 0 (length rows) (λ j b. let e = h j (omega arith) in rw e)

-- ---- table 5
world-wide : (r : Part) → length (world_cells r) ≡ width 5
unfolding world_cells
world-wide r = refl

no_part : Part
no_part = record { from = 0; len = 0 }

world-good : (s : List ℕ) (n : ℕ) (rows : List Part) → Each (WorldOk s) rows → (i : ℕ) → i < length rows
    → world_fits (length s) (laid n (cells world_cells rows)) i ≡ true
unfolding range_fits world_cells
world-good s n rows ok i h =
    let r = get_or rows i no_part in
    let o = each_at rows i no_part h ok in
    let a : cell_in 5 (laid n (cells world_cells rows)) i 0 ≡ r.from =
    cell-laid world_cells (width 5) world-wide n rows i 0 no_part h (omega arith) in
    let b : cell_in 5 (laid n (cells world_cells rows)) i 1 ≡ r.len =
    cell-laid world_cells (width 5) world-wide n rows i 1 no_part h (omega arith) in
    rw (a, b) (le-leb (r.from + r.len) (length s) o.name-clean.in-text)

-- ---- table 6
reference-wide : (r : Reference) → length (reference_cells r) ≡ width 6
unfolding reference_cells
reference-wide r = refl

no_reference : Reference
no_reference = record { world = 0; export = false; path = no_part; signature = None }

mark-in : (s : List ℕ) (m : Option Part) → MarkClean s m → (range_in m).from + (range_in m).len ≤ length s
mark-in s None c = omega arith
mark-in s (Some p) c = (c.present p refl).in-text

reference-good : (s : List ℕ) (n worlds : ℕ) (rows : List Reference) → Each (ReferenceOk s worlds) rows → (i : ℕ) → i < length rows
    → reference_fits (length s) worlds (laid n (cells reference_cells rows)) i ≡ true
unfolding reference_fits range_fits reference_cells
reference-good s n worlds rows ok i h =
    let r = get_or rows i no_reference in
    let o = each_at rows i no_reference h ok in
    let at : (j : ℕ) → j < width 6 → cell_in 6 (laid n (cells reference_cells rows)) i j ≡ get_or (reference_cells r) j 0 =
    λ j k. cell-laid reference_cells (width 6) reference-wide n rows i j no_reference h k in
    let a : cell_in 6 (laid n (cells reference_cells rows)) i 0 ≡ r.world = at 0 (omega arith) in
    let b : cell_in 6 (laid n (cells reference_cells rows)) i 2 ≡ r.path.from = at 2 (omega arith) in
    let c : cell_in 6 (laid n (cells reference_cells rows)) i 3 ≡ r.path.len = at 3 (omega arith) in
    let d : cell_in 6 (laid n (cells reference_cells rows)) i 5 ≡ (range_in r.signature).from = at 5 (omega arith) in
    let e : cell_in 6 (laid n (cells reference_cells rows)) i 6 ≡ (range_in r.signature).len = at 6 (omega arith) in
    rw (
      a,
      b,
      c,
      d,
      e,
      lt-ltb r.world worlds o.world-in,
      le-leb (r.path.from + r.path.len) (length s) o.path-clean.in-text,
      le-leb ((range_in r.signature).from + (range_in r.signature).len) (length s) (mark-in s r.signature o.signature-clean),
    )

-- ---- both
whole-good : (s : List ℕ) (z : ManifestSizes) (t : State) → manifest_at s z ≡ accepted t → whole_text s ≡ accepted tt
unfolding manifest_at
whole-good s z t e = let f = followed (whole_text s) _ e in f.first

module _ (s : List ℕ) (z : ManifestSizes) (t : State) (l : ManifestLent) (o : ManifestOk s z t) (h : ManifestHolds l z t) where
  worlds-good : worlds_tested (length s) l.worlds (length t.worlds) ≡ accepted tt
  unfolding worlds_tested
  worlds-good =
      rw h.worlds-are (all-good world_cells (width 5) (limit 5) world-wide z.worlds t.worlds o.worlds-few
      (world_fits (length s) (laid z.worlds (cells world_cells t.worlds))) (world-good s z.worlds t.worlds o.worlds-ok))

  references-good : references_tested (length s) (length t.worlds) l.references (length t.references) ≡ accepted tt
  unfolding references_tested
  references-good =
      rw h.references-are (all-good reference_cells (width 6) (limit 6) reference-wide z.references t.references o.references-few
      (reference_fits (length s) (length t.worlds) (laid z.references (cells reference_cells t.references)))
      (reference-good s z.references (length t.worlds) t.references o.references-ok))

pub never-bad : NeverBad
unfolding manifest_tested
never-bad s z t l e h =
    let o = rows-sound s z t e in
    sym (follow-goes _ (whole-good s z t e) (follow-goes _ (worlds-good s z t l o h) (sym (references-good s z t l o h))))
