-- No definition that a call tells says 3, a law for each: manifests, comparisons, and what is delivered. Assumes nothing.
use Prim.Native.Nat.{ℕ}
use mathlib.Core.Path.{◌≡◌, refl}
use mathlib.Core.Bool.{Bool, true, false}
use mathlib.Core.List.{List}
use lib.Dec.{eqb, ltb, leb}
use lib.ListN.{length}
use Rattle.refusal.specs.Sizes.{file_limit}
use Rattle.refusal.specs.Said.{Said, spot}
use Rattle.text.specs.Whole.{whole_text}
use Rattle.table.specs.Entries.{finished}
use Rattle.table.proofs.Numbers.{fine, off, choice, follows}
use Rattle.wasm.specs.Module.{module_at}
use Rattle.conform.specs.Sound.{limits}
use Rattle.wit.specs.Manifest.{ManifestSizes, manifest_at}
use Rattle.wit.proofs.Numbers.{manifest-numbers}
use Rattle.reference_rows.specs.Queries.{worlds_tested, references_tested, manifest_tested, paths_of}
use Rattle.import_rows.specs.Queries.{imports_tested}
use Rattle.differences.specs.Compared.{Given, exports_tested, tables_tested, both_tested, roomed, compared}
use Rattle.output.specs.Bytes.{room_for}
use Rattle.reasons.specs.Reasons.{Diffs, export_diffs_tested, need_diffs_tested, diffs_tested, reasons_tested}
use Rattle.listed.specs.Delivered.{housed}
use Rattle.listed.specs.Manifests.{manifest_limits, paths_listed, manifest_listed}
use Rattle.listed.specs.Comparisons.{explained, against, builds, comparison}
use Rattle.promises.proofs.Refusals.{Spares, read, table, rows, text, room}

-- ---- manifests
reading : (s : List ℕ) (z : ManifestSizes) → Spares (manifest_at s z)
reading = manifest-numbers (λ n. eqb n 3 ≡ false) refl refl refl refl refl refl refl refl

pathing : (export : Bool) (s worlds : List ℕ) (n5 : ℕ) (references : List ℕ) (n6 k : ℕ) → Spares (paths_of export s worlds n5 references n6 k)
unfolding paths_of manifest_tested worlds_tested references_tested
pathing export s worlds n5 references n6 k =
    follows (manifest_tested s worlds n5 references n6) _
    (follows (whole_text s) _ (text s) (λ u. follows (worlds_tested (length s) worlds n5) _ (table _ _ _) (λ v. table _ _ _)))
    (λ u. rows 15 k _)

pub listing : (s : List ℕ) → Spares (manifest_listed s)
unfolding manifest_listed paths_listed
listing s =
    follows (manifest_at s manifest_limits) _ (reading s manifest_limits) (λ t.
    follows (paths_of false s _ _ _ _ _) _ (pathing false s _ _ _ _ _) (λ i.
    follows (paths_of true s _ _ _ _ _) _ (pathing true s _ _ _ _ _) (λ e. fine _)))

-- ---- comparisons
exporting : (n : ℕ) (t : List ℕ) (k : ℕ) → Spares (exports_tested n t k)
unfolding exports_tested
exporting n t k = table _ _ _

tables : (g : Given) → Spares (tables_tested g)
unfolding tables_tested imports_tested
tables g =
    follows (imports_tested (length g.file) g.imports g.import_count) _ (table _ _ _)
    (λ u. exporting (length g.file) g.exports g.export_count)

ended : {R : Type 0} (tn n : ℕ) (l : List R) → Spares (finished tn n l)
unfolding finished
ended tn n l = choice (leb (length l) n) (fine _) (off 13 (spot tn) refl)

listing-both : (b c : Given) (m n : ℕ) → Spares (compared b c m n)
unfolding compared roomed
listing-both b c m n =
    choice (ltb file_limit (length b.file)) (off 14 (spot 0) refl)
    (choice (ltb file_limit (length c.file)) (off 14 (spot 0) refl)
    (follows (tables_tested b) _ (tables b) (λ u.
    follows (tables_tested c) _ (tables c) (λ v.
    follows (finished 8 m _) _ (ended 8 m _) (λ k.
    follows (finished 9 n _) _ (ended 9 n _) (λ j. fine _))))))

reasoning : (b c : Given) (d : Diffs) → Spares (reasons_tested b c d)
unfolding reasons_tested both_tested diffs_tested export_diffs_tested need_diffs_tested
reasoning b c d =
    follows (both_tested b c) _
    (choice (ltb file_limit (length b.file)) (off 14 (spot 0) refl)
    (choice (ltb file_limit (length c.file)) (off 14 (spot 0) refl) (follows (tables_tested b) _ (tables b) (λ u. tables c))))
    (λ u. follows (export_diffs_tested b.export_count c.export_count d.exports d.export_count) _ (table _ _ _) (λ v. table _ _ _))

pub comparing : (baseline candidate : List ℕ) → Spares (comparison baseline candidate)
unfolding comparison builds against explained
comparing baseline candidate =
    choice (ltb file_limit (length baseline)) (off 14 (spot 0) refl)
    (choice (ltb file_limit (length candidate)) (off 14 (spot 0) refl)
    (follows (module_at baseline limits) _ (read baseline limits) (λ m.
    follows (module_at candidate limits) _ (read candidate limits) (λ o.
    follows (compared _ _ _ _) _ (listing-both _ _ _ _) (λ l.
    follows (reasons_tested _ _ _) _ (reasoning _ _ _) (λ u. fine _))))))

-- ---- into so much room
pub delivered : {A : Type 0} (bytes : A → List ℕ) (n : ℕ) (x : Said A) → Spares x → Spares (housed bytes n x)
unfolding housed
delivered bytes n x h = follows x _ h (λ v. follows (room_for (bytes v) n) _ (room (bytes v) n) (λ w. fine _))
