-- 14 and 15 of two modules, by what the calls say. Assumes nothing.
use mathlib.Core.Path.{◌≡◌, refl}
use mathlib.Core.Bool.{Bool, true, false}
use Prim.Native.Nat.{ℕ, ◌≤◌, ◌<◌}
use borrow.Author.Tests.{ltb-false, lt-ltb, le-ltb}
use lib.Dec.{ltb}
use lib.ListN.{length}
use Rattle.refusal.specs.Pick.{pick}
use Rattle.refusal.specs.Sizes.{file_limit}
use Rattle.refusal.specs.Said.{accepted, refused, follow, spot, Place}
use Rattle.refusal.proofs.Following.{never, followed}
use Rattle.import_rows.specs.Queries.{imports_tested}
use Rattle.differences.specs.Compared.{Given, exports_tested, tables_tested, both_tested, Good}

-- ---- 15
module _ (g : Given) where
  pub tables-bad : {n : ℕ} {p : Place} → imports_tested (length g.file) g.imports g.import_count ≡ refused n p
      → refused n p ≡ tables_tested g
  unfolding tables_tested follow
  tables-bad e = rw e

  pub tables-next : {u : Unit {0}} → imports_tested (length g.file) g.imports g.import_count ≡ accepted u
      → exports_tested (length g.file) g.exports g.export_count ≡ tables_tested g
  unfolding tables_tested follow
  tables-next e = rw e

  good_of : tables_tested g ≡ accepted tt → Good g
  unfolding tables_tested
  good_of e = let f = followed _ _ e in record { imports-good = f.first; exports-good = f.then }

-- ---- 14, then 15
module _ (b c : Given) where
  pub first-long : file_limit < length b.file → refused 14 (spot 0) ≡ both_tested b c
  unfolding both_tested
  first-long h = rw (lt-ltb file_limit (length b.file) h)

  module _ (h : length b.file ≤ file_limit) where
    pub second-long : file_limit < length c.file → refused 14 (spot 0) ≡ both_tested b c
    unfolding both_tested
    second-long k = rw (le-ltb file_limit (length b.file) h, lt-ltb file_limit (length c.file) k)

    module _ (k : length c.file ≤ file_limit) where
      pub first-bad : {n : ℕ} {p : Place} → tables_tested b ≡ refused n p → refused n p ≡ both_tested b c
      unfolding both_tested follow
      first-bad e = rw (le-ltb file_limit (length b.file) h, le-ltb file_limit (length c.file) k, e)

      pub second-next : {u : Unit {0}} → tables_tested b ≡ accepted u → tables_tested c ≡ both_tested b c
      unfolding both_tested follow
      second-next e = rw (le-ltb file_limit (length b.file) h, le-ltb file_limit (length c.file) k, e)

  pub both-good : both_tested b c ≡ accepted tt → Good b × Good c
  unfolding both_tested
  both-good e = by (ltb file_limit (length b.file)) (ltb file_limit (length c.file)) e
    where
      by : (s t : Bool)
          → pick s (refused 14 (spot 0)) (pick t (refused 14 (spot 0)) (follow (tables_tested b) (λ u. tables_tested c))) ≡ accepted tt
          → Good b × Good c
      by true t q = absurd (never q)
      by false true q = absurd (never q)
      by false false q = let f = followed (tables_tested b) (λ u. tables_tested c) q in (good_of b f.first, good_of c f.then)

  -- neither file is too long
  pub both-short : both_tested b c ≡ accepted tt → (length b.file ≤ file_limit) × (length c.file ≤ file_limit)
  unfolding both_tested
  both-short e = by (ltb file_limit (length b.file)) refl (ltb file_limit (length c.file)) refl e
    where
      by : (s : Bool) → ltb file_limit (length b.file) ≡ s → (t : Bool) → ltb file_limit (length c.file) ≡ t
          → pick s (refused 14 (spot 0)) (pick t (refused 14 (spot 0)) (follow (tables_tested b) (λ u. tables_tested c))) ≡ accepted tt
          → (length b.file ≤ file_limit) × (length c.file ≤ file_limit)
      by true p t q e = absurd (never e)
      by false p true q e = absurd (never e)
      by false p false q e = (ltb-false file_limit (length b.file) p, ltb-false file_limit (length c.file) q)
