-- Two modules, each with another table 2 that passes 15 and has the same names and kinds: what the calls on both answer. Assumes nothing.
use mathlib.Core.Path.{◌≡◌, refl, ◌∙◌, ap}
use mathlib.Core.Bool.{Bool, true, false}
use mathlib.Core.List.{List, [], ◌++◌}
use Prim.Native.Nat.{ℕ, ◌+◌}
use native.Mathlib.Omega.{arith}
use lib.Dec.{ltb, eqb, leb}
use lib.ListN.{length, take, drop}
use borrow.Author.Tests.{ltb-true}
use Rattle.refusal.specs.Pick.{pick, both}
use Rattle.refusal.specs.Sizes.{file_limit}
use Rattle.refusal.specs.Said.{Said, accepted, refused, follow, spot}
use Rattle.refusal.proofs.Following.{followed}
use Rattle.table.specs.Table.{inside}
use Rattle.table.specs.Shape.{width, limit, capacity_in, cell_in}
use Rattle.table.specs.Testing.{bad}
use Rattle.sorting.specs.Keys.{row_name}
use Rattle.differences.specs.declared.Change.{Change}
use Rattle.differences.specs.declared.Change.TheVariants.{Removed, Added}
use Rattle.differences.specs.Compared.{Given, viewed, lists, tables_tested, both_tested, roomed, compared}
use Rattle.differences.specs.Part.{there, diff_bytes_at, block_at, offset_at, diff_bytes, diff_block, diff_offset}
use Rattle.differences.proofs.Tests.{never-false, tested-all}
use Rattle.reasons.specs.Reasons.{Diffs, need_reason, need_row, reasons_of, need_diff_fits, need_diffs_tested, diffs_tested, reasons_tested}
use Rattle.reasons.specs.Reasons.{reasoned, reasoned_from, export_reasons, need_reasons}
use Rattle.output.specs.Bytes.{room_for, room_from}
use Rattle.blind.specs.Claims.{AlikeNames, Unseen, over, SamePairs, SameRoom, SameSources}
use Rattle.blind.proofs.Lists.{lines-agree, follow-agree}
use Rattle.blind.proofs.Tables.{source-same, same_rows}

module _ (g : Given) (t : List ℕ) (unseen : Unseen g.file g.imports t g.import_count) where
  tested-same : tables_tested g ≡ tables_tested (over g t)
  unfolding tables_tested follow
  tested-same = rw (unseen.first, unseen.second)

  view-same : viewed g ≡ viewed (over g t)
  view-same = (same_rows g.file g.imports t g.import_count unseen.names).views g.exports g.export_count

-- ---- the row of table 9 that a line names lies below the candidate's count
second : (a b : Bool) → pick (both a b) false true ≡ false → b ≡ true
second true true e = refl
second true false e = absurd (never-false e)
second false b e = absurd (never-false e)

module _ (file t u : List ℕ) (nb nc : ℕ) (alike : AlikeNames t u nc) (cd : List ℕ) where
  row_same : (i : ℕ) → bad (need_diff_fits nb nc cd) i ≡ false → need_row file t cd i ≡ need_row file u cd i
  unfolding need_row need_diff_fits
  row_same i e = by (eqb (cell_in 9 cd i 0) 0) e
    where
      by : (gone : Bool) → pick (both (leb (cell_in 9 cd i 1) 6) (ltb (cell_in 9 cd i 2) (pick gone nb nc))) false true ≡ false
          → pick gone [] (need_reason (cell_in 9 cd i 1) (row_name file t (width 2) 0 1 (cell_in 9 cd i 2)))
          ≡ pick gone [] (need_reason (cell_in 9 cd i 1) (row_name file u (width 2) 0 1 (cell_in 9 cd i 2)))
      by true r = refl
      by false r =
          ap (need_reason (cell_in 9 cd i 1))
          (source-same file t u nc alike (cell_in 9 cd i 2) (ltb-true (cell_in 9 cd i 2) nc (second (leb (cell_in 9 cd i 1) 6) _ r)))

  lines_same : (n : ℕ) → need_diffs_tested nb nc cd n ≡ accepted tt → need_reasons file t cd n ≡ need_reasons file u cd n
  unfolding need_diffs_tested
  lines_same n e =
      let all = tested-all (capacity_in 9 (length cd)) n (bad (need_diff_fits nb nc cd)) e in
      lines-agree (need_row file t cd) (need_row file u cd) n (λ i h. row_same i (all.1 i h))

module _ (b c : Given) (t u : List ℕ) (ub : Unseen b.file b.imports t b.import_count)
    (uc : Unseen c.file c.imports u c.import_count) where
  compares-same : (room8 room9 : ℕ) → compared b c room8 room9 ≡ compared (over b t) (over c u) room8 room9
  unfolding compared
  compares-same room8 room9 =
      rw (tested-same b t ub, tested-same c u uc)
      (λ z. pick (ltb file_limit (length b.file)) (refused 14 (spot 0))
      (pick (ltb file_limit (length c.file)) (refused 14 (spot 0))
      (follow (tables_tested (over b t))
      (λ v. follow (tables_tested (over c u)) (λ w. roomed room8 room9 (lists (view-same b t ub z) (view-same c u uc z)))))))

  module _ (d : Diffs) where
    reasons-tested : reasons_tested b c d ≡ reasons_tested (over b t) (over c u) d
    unfolding reasons_tested both_tested
    reasons-tested = rw (tested-same b t ub, tested-same c u uc)

    reasons-same : {v : Unit {0}} → reasons_tested (over b t) (over c u) d ≡ accepted v → reasons_of b c d ≡ reasons_of (over b t) (over c u) d
    unfolding reasons_tested diffs_tested reasons_of
    reasons-same e =
        let q = followed _ _ (followed _ _ e).then in
        ap (λ (l : List ℕ). export_reasons b.file b.exports d.exports d.export_count ++ l)
        (lines_same c.file c.imports u b.import_count c.import_count uc.names d.needs d.need_count q.then)

    told_same : (f : List ℕ → Said (List ℕ)) → follow (reasons_tested b c d) (λ v. f (reasons_of b c d))
        ≡ follow (reasons_tested (over b t) (over c u) d) (λ v. f (reasons_of (over b t) (over c u) d))
    told_same f =
        ap (λ (x : Said (Unit {0})). follow x (λ v. f (reasons_of b c d))) reasons-tested
        ∙ follow-agree (reasons_tested (over b t) (over c u) d) _ _ (λ v e. ap f (reasons-same e))

pub same-pairs : SamePairs
unfolding reasoned reasoned_from
same-pairs b c t u ub uc =
    record {
      compares = compares-same b c t u ub uc;
      reasons = λ d room. told_same b c t u ub uc d (λ l. room_for l room);
      reasons-from = λ at d room. told_same b c t u ub uc d (λ l. room_from at l room);
    }

-- ---- the bytes of a difference, and where they start
module _ (file t u : List ℕ) (n : ℕ) (alike : AlikeNames t u n) (room : SameRoom t u n) (i : ℕ) where
  part_same : {A : Type 0} (f : ℕ → ℕ → A) (d : A)
      → pick (there file (width 2) (limit 2) t n i) (f (cell_in 2 t i 0) (cell_in 2 t i 1)) d
      ≡ pick (there file (width 2) (limit 2) u n i) (f (cell_in 2 u i 0) (cell_in 2 u i 1)) d
  unfolding there
  part_same f d = by (ltb i n) refl
    where
      by : (k : Bool) → ltb i n ≡ k
          → pick (both k (both (ltb i (capacity_in 2 (length t))) (inside file (cell_in 2 t i 0) (cell_in 2 t i 1))))
          (f (cell_in 2 t i 0) (cell_in 2 t i 1)) d
          ≡ pick (both k (both (ltb i (capacity_in 2 (length u))) (inside file (cell_in 2 u i 0) (cell_in 2 u i 1))))
          (f (cell_in 2 u i 0) (cell_in 2 u i 1)) d
      by false e = refl
      by true e =
          let h = ltb-true i n e in
          rw (room i h, alike i 0 h (omega arith), alike i 1 h (omega arith))

pub same-sources : SameSources
unfolding diff_bytes_at block_at offset_at
same-sources b bt bu nb c ct cu nc ab rb ac rc = record { bytes = bytes; blocks = blocks; offsets = offsets }
  where
    bytes : (h : Change) (i : ℕ) → diff_bytes b bt nb c ct nc 2 h i ≡ diff_bytes b bu nb c cu nc 2 h i
    bytes Removed i = part_same b bt bu nb ab rb i (λ from len. take len (drop from b)) []
    bytes Added i = part_same c ct cu nc ac rc i (λ from len. take len (drop from c)) []

    blocks : (h : Change) (i x y : ℕ) → diff_block b bt nb c ct nc 2 h i x y ≡ diff_block b bu nb c cu nc 2 h i x y
    blocks Removed i x y = part_same b bt bu nb ab rb i (λ from len. x) x
    blocks Added i x y = part_same c ct cu nc ac rc i (λ from len. y) x

    offsets : (h : Change) (i x y : ℕ) → diff_offset b bt nb c ct nc 2 h i x y ≡ diff_offset b bu nb c cu nc 2 h i x y
    offsets Removed i x y = part_same b bt bu nb ab rb i (λ from len. x + from) x
    offsets Added i x y = part_same c ct cu nc ac rc i (λ from len. y + from) x
