-- A strict read: the plain one, then the rules of the rows that it left. Assumes nothing.
use Prim.Native.Nat.{ℕ, zero, suc, ◌≤◌}
use native.Mathlib.Omega.{arith}
use mathlib.Core.Path.{◌≡◌, refl, sym, ◌∙◌, ap, subst}
use mathlib.Core.Bool.{Bool, true, false}
use mathlib.Core.List.{List, [], ◌∷◌, ◌++◌}
use borrow.Author.Tests.{ltb-true}
use lib.ListN.{length, length-append}
use lib.Dec.{eqb, ltb}
use Rattle.std.specs.Prelude.{Result, Ok, Err}
use Rattle.std.specs.Result.{IsErrAnd}
use Rattle.refusal.specs.Pick.{pick}
use Rattle.refusal.specs.Sizes.{file_limit}
use Rattle.refusal.specs.Said.{Said, accepted, refused, refused_by, relocated, follow, Got, got, spot}
use Rattle.refusal.specs.declared.Refusal.{Refusal}
use Rattle.refusal.proofs.Following.{Followed, followed, first-refused, one_value, relocated-got}
use Rattle.table.specs.Table.{laid, cells}
use Rattle.table.specs.Shape.{width, limit, capacity_in}
use Rattle.table.specs.Entries.{entries_from}
use Rattle.table.specs.Walking.{walk_from}
use Rattle.table.proofs.Cells.{capacity-limit}
use Rattle.table.proofs.Giving.{Gives, Of, gives-done, gives-stop, gives-pick, gives-onward, gives-from}
use Rattle.leb.specs.Reads.{byte_at, u32_at, counted_at, part_bytes}
use Rattle.wasm.specs.declared.Module.{Module}
use Rattle.wasm.specs.Entry.{export_at}
use Rattle.wasm.specs.Rows.{export_cells, imports_of, exports_of}
use Rattle.wasm.specs.Custom.{custom_at}
use Rattle.wasm.specs.Module.{Tables, Sizes, Inner, Parsed, Lent, Holds, no_tables, counts_of, module_of, tables_of, said_module, ModuleIs}
use Rattle.wasm.specs.Module.{contents_at, add_section, section_at, section_cells, header_at, module_at}
use Rattle.strict.specs.declared.again.Marks.{Marks}
use Rattle.strict.specs.declared.rules.Rule.{Rule}
use Rattle.strict.specs.declared.rules.Rule.TheVariants.{Version, ShortNumbers, KnownSections, SectionOrder, UsedSections}
use Rattle.strict.specs.declared.rules.Rule.TheVariants.{DifferentNames, KnownExports, PlainFlags}
use Rattle.strict.specs.Again.{marks_at}
use Rattle.strict.specs.Rules.{ids_of, kinds_of, export_names, broken, broken_in, lowest_of, number_of_rule, strict_at, Judged}
use Rattle.strict.specs.Claims.{Walked}
use Rattle.strict.proofs.Ruling.{ids-rows, names-rows, kinds-rows}
use Rattle.strict.proofs.Strictly.{walks-again, clean-strict, broken-refused}

-- ---- the lowest rule
module _ (a b c d e f g h : Bool) where
  pub lowest-1 : a ≡ false → 1 ≡ lowest_of a b c d e f g h
  unfolding lowest_of
  lowest-1 q = rw q

  module _ (r1 : a ≡ true) where
    pub lowest-2 : b ≡ false → 2 ≡ lowest_of a b c d e f g h
    unfolding lowest_of
    lowest-2 q = rw (r1, q)

    module _ (r2 : b ≡ true) where
      pub lowest-3 : c ≡ false → 3 ≡ lowest_of a b c d e f g h
      unfolding lowest_of
      lowest-3 q = rw (r1, r2, q)

      module _ (r3 : c ≡ true) where
        pub lowest-4 : d ≡ false → 4 ≡ lowest_of a b c d e f g h
        unfolding lowest_of
        lowest-4 q = rw (r1, r2, r3, q)

        module _ (r4 : d ≡ true) where
          pub lowest-5 : e ≡ false → 5 ≡ lowest_of a b c d e f g h
          unfolding lowest_of
          lowest-5 q = rw (r1, r2, r3, r4, q)

          module _ (r5 : e ≡ true) where
            pub lowest-6 : f ≡ false → 6 ≡ lowest_of a b c d e f g h
            unfolding lowest_of
            lowest-6 q = rw (r1, r2, r3, r4, r5, q)

            module _ (r6 : f ≡ true) where
              pub lowest-7 : g ≡ false → 7 ≡ lowest_of a b c d e f g h
              unfolding lowest_of
              lowest-7 q = rw (r1, r2, r3, r4, r5, r6, q)

              module _ (r7 : g ≡ true) where
                pub lowest-8 : h ≡ false → 8 ≡ lowest_of a b c d e f g h
                unfolding lowest_of
                lowest-8 q = rw (r1, r2, r3, r4, r5, r6, r7, q)

                pub lowest-none : h ≡ true → 0 ≡ lowest_of a b c d e f g h
                unfolding lowest_of
                lowest-none q = rw (r1, r2, r3, r4, r5, r6, r7, q)

-- ---- the second walk finds one thing
pub judged-got : (b : List ℕ) (version : ℕ) (s : List ℕ) (n : ℕ) (e : List ℕ) (k : ℕ) {m : Marks} {d rule : ℕ}
    → marks_at b ≡ accepted (got m d) → rule ≡ broken_in b version s n e k m → Judged b version s n e k rule
judged-got b version s n e k {m} {d} {rule} q r m1 d1 q1 =
    subst (λ (x : Marks). rule ≡ broken_in b version s n e k x) (one (one_value (sym q ∙ q1))) r
  where
    one : {i j : ℕ} {x y : Marks} → got x i ≡ got y j → x ≡ y
    one f = cc

-- ---- no more exports than there is room for at the limit
unfoldable Few : Tables → Type 0
Few t = length t.exports ≤ limit 3

unfoldable FewRows : {E : Type 0} → List E → Type 0
FewRows l = length l ≤ limit 3

unfoldable FewIn : Inner → Type 0
FewIn u = Few u.tables

few-entries : {E : Type 0} (read : ℕ → Said (Got E)) (tn room : ℕ) → room ≤ limit 3 → (n at : ℕ) (rows : List E) → length rows ≤ limit 3
    → Gives (Of FewRows) (entries_from read tn room n at rows)
unfolding entries_from FewRows Of
few-entries read tn room k zero at rows h = gives-done (Of FewRows) (got rows at) h
few-entries {E} read tn room k (suc n) at rows h =
    gives-onward (Of FewRows) (read at) _
    (λ v d e. by v d (few-entries read tn room k n d (rows ++ (v ∷ []))) (ltb (length rows) room) refl)
  where
    by : (v : E) (d : ℕ)
        → (length (rows ++ (v ∷ [])) ≤ limit 3 → Gives (Of FewRows) (entries_from read tn room n d (rows ++ (v ∷ []))))
        → (t : Bool) → ltb (length rows) room ≡ t
        → Gives (Of FewRows) (pick t (entries_from read tn room n d (rows ++ (v ∷ []))) (refused 13 (spot tn)))
    by v d ih true t = ih (omega (arith, ltb-true (length rows) room t, length-append rows (v ∷ [])))
    by v d ih false t = gives-stop (Of FewRows) 13 (spot tn)

few-exports : (s : List ℕ) (base n : ℕ) → Gives (Of FewRows) (exports_of s base n)
unfolding exports_of
few-exports s base n =
    gives-onward (Of FewRows) (u32_at s 0) _
    (λ count at e. few-entries (export_at s base) 3 (capacity_in 3 n) (capacity-limit n (width 3) (limit 3)) count at [] (omega arith))

few-contents : (id : ℕ) (s : List ℕ) (base : ℕ) (z : Sizes) (t : Tables) → Few t → Gives (Of FewIn) (contents_at id s base z t)
unfolding contents_at FewIn Few Of Gives FewRows
few-contents id s base z t h =
    gives-pick (Of FewIn) (eqb id 0) _ _
    (gives-onward (Of FewIn) (custom_at s base z.names t.names) _ (λ u d q. gives-done (Of FewIn) _ h))
    (gives-pick (Of FewIn) (eqb id 2) _ _
    (gives-onward (Of FewIn) (imports_of s base z.imports) _ (λ u d q. gives-done (Of FewIn) _ h))
    (gives-pick (Of FewIn) (eqb id 7) _ _
    (gives-onward (Of FewIn) (exports_of s base z.exports) _
    (λ u d q. gives-done (Of FewIn) _ (few-exports s base z.exports (got u d) q)))
    (gives-done (Of FewIn) _ h)))

few-section : (b : List ℕ) (z : Sizes) (at : ℕ) (t : Tables) → Few t → Gives (Of Few) (section_at b z at t)
unfolding section_at add_section Few FewIn Of Gives
few-section b z at t h =
    gives-onward (Of Few) (byte_at b at) _ (λ id a e1.
    gives-onward (Of Few) (counted_at b a) _ (λ p next e2.
    gives-onward (Of Few) (relocated p.from (contents_at id (part_bytes b p) p.from z t)) _ (λ u e e3.
    gives-pick (Of Few) (ltb (length u.tables.sections) (capacity_in 1 z.sections)) _ _
    (gives-done (Of Few) _ (few-contents id (part_bytes b p) p.from z t h (got u e) (relocated-got p.from _ e3)))
    (gives-stop (Of Few) 13 (spot 1)))))

unfoldable FewRead : Parsed → Type 0
FewRead m = Few m.tables

few-module : (b : List ℕ) (z : Sizes) → Gives FewRead (module_at b z)
unfolding module_at FewRead Few no_tables Of Gives
few-module b z =
    gives-pick FewRead (ltb file_limit (length b)) _ _ (gives-stop FewRead 14 (spot 0))
    (gives-onward FewRead (header_at b) _ (λ v c e1.
    gives-onward FewRead (walk_from (section_at b z) b c no_tables) _ (λ t d e2.
    gives-done FewRead _ (gives-from Few (section_at b z) (few-section b z) b c no_tables (omega arith) (got t d) e2))))

-- ---- the rules of the rows that the tables hold
module _ (b : List ℕ) (z : Sizes) where
  broken-rows : (p : Parsed) (s e : List ℕ) → s ≡ laid z.sections (cells section_cells p.tables.sections)
      → e ≡ laid z.exports (cells export_cells p.tables.exports) → (k : Marks)
      → broken_in b p.version s (length p.tables.sections) e (length p.tables.exports) k ≡ broken b p k
  unfolding broken ids_of kinds_of export_names
  broken-rows p s e hs he k =
      rw (
        hs,
        he,
        ids-rows b z.sections p.tables.sections,
        names-rows b z.exports p.tables.exports,
        kinds-rows b z.exports p.tables.exports,
      )

  broken-as : (p : Parsed) (s e : List ℕ) {m : Module} → s ≡ laid z.sections (cells section_cells p.tables.sections)
      → e ≡ laid z.exports (cells export_cells p.tables.exports) → module_of (length b) p ≡ m → (k : Marks)
      → broken_in b m.version s m.sections e m.exports k ≡ broken b p k
  unfolding module_of counts_of
  broken-as p s e hs he q k = rw (sym q) (broken-rows p s e hs he k)

  -- the plain read is refused
  pub strict-stops : (l : Lent) (w : Refusal) (r : Result Module Refusal) → ModuleIs (length b) z (module_at b z) l (refused_by w)
      → IsErrAnd r (λ e. e ≡ w) → ModuleIs (length b) z (strict_at b z) l (said_module r)
  unfolding strict_at follow
  strict-stops l w (Ok m) h q = absurd q
  strict-stops l w (Err e) h q =
      let f = first-refused (module_at b z) (module_of (length b)) (sym h.answer-is) in
      let s : strict_at b z ≡ module_at b z = rw f in
      rw q (subst (λ (x : Said Parsed). ModuleIs (length b) z x l (refused_by w)) (sym s) h)

  -- it is accepted
  module _ (l : Lent) (m : Module) (h : ModuleIs (length b) z (module_at b z) l (accepted m)) where
    found : Followed (module_at b z) (λ p. accepted (module_of (length b) p)) m
    found = followed (module_at b z) (λ p. accepted (module_of (length b) p)) (sym h.answer-is)

    rows : Holds l z found.what.tables
    unfolding tables_of
    rows = rw found.first at h.tables-are

    pub few-counted : m.exports ≤ limit 3
    unfolding module_of counts_of Gives FewRead Few
    few-counted = rw (sym (one_value found.then)) (few-module b z found.what found.first)

    walked : (k : Marks) × Walked b z found.what k
    walked = walks-again b z found.what found.first

    module _ (rule : ℕ) (judged : Judged b m.version l.sections m.sections l.exports m.exports rule) where
      rule-is : rule ≡ broken b found.what walked.0
      rule-is =
          judged walked.0 walked.1.end walked.1.marks-are
          ∙ broken-as found.what l.sections l.exports rows.sections-are rows.exports-are (one_value found.then) walked.0

      pub strict-good : rule ≡ 0 → ModuleIs (length b) z (strict_at b z) l (accepted m)
      strict-good q =
          let s : strict_at b z ≡ module_at b z =
          clean-strict b z found.what walked.0 walked.1 (sym rule-is ∙ q) ∙ sym found.first in
          subst (λ (x : Said Parsed). ModuleIs (length b) z x l (accepted m)) (sym s) h

      pub strict-bad : (l1 : Lent) (n : ℕ) → n ≡ rule → (rule ≡ 0 → ⊥) → Holds l1 z no_tables
          → ModuleIs (length b) z (strict_at b z) l1 (refused 20 (spot n))
      unfolding follow tables_of
      strict-bad l1 n e q hl =
          let s : strict_at b z ≡ refused 20 (spot n) =
          broken-refused b z found.what walked.0 walked.1 (λ e. q (rule-is ∙ e))
          ∙ ap (λ (x : ℕ). refused 20 (spot x)) (sym (e ∙ rule-is)) in
          rw s (record { answer-is = refl; tables-are = hl })

-- a rule has a number
pub rule-some : (r : Rule) → number_of_rule r ≡ 0 → ⊥
rule-some Version e = omega (arith, e)
rule-some ShortNumbers e = omega (arith, e)
rule-some KnownSections e = omega (arith, e)
rule-some SectionOrder e = omega (arith, e)
rule-some UsedSections e = omega (arith, e)
rule-some DifferentNames e = omega (arith, e)
rule-some KnownExports e = omega (arith, e)
rule-some PlainFlags e = omega (arith, e)
