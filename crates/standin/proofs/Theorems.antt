-- The proofs of Claims. Assumes nothing.
use Rattle.std.specs.Prelude.{Result, Ok, Err}
use mathlib.Core.Path.{◌≡◌, refl, sym, ◌∙◌, ap, subst₂}
use mathlib.Core.Logic.{◌⊎◌, inl, inr, ◌↔◌, ⊎_elim}
use mathlib.Core.Bool.{Bool, true, false, true≢false}
use mathlib.Core.List.Memᴰ
use mathlib.Core.List.{List, [], ◌∷◌}
use Prim.Native.Nat.{ℕ, ◌≤◌, ◌<◌}
use native.Mathlib.Omega.{arith}
use native.Mathlib.Decide.{ℕ_discrete}
use lib.Dec.{leb}
use lib.ListN.{length, length-map}
use borrow.Author.Tests.{leb-true, leb-false}
use Rattle.refusal.specs.Pick.{pick}
use Rattle.refusal.specs.Said.{Said, accepted, refused, follow, spot, Place}
use Rattle.refusal.specs.declared.Refusal.{Refusal}
use Rattle.refusal.proofs.Following.{never, one_value, follow-goes, follow-stops}
use Rattle.table.specs.Entries.{finished}
use Rattle.table.specs.Table.{laid, cells}
use Rattle.table.specs.Shape.{limit, capacity_in}
use Rattle.sorting.specs.Sort.{◌∈◌}
use Rattle.wasm.specs.Module.{Parsed, module_at, module_of, counts_of}
use Rattle.conform.specs.Claims.{Bytes}
use Rattle.conform.specs.Sound.{limits}
use Rattle.policy.specs.declared.Policy.{Policy}
use Rattle.verdicts.specs.declared.Evaluation.{Evaluation}
use Rattle.verdicts.specs.Evaluate.{said_evaluation, compliant}
use Rattle.import_rows.specs.Queries.{kind_is}
use Rattle.differences.specs.View.{Need, need_at}
use Rattle.differences.specs.Differences.{cmp_export, cmp_need, export_order, need_order, export_diff, need_diff}
use Rattle.differences.specs.Compared.{Lists, lists, roomed, compared, Verdict, verdict_on, export_diff_cells, need_diff_cells, listed}
use Rattle.differences.specs.Compared.{Compares}
use Rattle.listed.specs.Comparisons.{explained, build, against, builds}
use Rattle.standin.specs.Passing.{witness}
use Rattle.covering.specs.Replacing.{reversed, Rising}
use Rattle.covering.specs.Covering.{exchanged}
use Rattle.standin.specs.Builds.{Build, handed, view, domains, pairs, builds_compared, StandsIn, Chain, last}
use Rattle.standin.specs.Builds.{builds_told, Read, Meets, Clear}
use Rattle.standin.specs.Claims.{WithRoom, CellsExchanged, lent_compared, Covers, Replacement, Listing, Explanation, FailSafe}
use Rattle.standin.proofs.Cells.{export-cells, need-cells}
use Rattle.standin.proofs.Passing.{all_but, witness-reads, but-denied, but-allowed}
use Rattle.covering.proofs.Differ.{mem-map, map-mem}
use Rattle.covering.proofs.Lowest.{rising-rows, lowest-each}
use Rattle.covering.proofs.Views.{few-changes, says, exports-exchange, needs-exchange, exports-ascend, needs-ascend, exports-each}
use Rattle.covering.proofs.Views.{exports-removed, exports-added, needs-removed, needs-added}
use Rattle.standin.proofs.Builds.{view-exports, view-needs, compared_is}
use Rattle.standin.proofs.Limits.{left, whole, clear_reads, meets-clear, clear-meets}
use Rattle.standin.proofs.Explained.{lists-pass, explained-lists}
use Rattle.standin.proofs.Domains.{small, meets-allows, allows-meets}

-- ---- room
-- the lists, or 13 at 8 or at 9
data Roomed (room8 room9 : ℕ) (l : Lists) : Type 0 where
  room : roomed room8 room9 l ≡ accepted l → length l.exports ≤ room8 → length l.needs ≤ room9 → Roomed room8 room9 l
  full8 : roomed room8 room9 l ≡ refused 13 (spot 8) → room8 < length l.exports → Roomed room8 room9 l
  full9 : roomed room8 room9 l ≡ refused 13 (spot 9) → length l.exports ≤ room8 → room9 < length l.needs → Roomed room8 room9 l

roomed-as : (room8 room9 : ℕ) (l : Lists) → Roomed room8 room9 l
roomed-as room8 room9 l = by (leb (length l.exports) room8) refl (leb (length l.needs) room9) refl
  where
    by : (t : Bool) → leb (length l.exports) room8 ≡ t → (u : Bool) → leb (length l.needs) room9 ≡ u → Roomed room8 room9 l
    by true p true q =
        room (unfold roomed finished follow in rw (p, q)) (leb-true (length l.exports) room8 p) (leb-true (length l.needs) room9 q)
    by true p false q =
        full9 (unfold roomed finished follow in rw (p, q)) (leb-true (length l.exports) room8 p) (leb-false (length l.needs) room9 q)
    by false p u q = full8 (unfold roomed finished follow in rw p) (leb-false (length l.exports) room8 p)

-- tables at the limits take both lists
few-exports : (b c : Build) → length (export_diff (view b) (view c)) ≤ limit 8
unfolding export_diff
few-exports b c = omega (arith, few-changes cmp_export export_order (view b).exports (view c).exports, view-exports b, view-exports c)

few-needs : (b c : Build) → length (need_diff (view b) (view c)) ≤ limit 9
unfolding need_diff
few-needs b c = omega (arith, few-changes cmp_need need_order (view b).needs (view c).needs, view-needs b, view-needs c)

by-lists : (b c : Build) (room8 room9 : ℕ)
    → builds_compared b c room8 room9 ≡ follow (roomed room8 room9 (lists (view b) (view c))) (λ l. accepted (verdict_on l))
by-lists b c room8 room9 = ap (λ (x : Said Lists). follow x (λ l. accepted (verdict_on l))) (compared_is b c room8 room9)

whole-lists : (b c : Build) → compared (handed b) (handed c) (limit 8) (limit 9) ≡ accepted (lists (view b) (view c))
whole-lists b c = compared_is b c (limit 8) (limit 9) ∙ by (roomed-as (limit 8) (limit 9) (lists (view b) (view c)))
  where
    by : Roomed (limit 8) (limit 9) (lists (view b) (view c))
        → roomed (limit 8) (limit 9) (lists (view b) (view c)) ≡ accepted (lists (view b) (view c))
    by (room e h k) = e
    by (full8 e h) = absurd (omega (arith, few-exports b c))
    by (full9 e h k) = absurd (omega (arith, few-needs b c))

answered : (b c : Build) → builds_compared b c (limit 8) (limit 9) ≡ accepted (verdict_on (lists (view b) (view c)))
answered b c = sym (follow-goes _ (whole-lists b c) refl)

-- the verdict on lists, where there are lists
on-lists : (b c : Build) (room8 room9 : ℕ) {x : Said Lists} → roomed room8 room9 (lists (view b) (view c)) ≡ x
    → builds_compared b c room8 room9 ≡ follow x (λ l. accepted (verdict_on l))
on-lists b c room8 room9 e = by-lists b c room8 room9 ∙ ap (λ (x : Said Lists). follow x (λ l. accepted (verdict_on l))) e

apart : ◌≡◌ {A = Said Verdict} (refused 13 (spot 8)) (refused 13 (spot 9)) → ⊥
apart e = let z : ◌≡◌ {A = ℕ} 8 9 = cc in omega arith

otherwise : (b c : Build) (room8 room9 : ℕ) → WithRoom b c room8 room9
unfolding follow
otherwise b c room8 room9 = by (roomed-as room8 room9 (lists (view b) (view c)))
  where
    by : Roomed room8 room9 (lists (view b) (view c)) → WithRoom b c room8 room9
    by (room e h k) =
        let p = on-lists b c room8 room9 e in
        record {
          same = ((λ q. (h, k)), λ q. p ∙ sym (answered b c));
          full8 = ((λ q. absurd (never (sym q ∙ p))), λ q. absurd (omega (arith, q)));
          full9 = ((λ q. absurd (never (sym q ∙ p))), λ q. absurd (omega (arith, q.1)));
        }
    by (full8 e h) =
        let p = on-lists b c room8 room9 e in
        record {
          same = ((λ q. absurd (never (sym p ∙ q ∙ answered b c))), λ q. absurd (omega (arith, q.0)));
          full8 = ((λ q. h), λ q. p);
          full9 = ((λ q. absurd (apart (sym p ∙ q))), λ q. absurd (omega (arith, q.0)));
        }
    by (full9 e h k) =
        let p = on-lists b c room8 room9 e in
        record {
          same = ((λ q. absurd (never (sym p ∙ q ∙ answered b c))), λ q. absurd (omega (arith, q.1)));
          full8 = ((λ q. absurd (apart (sym q ∙ p))), λ q. absurd (omega (arith, q)));
          full9 = ((λ q. (h, k)), λ q. p);
        }

-- ---- what compatible means
-- an accepted comparison gives the verdict on the whole lists
verdict-is : (b c : Build) (room8 room9 : ℕ) (v : Verdict) → builds_compared b c room8 room9 ≡ accepted v
    → v ≡ verdict_on (lists (view b) (view c))
unfolding follow
verdict-is b c room8 room9 v e = by (roomed-as room8 room9 (lists (view b) (view c)))
  where
    by : Roomed room8 room9 (lists (view b) (view c)) → v ≡ verdict_on (lists (view b) (view c))
    by (room q h k) = one_value (sym e ∙ on-lists b c room8 room9 q)
    by (full8 q h) = absurd (never (sym (on-lists b c room8 room9 q) ∙ e))
    by (full9 q h k) = absurd (never (sym (on-lists b c room8 room9 q) ∙ e))

means : (b c : Build) (room8 room9 : ℕ) (v : Verdict) → builds_compared b c room8 room9 ≡ accepted v
    → (v.compatible ≡ true) ↔ Covers b c
means b c room8 room9 v e =
    let z = ap (λ (w : Verdict). w.compatible) (verdict-is b c room8 room9 v e) in
    let s = says (view b) (view c) in (
      (λ h. let t = s.0 (sym z ∙ h) in record { has = t.0; needs = t.1 }),
      λ k. z ∙ s.1 (k.has, k.needs),
    )

stands : (b c : Build) → StandsIn b c ↔ Covers b c
stands b c =
    let s = means b c (limit 8) (limit 9) (verdict_on (lists (view b) (view c))) (answered b c) in (
      (λ h. (means b c (limit 8) (limit 9) h.verdict h.answers).0 h.says),
      λ k. record { verdict = verdict_on (lists (view b) (view c)); answers = answered b c; says = s.1 k },
    )

-- ---- chains
covers : (b : Build) (cs : List Build) → Chain b cs → Covers b (last b cs)
covers b [] h = record { has = λ e m. m; needs = λ n m. m }
covers b (c ∷ cs) h =
    let s = (stands b c).0 h.0 in
    let t = covers c cs h.1 in
    record { has = λ e m. t.has e (s.has e m); needs = λ n m. s.needs n (t.needs n m) }

fewer : (b c : Build) → Covers b c → (p : Policy) → Meets p b → Meets p c
fewer b c k p ok = allows-meets p c (λ d m.
    let s = map-mem (λ (n : Need). n.domain) d (pairs c) m in
    meets-allows p b ok d (Memᴰ.cast s.2 (mem-map (λ (n : Need). n.domain) s.0 (pairs b) (k.needs s.0 s.1))))

mem-dec : (d : ℕ) (l : List ℕ) → (d ∈ l) ⊎ (d ∈ l → ⊥)
mem-dec d [] = inr (λ m. Memᴰ.not-nil m)
mem-dec d (x ∷ l) = go (ℕ_discrete d x) (mem-dec d l)
  where
    go : Dec (d ≡ x) → (d ∈ l) ⊎ (d ∈ l → ⊥) → (d ∈ (x ∷ l)) ⊎ (d ∈ (x ∷ l) → ⊥)
    go (yes p) i = inl (Memᴰ.head p)
    go (no n) (inl m) = inl (Memᴰ.tail m)
    go (no n) (inr k) = inr (λ m. ⊎_elim n k (Memᴰ.cases_cons m))

needs-no-more : (a b : Build) → ((p : Policy) → Read p → Meets p b → Meets p a) → (d : ℕ) → d ∈ domains a → d ∈ domains b
needs-no-more a b f d m = ⊎_elim (λ t. t) (λ n. absurd (go n)) (mem-dec d (domains b))
  where
    go : (d ∈ domains b → ⊥) → ⊥
    go n =
        let read : Read (all_but d) = record { text = witness d; reads = witness-reads d (small a d m) } in
        let ok : Meets (all_but d) b = allows-meets (all_but d) b (λ e i. but-allowed d e (λ p. n (Memᴰ.cast (sym p) i))) in
        true≢false (sym (meets-allows (all_but d) a (f (all_but d) read ok) d m) ∙ but-denied d (small a d m))

exactly : (a b : Build) → ((p : Policy) → Read p → Meets p b → Meets p a) ↔ ((d : ℕ) → d ∈ domains a → d ∈ domains b)
exactly a b = (needs-no-more a b, λ h p r ok. allows-meets p a (λ d m. meets-allows p b ok d (h d m)))

-- the same of texts: what a check passes under is read as a policy
needed : (a b : Build) → ((text : List ℕ) → Clear b.file text → Clear a.file text) ↔ ((d : ℕ) → d ∈ domains a → d ∈ domains b)
needed a b = (
  (λ f. (exactly a b).0 (λ p r ok. clear-meets a r.text p r.reads (f r.text (meets-clear b r.text p r.reads ok)))),
  λ h text q.
      let p = clear_reads b text q in
      let r : Read p.policy = record { text = text; reads = p.reads } in
      meets-clear a text p.policy p.reads ((exactly a b).1 h p.policy r (clear-meets b text p.policy p.reads q)),
)

-- ---- exchange
exchanged-lists : (b c : Build) → lists (view c) (view b) ≡ exchanged (lists (view b) (view c))
exchanged-lists b c =
    let p = exports-exchange (view b) (view c) in
    let q = needs-exchange (view b) (view c) in
    λ i. record { exports = p i; needs = q i }

roomed-exchanged : (room8 room9 : ℕ) (l : Lists)
    → roomed room8 room9 (exchanged l) ≡ follow (roomed room8 room9 l) (λ l. accepted (exchanged l))
unfolding roomed finished follow
roomed-exchanged room8 room9 l =
    rw (length-map l.exports reversed, length-map l.needs reversed)
    (by (length l.exports) (length l.needs) (leb (length l.exports) room8) (leb (length l.needs) room9))
  where
    by : (m n : ℕ) (t u : Bool)
        → follow (pick t (accepted m) (refused 13 (spot 8))) (λ x.
        follow (pick u (accepted n) (refused 13 (spot 9))) (λ y. accepted (exchanged l)))
        ≡ follow (follow (pick t (accepted m) (refused 13 (spot 8))) (λ x.
        follow (pick u (accepted n) (refused 13 (spot 9))) (λ y. accepted l))) (λ l. accepted (exchanged l))
    by m n true true = refl
    by m n true false = refl
    by m n false u = refl

exchange : (b c : Build) (room8 room9 : ℕ)
    → compared (handed c) (handed b) room8 room9 ≡ follow (compared (handed b) (handed c) room8 room9) (λ l. accepted (exchanged l))
exchange b c room8 room9 =
    compared_is c b room8 room9
    ∙ ap (roomed room8 room9) (exchanged-lists b c)
    ∙ roomed-exchanged room8 room9 (lists (view b) (view c))
    ∙ ap (λ (x : Said Lists). follow x (λ l. accepted (exchanged l))) (sym (compared_is b c room8 room9))

-- after a refusal there is nothing to exchange
listed-exchanged : (x : Said Lists) → listed (follow x (λ l. accepted (exchanged l))) ≡ exchanged (listed x)
unfolding follow
listed-exchanged (accepted l) = refl
listed-exchanged (refused n p) = refl

exchange-cells : (b c : Build) (lent8 lent9 left8 left9 right8 right9 : List ℕ) (v w : Said Verdict)
    → Compares (lent_compared b c lent8 lent9) lent8 left8 lent9 left9 v
    → Compares (lent_compared c b lent8 lent9) lent8 right8 lent9 right9 w
    → CellsExchanged 8 (length (listed (lent_compared b c lent8 lent9)).exports) left8 right8
    × CellsExchanged 9 (length (listed (lent_compared b c lent8 lent9)).needs) left9 right9
exchange-cells b c lent8 lent9 left8 left9 right8 right9 v w p q =
    let here = listed (lent_compared b c lent8 lent9) in
    let e : listed (lent_compared c b lent8 lent9) ≡ exchanged here =
    ap listed (exchange b c (capacity_in 8 (length lent8)) (capacity_in 9 (length lent9)))
    ∙ listed-exchanged (lent_compared b c lent8 lent9) in (
      subst₂ (CellsExchanged 8 (length here.exports)) (sym p.table8-is)
          (sym (q.table8-is ∙ ap (λ (l : Lists). laid (length lent8) (cells export_diff_cells l.exports)) e))
          (export-cells (length lent8) here.exports),
      subst₂ (CellsExchanged 9 (length here.needs)) (sym p.table9-is)
          (sym (q.table9-is ∙ ap (λ (l : Lists). laid (length lent9) (cells need_diff_cells l.needs)) e))
          (need-cells (length lent9) here.needs),
    )

pub replacement : Replacement
replacement =
    record {
      means = means;
      answered = answered;
      otherwise = otherwise;
      series = λ b cs h. (stands b (last b cs)).1 (covers b cs h);
      policies = λ b cs h p r. fewer b (last b cs) (covers b cs h) p;
      checks =
          λ b cs h text q.
          let p = clear_reads b text q in
          meets-clear (last b cs) text p.policy p.reads
          (fewer b (last b cs) (covers b cs h) p.policy (clear-meets b text p.policy p.reads q));
      exactly = exactly;
      needed = needed;
      exchange = exchange;
      exchange_cells = exchange-cells;
    }

pub listing : Listing
unfolding need_diff
listing =
    record {
      export_removed = λ b c. exports-removed (view b) (view c);
      export_added = λ b c. exports-added (view b) (view c);
      need_removed = λ b c. needs-removed (view b) (view c);
      need_added = λ b c. needs-added (view b) (view c);
      exports_each = λ b c. exports-each (view b) (view c);
      exports_ascend = λ b c. exports-ascend (view b) (view c);
      needs_each = λ b c. lowest-each (view b).needs (view c).needs (rising b) (rising c);
      needs_ascend = λ b c. needs-ascend (view b) (view c);
    }
  where
    rising : (b : Build) → Rising (view b).needs
    rising b = rising-rows (need_at b.file b.tables.imports) (kind_is b.tables.imports 0) 0 b.answer.imports

-- ---- reasons
files : (b c : List ℕ) → Bytes b → Bytes c
    → builds b c ≡ follow (module_at b limits) (λ m. follow (module_at c limits) (λ n. accepted (builds_told (build b m) (build c n))))
unfolding builds against whole left module_of counts_of follow
files b c bytes more = by (module_at b limits) refl (module_at c limits) refl
  where
    by : (x : Said Parsed) → module_at b limits ≡ x → (y : Said Parsed) → module_at c limits ≡ y
        → follow x (λ m. follow y (λ n. explained (build b m) (build c n)))
        ≡ follow x (λ m. follow y (λ n. accepted (builds_told (build b m) (build c n))))
    by (accepted m) e (accepted n) q =
        explained-lists (build b m) (build c n) ∙ sym (follow-goes _ (whole-lists (whole b m e bytes) (whole c n q more)) refl)
    by (accepted m) e (refused i j) q = refl
    by (refused i j) e y q = refl

pub explanation : Explanation
explanation = record { passes = lists-pass; refuses = explained-lists; files = files }

pub fail_safe : FailSafe
fail_safe =
    record {
      evaluation = evaluation;
      comparisons = λ b c room8 room9 n place e lent8 left8 lent9 left9 a h. h.answer-is ∙ sym (follow-stops _ e);
    }
  where
    evaluation : (n : ℕ) (place : Place) (r : Result Evaluation Refusal) → said_evaluation r ≡ refused n place → compliant r ≡ true → ⊥
    evaluation n place (Ok e) h k = never (sym h)
    evaluation n place (Err why) h k = true≢false (sym k)
