-- The second walk over sections: where the port's grammar derives a file, the walk is accepted and marks rules 2, 5 and 8 exactly as the
-- derivation has them. Assumes nothing.
use Prim.Native.Nat.{ℕ, ◌+◌, ◌-◌, ◌^◌, ◌≤◌, ◌<◌}
use native.Mathlib.Omega.{arith}
use mathlib.Core.Path.{◌≡◌, refl, sym, ◌∙◌, ap, subst}
use mathlib.Core.Logic.{◌↔◌}
use mathlib.Core.Bool.{Bool, true, false}
use mathlib.Core.List.{List, [], ◌∷◌, ◌++◌}
use lib.ListN.{length, drop, length-drop}
use borrow.Author.Tests.{ne_eqb}
use Rattle.refusal.specs.Said.{Said, accepted, Got, got, onward}
use Rattle.text.specs.Find.{same}
use Rattle.text.proofs.FindLaws.{same-is, same_self}
use Rattle.table.specs.Walking.{walk_from}
use Rattle.table.proofs.Walking.{from_end, from-go}
use Rattle.refusal.specs.Each.{Each, each_nil, each-cons}
use Rattle.leb.specs.Reads.{part, part_bytes, byte_at}
use Rattle.wasm.specs.Custom.{name_word}
use Rattle.conform.specs.Grammar.{SubOf, name_bytes}
use Rattle.conform.specs.Port.{Number, Named, named, AnySub, Framed, framed, InARow, Held, SectionSaid, AnyContent, AnySection, AnyModule}
use Rattle.conform.proofs.Conform.{byte_reads, PartStands, part-reads}
use Rattle.strict.specs.Shapes.{Marks}
use Rattle.strict.specs.Again.{fresh, with_number, with_entries, told_marks, framed_marks, subsection_marks, custom_marks, list_marks}
use Rattle.strict.specs.Again.{contents_marks, run_marks, section_marks, marks_at}
use Rattle.clean.specs.Rules.{EveryRow, taken, ShortNumber, ShortName, ShortSub, ShortSubsection, ShortContent, ShortSection}
use Rattle.clean.specs.Rules.{ShortModule, UsedContent, UsedSection, UsedModule, PlainImport, OfImports, PlainImports, Rule}
use Rattle.clean.proofs.Judging.{Judged, nothing, after, as_said, shortens, uses, itself, right, left, no_more}
use Rattle.clean.proofs.Marking.{Marked, name-marks, part-starts, imports-marks, exports-marks, assocs-marks}

-- a look into bytes, with marks that add A, U and P to m
pub record Looked (x : Said (Got Marks)) (m : Marks) (A U P : Type 0) : Type 0 where
  pub marks : Marks
  pub next : ℕ
  pub is : x ≡ accepted (got marks next)
  pub judged : Judged m marks A U P

module _ (s : List ℕ) (size : length s < 2 ^ 64) where
  looked : {x : Said (Got Marks)} {m : Marks} {A U P : Type 0} {r : List ℕ} → Marked s size x m A U P r → Looked x m A U P
  looked o = record { marks = o.marks; next = o.next; is = o.is; judged = o.judged }

  sub-marks : {id : ℕ} {v : SubOf} (m : Marks) (x : AnySub id s v) → Looked (told_marks id s m) m (ShortSub x) (Unit {0}) (Unit {0})
  unfolding told_marks
  sub-marks m (AnySub.modulename a) = looked (name-marks s size 0 m refl a)
  sub-marks m (AnySub.funcnames w) = looked (assocs-marks s size m w)
  sub-marks m (AnySub.others {id = id} h) =
      record { marks = m; next = 0; is = rw (ne_eqb id 0 (λ e. omega arith), ne_eqb id 1 (λ e. omega arith)); judged = nothing m }

  -- ---- an id, a size, and bytes that `inside` looks into
  record Stepped (x : Said (Got Marks)) (at : ℕ) (m : Marks) (A U P : Type 0) (r : List ℕ) : Type 0 where
    marks : Marks
    next : ℕ
    is : x ≡ accepted (got marks next)
    rest : drop next s ≡ r
    past : at < next
    in-s : next ≤ length s
    judged : Judged m marks A U P

  module _ (inside : ℕ → List ℕ → Marks → Said (Got Marks)) where
    frame_is : (id at k e : ℕ) (p r : List ℕ) (m n : Marks) → byte_at s at ≡ accepted (got id (at + 1))
        → (g : PartStands s size (at + 1) p r) → g.start - (at + 1) ≡ k → inside id p (with_number m k) ≡ accepted (got n e)
        → framed_marks inside s at m ≡ accepted (got n (g.start + length p))
    unfolding framed_marks onward
    frame_is id at k e p r m n one g c o = rw (one, g.is, g.holds, c, o)

    frame-marks : {A U P : Type 0} {id : ℕ} {l r : List ℕ} (p : List ℕ) (at : ℕ) (m : Marks) → drop at s ≡ id ∷ l
        → (n : Number l (length p) (p ++ r))
        → (length p < 2 ^ 64 → (k : Marks) → Looked (inside id p k) k A U P)
        → Stepped (framed_marks inside s at m) at m (ShortNumber n × A) U P r
    frame-marks {id = id} {l = l} {r = r} p at m e n look =
        let one = byte_reads s size at id l e in
        let g = part-reads s size (at + 1) l p r one.1 n in
        let c = part-starts s size (at + 1) one.1 n g in
        let o = look (omega (arith, g.inside)) (with_number m (taken n)) in
        record {
          marks = o.marks;
          next = g.start + length p;
          is = frame_is id at (taken n) o.next p r m o.marks one.0 g c o.is;
          rest = g.rest;
          past = omega (arith, g.past);
          in-s = g.inside;
          judged = as_said (after (shortens m (taken n)) o.judged) itself right right;
        }

module _ (s : List ℕ) (size : length s < 2 ^ 64) where
  -- ---- subsections to the end
  subs-marks : {l r : List ℕ} {vs : List SubOf} (at : ℕ) (m : Marks) → drop at s ≡ l → r ≡ [] → (w : InARow (Framed AnySub) l vs r)
      → Looked (walk_from (subsection_marks s) s at m) m (EveryRow (λ l r v x. ShortSubsection x) w) (Unit {0}) (Unit {0})
  unfolding EveryRow subsection_marks
  subs-marks at m e z InARow.done =
      let n : length (drop at s) ≡ 0 = ap length (e ∙ z) in
      record { marks = m; next = at; is = from_end (subsection_marks s) s at m (omega (arith, n, length-drop at s)); judged = nothing m }
  subs-marks at m e z (InARow.then (framed {p = p} n c) w) =
      let a = frame-marks s size told_marks p at m e n (λ h k. sub-marks p h k c) in
      let b = subs-marks a.next a.marks a.rest z w in
      record {
        marks = b.marks;
        next = b.next;
        is = from-go (subsection_marks s) s at m a.marks a.next a.is a.past a.in-s ∙ b.is;
        judged = as_said (after a.judged b.judged) itself no_more no_more;
      }

  -- ---- contents
  -- entries end where the bytes do exactly where nothing is left
  to_the_end : {r : List ℕ} (at : ℕ) → drop at s ≡ r → at ≤ length s → (at ≡ length s) ↔ (r ≡ [])
  to_the_end {r} at e h = (λ q. nothing_left r (omega (arith, ap length e, length-drop at s, q)), λ q. ended q)
    where
      nothing_left : (r : List ℕ) → length r ≡ 0 → r ≡ []
      nothing_left [] q = refl
      nothing_left (x ∷ r) q = absurd (omega (arith, q))

      ended : r ≡ [] → at ≡ length s
      ended q = let n : length (drop at s) ≡ 0 = ap length (e ∙ q) in omega (arith, n, length-drop at s)

  list-marks : (id : ℕ) {A P : Type 0} {r : List ℕ} (m : Marks) → Marked s size (run_marks id s m) m A (Unit {0}) P r
      → Looked (list_marks id s m) m A (r ≡ []) P
  unfolding list_marks onward
  list-marks id m o =
      record {
        marks = with_entries o.marks o.next (length s);
        next = o.next;
        is = rw o.is;
        judged = as_said (after o.judged (uses o.marks o.next (length s))) left
            (λ w. (to_the_end o.next o.rest o.in-s).0 w.1, λ q. (tt, (to_the_end o.next o.rest o.in-s).1 q)) left;
      }

  -- a custom section, by whether it is named `name`
  custom-marks : {n q : List ℕ} (m : Marks) (a : Named s n q) → (n ≡ name_bytes → ⊥)
      → Looked (custom_marks s m) m (ShortName a) (Unit {0}) (Unit {0})
  unfolding custom_marks onward name_word
  custom-marks {n} {q} m (named u w) other =
      let g = part-reads s size 0 s n q refl u in
      let c : g.start ≡ taken u = omega (arith, part-starts s size 0 refl u g) in
      let f : same name_bytes (part_bytes s (part g.start (length n))) ≡ false = rw g.holds (different (same name_bytes n) refl) in
      let j : Judged m (with_number m g.start) (ShortNumber u) (Unit {0}) (Unit {0}) =
      subst (λ (i : ℕ). Judged m (with_number m i) (ShortNumber u) (Unit {0}) (Unit {0})) (sym c) (shortens m (taken u)) in
      record { marks = with_number m g.start; next = g.start + length n; is = rw (g.is, f); judged = j }
    where
      different : (x : Bool) → same name_bytes n ≡ x → same name_bytes n ≡ false
      different true e = absurd (other (same-is name_bytes n e))
      different false e = e

  names-marks : {q : List ℕ} {vs : List SubOf} (m : Marks) (a : Named s name_bytes q) (w : InARow (Framed AnySub) q vs [])
      → Looked (custom_marks s m) m (ShortName a × EveryRow (λ l r v x. ShortSubsection x) w) (Unit {0}) (Unit {0})
  unfolding custom_marks onward name_word
  names-marks {q} m (named u k) w =
      let g = part-reads s size 0 s name_bytes q refl u in
      let c : g.start ≡ taken u = omega (arith, part-starts s size 0 refl u g) in
      let f : same name_bytes (part_bytes s (part g.start 4)) ≡ true = rw g.holds (same_self name_bytes) in
      let j : Judged m (with_number m g.start) (ShortNumber u) (Unit {0}) (Unit {0}) =
      subst (λ (i : ℕ). Judged m (with_number m i) (ShortNumber u) (Unit {0}) (Unit {0})) (sym c) (shortens m (taken u)) in
      let o = subs-marks (g.start + 4) (with_number m g.start) g.rest refl w in
      record { marks = o.marks; next = o.next; is = rw (g.is, f, o.is); judged = as_said (after j o.judged) itself no_more no_more }

  content-marks : {id : ℕ} {c : Held} (m : Marks) (x : AnyContent id s c)
      → Looked (contents_marks id s m) m (ShortContent x) (UsedContent x) (OfImports (Each PlainImport) c)
  unfolding contents_marks
  content-marks m (AnyContent.custom a h) = custom-marks m a h
  content-marks m (AnyContent.names a w) = names-marks m a w
  content-marks m (AnyContent.imports w) = list-marks 2 m (imports-marks s size m w)
  content-marks m (AnyContent.exports w) = list-marks 7 m (exports-marks s size m w)
  content-marks m (AnyContent.unread {id = id} n0 n2 n7) =
      record { marks = m; next = 0; is = rw (ne_eqb id 0 n0, ne_eqb id 2 n2, ne_eqb id 7 n7); judged = nothing m }

-- ---- sections to the end of the file
module _ (b : List ℕ) (size : length b < 2 ^ 64) where
  sections-marks : {l r : List ℕ} {vs : List SectionSaid} (at : ℕ) (m : Marks) → drop at b ≡ l → r ≡ []
      → (w : InARow (Framed AnySection) l vs r)
      → Looked (walk_from (section_marks b) b at m) m (EveryRow (λ l r v x. ShortSection x) w) (EveryRow (λ l r v x. UsedSection x) w)
      (Each PlainImports vs)
  unfolding EveryRow section_marks PlainImports
  sections-marks at m e z InARow.done =
      let n : length (drop at b) ≡ 0 = ap length (e ∙ z) in
      record {
        marks = m;
        next = at;
        is = from_end (section_marks b) b at m (omega (arith, n, length-drop at b));
        judged = as_said (nothing m) itself itself (λ u. each_nil, λ p. tt);
      }
  sections-marks at m e z (InARow.then (framed {p = p} n (AnySection.section c)) w) =
      let a = frame-marks b size contents_marks p at m e n (λ h k. content-marks p h k c) in
      let o = sections-marks a.next a.marks a.rest z w in
      record {
        marks = o.marks;
        next = o.next;
        is = from-go (section_marks b) b at m a.marks a.next a.is a.past a.in-s ∙ o.is;
        judged = as_said (after a.judged o.judged) itself itself (λ u. each-cons u.0 u.1, apart);
      }
    where
      apart : {v : SectionSaid} {vs : List SectionSaid} → Each PlainImports (v ∷ vs) → PlainImports v × Each PlainImports vs
      apart (each-cons p ps) = (p, ps)

-- where the port's grammar derives the file the second walk is accepted, and its marks are rules 2, 5 and 8 of the derivation
pub marks-tell-rules : {b : List ℕ} {vs : List SectionSaid} (d : AnyModule b vs) → length b < 2 ^ 64
    → Looked (marks_at b) fresh (Rule d 2) (Rule d 5) (Rule d 8)
unfolding marks_at ShortModule UsedModule
marks-tell-rules {b} (AnyModule.modul h w) size = sections-marks b size 8 fresh refl refl w
