-- What is claimed of a strict read beside the plain one. Assumes nothing.
use Prim.Native.Nat.{ℕ, zero, suc, ◌≤◌}
use native.Mathlib.Omega.{arith}
use mathlib.Core.Path.{◌≡◌, refl, sym, ◌∙◌, ap, subst}
use mathlib.Core.Bool.{Bool, true, false}
use mathlib.Core.Logic.{◌⊎◌, inl, inr}
use mathlib.Core.List.{List}
use borrow.Author.Tests.{eq-eqb, ne_eqb, eqb-true}
use lib.ListN.{length}
use lib.Dec.{eqb, ltb}
use Rattle.refusal.specs.Pick.{pick}
use Rattle.refusal.specs.Sizes.{file_limit}
use Rattle.refusal.specs.Said.{Said, accepted, refused, follow, got, onward, spot}
use Rattle.refusal.proofs.Following.{never, one_value, followed, read-on}
use Rattle.table.specs.Walking.{walk_from}
use Rattle.wasm.specs.Module.{Parsed, Sizes, no_tables, section_at, header_at, module_at}
use Rattle.strict.specs.declared.again.Marks.{Marks}
use Rattle.strict.specs.Again.{fresh, section_marks, marks_at}
use Rattle.strict.specs.Rules.{lowest_of, broken, held, strict_at}
use Rattle.strict.specs.Claims.{Walked, WalksAgain, StrictPlain, StrictClean, CleanStrict, BrokenRefused, Ruled, StrictRefuses}
use Rattle.strict.proofs.Seeing.{sees-sections, header-next}

-- ---- where the plain read accepts, the second walk does
pub walks-again : WalksAgain
unfolding module_at marks_at
walks-again b z m e = by (ltb file_limit (length b)) e
  where
    by : (t : Bool)
        → pick t (refused 14 (spot 0)) (onward (header_at b) (λ v c. onward (walk_from (section_at b z) b c no_tables) (λ t d.
        accepted (record { version = v; tables = t })))) ≡ accepted m → (k : Marks) × Walked b z m k
    by true f = absurd (never f)
    by false f =
        let o = read-on (header_at b) _ f in
        let w = read-on (walk_from (section_at b z) b o.next no_tables) _ o.then in
        let n = header-next b o.what o.next o.first in
        let s = (sees-sections b z o.next no_tables fresh).sees w.what w.next w.first in (
          s.0,
          record {
            end = w.next;
            plain-is = e;
            marks-are = subst (λ (i : ℕ). walk_from (section_marks b) b i fresh ≡ accepted (got s.0 w.next)) n s.1;
          },
        )

-- ---- the rules decide
module _ (b : List ℕ) (z : Sizes) (m : Parsed) (k : Marks) (h : Walked b z m k) where
  decided : strict_at b z ≡ held b m k
  unfolding strict_at follow onward
  decided = rw (h.plain-is, h.marks-are)

pub clean-strict : CleanStrict
unfolding held
clean-strict b z m k h q = decided b z m k h ∙ rw (eq-eqb (broken b m k) 0 q)

pub broken-refused : BrokenRefused
unfolding held
broken-refused b z m k h q = decided b z m k h ∙ rw (ne_eqb (broken b m k) 0 q)

-- the lowest rule is one of eight
lowest-few : (r1 r2 r3 r4 r5 r6 r7 r8 : Bool) → lowest_of r1 r2 r3 r4 r5 r6 r7 r8 ≤ 8
unfolding lowest_of
lowest-few false r2 r3 r4 r5 r6 r7 r8 = omega arith
lowest-few true false r3 r4 r5 r6 r7 r8 = omega arith
lowest-few true true false r4 r5 r6 r7 r8 = omega arith
lowest-few true true true false r5 r6 r7 r8 = omega arith
lowest-few true true true true false r6 r7 r8 = omega arith
lowest-few true true true true true false r7 r8 = omega arith
lowest-few true true true true true true false r8 = omega arith
lowest-few true true true true true true true false = omega arith
lowest-few true true true true true true true true = omega arith

broken-few : (b : List ℕ) (m : Parsed) (k : Marks) → broken b m k ≤ 8
unfolding broken
broken-few b m k = lowest-few _ _ _ _ _ _ _ _

-- ---- what a strict read says
pub strict-clean : StrictClean
unfolding strict_at held
strict-clean b z m e =
    let o = followed (module_at b z) _ e in
    let w = read-on (marks_at b) _ o.then in
    by o.what w.what w.next o.first w.first (eqb (broken b o.what w.what) 0) refl w.then
  where
    by : (p : Parsed) (k : Marks) (d : ℕ) → module_at b z ≡ accepted p → marks_at b ≡ accepted (got k d)
        → (t : Bool) → eqb (broken b p k) 0 ≡ t → pick t (accepted p) (refused 20 (spot (broken b p k))) ≡ accepted m
        → (k : Marks) × Walked b z m k × (broken b m k ≡ 0)
    by p k d f g true t q =
        let z : p ≡ m = one_value q in (
          k,
          record { end = d; plain-is = f ∙ ap accepted z; marks-are = g },
          ap (λ (x : Parsed). broken b x k) (sym z) ∙ eqb-true (broken b p k) 0 t,
        )
    by p k d f g false t q = absurd (never q)

pub strict-plain : StrictPlain
strict-plain b z m e = (strict-clean b z m e).1.plain-is

pub strict-refuses : StrictRefuses
unfolding strict_at follow
strict-refuses b z n p e = by (module_at b z) refl e
  where
    rule : (m : Parsed) (k : Marks) (h : Walked b z m k) → (broken b m k ≡ 0) ⊎ (broken b m k ≡ 0 → ⊥) → Ruled b z n p
    rule m k h (inl q) = absurd (never (sym e ∙ clean-strict b z m k h q))
    rule m k h (inr q) =
        let f = sym e ∙ broken-refused b z m k h q in
        let a : n ≡ 20 = cc in
        let c : p ≡ spot (broken b m k) = cc in
        record {
          rows = m;
          marks = k;
          walked = h;
          number_is = a;
          place_is = c;
          rule = (positive (broken b m k) q, omega (arith, broken-few b m k));
        }
      where
        positive : (i : ℕ) → (i ≡ 0 → ⊥) → 1 ≤ i
        positive i h = omega arith

    zero_or : (i : ℕ) → (i ≡ 0) ⊎ (i ≡ 0 → ⊥)
    zero_or zero = inl refl
    zero_or (suc i) = inr (λ q. omega arith)

    by : (x : Said Parsed) → module_at b z ≡ x → strict_at b z ≡ refused n p → (module_at b z ≡ refused n p) ⊎ Ruled b z n p
    by (refused i j) f q = let s : strict_at b z ≡ refused i j = rw f in inl (f ∙ sym s ∙ q)
    by (accepted m) f q = let w = walks-again b z m f in inr (rule m w.0 w.1 (zero_or (broken b m w.0)))
