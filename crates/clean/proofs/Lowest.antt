-- The strict reader names the lowest rule that the derivation breaks. Assumes nothing.
use Prim.Native.Nat.{ℕ, zero, suc, ◌^◌, ◌≤◌, ◌<◌}
use native.Mathlib.Omega.{arith}
use mathlib.Core.Path.{◌≡◌, refl, sym, ◌∙◌, ap, subst}
use mathlib.Core.Logic.{◌↔◌}
use mathlib.Core.Bool.{Bool, true, false}
use mathlib.Core.List.{List}
use lib.ListN.{length}
use lib.Dec.{eqb, ltb}
use borrow.Author.Tests.{eqb-true, eqb-false, eq-eqb, ne_eqb, ltb-true, ltb-false}
use Rattle.refusal.specs.Pick.{pick}
use Rattle.refusal.specs.Said.{Said, accepted, refused, follow, onward, spot}
use Rattle.refusal.proofs.Following.{never}
use Rattle.refusal.specs.Each.{Each}
use Rattle.wasm.specs.Module.{Sizes, Parsed, module_at}
use Rattle.conform.specs.Port.{SectionSaid, AnyModule, version_of}
use Rattle.conform.specs.Claims.{Rows}
use Rattle.conform.specs.Sound.{ExportOk}
use Rattle.strict.specs.Again.{fresh, marks_at}
use Rattle.strict.specs.Rules.{lowest_of, broken, held, strict_at}
use Rattle.clean.specs.Rules.{Rule}
use Rattle.clean.specs.Claims.{Strict, Lowest}
use Rattle.clean.proofs.Rewalked.{Looked, marks-tell-rules}
use Rattle.clean.proofs.Tabled.{ids-tested, order-tested, names-tested, kinds-tested}

-- ---- the first of a row of tests that fails
module _ (R : ℕ → Type 0) where
  -- those before n
  unfoldable Firsts : ℕ → Type 0
  Firsts zero = Unit {0}
  Firsts (suc n) = Firsts n × R n

  -- 0: all before 9; any other: that one is the first that fails
  unfoldable First : ℕ → Type 0
  First zero = Firsts 9
  First (suc r) = (suc r ≤ 8) × Firsts (suc r) × (R (suc r) → ⊥)

  tested : (n : ℕ) (x : Bool) (rest : ℕ) → suc n ≤ 8 → Firsts (suc n) → (x ≡ true) ↔ R (suc n) → (Firsts (suc (suc n)) → First rest)
      → First (pick x rest (suc n))
  unfolding First Firsts
  tested n true rest k f a g = g (f, a.0 refl)
  tested n false rest k f a g = (k, f, λ r. no (a.1 r))
    where
      no : false ≡ true → ⊥
      no e = let z : ◌≡◌ {A = ℕ} 0 1 = cc in omega arith

  before : (n : ℕ) → Firsts n → (i : ℕ) → i < n → R i
  unfolding Firsts
  before zero f i h = absurd (omega arith)
  before (suc n) f i h = by (eqb i n) refl (λ k. before n f.0 i k)
    where
      by : (t : Bool) → eqb i n ≡ t → (i < n → R i) → R i
      by true t g = subst R (sym (eqb-true i n t)) f.1
      by false t g = g (omega (arith, eqb-false i n t))

-- ---- a derivation, and a plain read with the rows of its sections
module _ {b : List ℕ} {vs : List SectionSaid} (d : AnyModule b vs) (size : length b < 2 ^ 64) (m : Parsed)
    (version : m.version ≡ version_of b) (rows : Rows b m.tables vs) (ok : Each (ExportOk (length b)) m.tables.exports) where
  look : Looked (marks_at b) fresh (Rule d 2) (Rule d 5) (Rule d 8)
  look = marks-tell-rules d size

  version-tested : (eqb m.version 1 ≡ true) ↔ Rule d 1
  version-tested = (λ e. sym version ∙ eqb-true m.version 1 e, λ r. eq-eqb m.version 1 (version ∙ r))

  short-tested : (look.marks.short ≡ true) ↔ Rule d 2
  unfolding fresh
  short-tested = let j = look.judged.short in (λ e. (j.0 e).1, λ r. j.1 (refl, r))

  used-tested : (look.marks.used ≡ true) ↔ Rule d 5
  unfolding fresh
  used-tested = let j = look.judged.used in (λ e. (j.0 e).1, λ r. j.1 (refl, r))

  plain-tested : (look.marks.plain ≡ true) ↔ Rule d 8
  unfolding fresh
  plain-tested = let j = look.judged.plain in (λ e. (j.0 e).1, λ r. j.1 (refl, r))

  first-broken : First (Rule d) (broken b m look.marks)
  unfolding broken lowest_of Firsts First
  first-broken =
      tested (Rule d) 0 _ _ (omega arith) (tt, tt) version-tested (λ f.
      tested (Rule d) 1 _ _ (omega arith) f short-tested (λ f.
      tested (Rule d) 2 _ _ (omega arith) f (ids-tested d m rows ok) (λ f.
      tested (Rule d) 3 _ _ (omega arith) f (order-tested d m rows ok f.1) (λ f.
      tested (Rule d) 4 _ _ (omega arith) f used-tested (λ f.
      tested (Rule d) 5 _ _ (omega arith) f (names-tested d m rows ok f.0.1) (λ f.
      tested (Rule d) 6 _ _ (omega arith) f (kinds-tested d m rows ok f.0.0.1) (λ f.
      tested (Rule d) 7 _ 0 (omega arith) f plain-tested (λ f. f))))))))

  -- ---- what the strict reader says
  beyond : (i : ℕ) → 9 ≤ i → Rule d i
  beyond zero h = absurd (omega arith)
  beyond (suc zero) h = absurd (omega arith)
  beyond (suc (suc zero)) h = absurd (omega arith)
  beyond (suc (suc (suc zero))) h = absurd (omega arith)
  beyond (suc (suc (suc (suc zero)))) h = absurd (omega arith)
  beyond (suc (suc (suc (suc (suc zero))))) h = absurd (omega arith)
  beyond (suc (suc (suc (suc (suc (suc zero)))))) h = absurd (omega arith)
  beyond (suc (suc (suc (suc (suc (suc (suc zero))))))) h = absurd (omega arith)
  beyond (suc (suc (suc (suc (suc (suc (suc (suc zero)))))))) h = absurd (omega arith)
  beyond (suc (suc (suc (suc (suc (suc (suc (suc (suc i))))))))) h = tt

  all_hold : Firsts (Rule d) 9 → Strict d
  all_hold f i = by (ltb i 9) refl where
    by : (t : Bool) → ltb i 9 ≡ t → Rule d i
    by true t = before (Rule d) 9 f i (ltb-true i 9 t)
    by false t = beyond i (ltb-false i 9 t)

  pub data Outcome (z : Sizes) : Type 0 where
    holds : Strict d → strict_at b z ≡ accepted m → Outcome z
    breaks : (r : ℕ) → Lowest d r → strict_at b z ≡ refused 20 (spot r) → Outcome z

  pub outcome : (z : Sizes) → module_at b z ≡ accepted m → Outcome z
  unfolding strict_at held follow onward First
  outcome z e = by (broken b m look.marks) refl first-broken where
    by : (n : ℕ) → broken b m look.marks ≡ n → First (Rule d) n → Outcome z
    by zero q f = Outcome.holds (all_hold f) (rw (e, look.is, q))
    by (suc r) q f =
        Outcome.breaks (suc r)
        (record { is-rule = (omega arith, f.0); below = λ i h. before (Rule d) (suc r) f.1 i h; broken = f.2 })
        (rw (e, look.is, q, ne_eqb (suc r) 0 (λ e. omega arith)))

-- ---- no two rules are the lowest
one-lowest : {b : List ℕ} {vs : List SectionSaid} (d : AnyModule b vs) (r k : ℕ) → Lowest d r → Lowest d k → r ≡ k
one-lowest d r k p q = by (ltb r k) (ltb k r) refl refl where
  by : (x y : Bool) → ltb r k ≡ x → ltb k r ≡ y → r ≡ k
  by true y e f = absurd (p.broken (q.below r (ltb-true r k e)))
  by false true e f = absurd (q.broken (p.below k (ltb-true k r f)))
  by false false e f = omega (arith, ltb-false r k e, ltb-false k r f)

module _ {b : List ℕ} {vs : List SectionSaid} {d : AnyModule b vs} {size : length b < 2 ^ 64} {m : Parsed}
    {version : m.version ≡ version_of b} {rows : Rows b m.tables vs} {ok : Each (ExportOk (length b)) m.tables.exports} {z : Sizes}
  where
    pub accepts-where : Outcome d size m version rows ok z → (strict_at b z ≡ accepted m) ↔ Strict d
    accepts-where (Outcome.holds s e) = (λ q. s, λ r. e)
    accepts-where (Outcome.breaks r l e) = (λ q. absurd (never (sym e ∙ q)), λ s. absurd (l.broken (s r)))

    pub refuses-where : Outcome d size m version rows ok z → (r : ℕ) → (strict_at b z ≡ refused 20 (spot r)) ↔ Lowest d r
    refuses-where (Outcome.holds s e) r = (λ q. absurd (never (sym q ∙ e)), λ l. absurd (l.broken (s r)))
    refuses-where (Outcome.breaks k l e) r =
        (λ q. subst (Lowest d) (same_place (sym e ∙ q)) l, λ p. e ∙ ap (λ (i : ℕ). refused 20 (spot i)) (one-lowest d k r l p))
      where
        same_place : {x y : ℕ} → ◌≡◌ {A = Said Parsed} (refused 20 (spot x)) (refused 20 (spot y)) → x ≡ y
        same_place q = cc
