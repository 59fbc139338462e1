-- Strict reads with tables of other sizes, and the verdict with tables of its own. Assumes nothing.
use Rattle.std.specs.Prelude.{Result, Ok, Err}
use Rattle.std.specs.Result.{IsErrAnd}
use Prim.Native.Nat.{ℕ}
use mathlib.Core.Path.{◌≡◌, refl, sym, ◌∙◌, ap}
use mathlib.Core.List.{List}
use lib.ListN.{length, replicate, length-replicate}
use Rattle.refusal.specs.Said.{Said, accepted, refused, refused_by, follow, said_by, Place}
use Rattle.refusal.specs.declared.Refusal.{Refusal}
use Rattle.refusal.specs.contracts.Refusal.{the_row, the_type as refusals}
use Rattle.std.specs.contracts.result.Result.{the_type as results}
use denote.Builtin.{unit}
use denote.Enum.Declared.{tag_of}
use Rattle.refusal.proofs.Known.{full-tagged}
use Rattle.refusal.proofs.Following.{never, followed, first-refused}
use native.Mathlib.Omega.{arith}
use Rattle.table.proofs.Larger as larger
use Rattle.table.proofs.Larger.{Sure, same, spare, sure-same, sure-follow, accepts-too}
use Rattle.wasm.specs.declared.Module.{Module}
use Rattle.wasm.specs.Module.{Sizes, sizes, Lent, module_of, ModuleIs}
use Rattle.conform.specs.Sound.{Larger, few, limits}
use Rattle.conform.proofs.Larger.{larger-sure, limits-largest}
use Rattle.strict.specs.Rules.{strict_at, sized, tested_at}
use Rattle.strict.specs.Claims.{StrictLarger, StrictRefusedSame, StrictLimits, TestedRead}
use Rattle.strict.proofs.Strictly.{strict-plain}

-- ---- room
strict-sure : (b : List ℕ) (z w : Sizes) → Larger z w → Sure larger.Full (strict_at b z) (strict_at b w)
unfolding strict_at
strict-sure b z w h = sure-follow _ _ _ _ (larger-sure b z w h) (λ m. sure-same _)

pub strict-larger : StrictLarger
strict-larger b z w m h e = accepts-too (strict-sure b z w h) m e

pub strict-refused-same : StrictRefusedSame
strict-refused-same b z w n p h other e = by (strict-sure b z w h)
  where
    by : Sure larger.Full (strict_at b z) (strict_at b w) → strict_at b w ≡ refused n p
    by (same q) = sym q ∙ e
    by (spare i j full q) = let f = sym e ∙ q in absurd (other (let k : n ≡ i = cc in k ∙ full))

pub strict-limits : StrictLimits
strict-limits b z m e = strict-larger b z limits m (limits-largest z) e

-- ---- the verdict
pub tested-read : TestedRead
unfolding tested_at
tested-read b e =
    let o = followed (strict_at b limits) (λ m. accepted tt) e in
    (o.what, o.first, strict-plain b limits o.what o.first)

-- tables of so many cells, as they are made
pub sized-is : (s i e n : ℕ) → sizes (replicate s 0) (replicate i 0) (replicate e 0) (replicate n 0) ≡ sized s i e n
sized-is s i e n = simp length-replicate refl

-- what a read with some tables says
module _ (b : List ℕ) (z : Sizes) (l : Lent) where
  pub tested-good : (m : Module) → ModuleIs (length b) z (strict_at b z) l (accepted m) → accepted tt ≡ tested_at b z
  unfolding tested_at follow
  tested-good m h =
      let o = followed (strict_at b z) (λ p. accepted (module_of (length b) p)) (sym h.answer-is) in
      rw o.first

  pub tested-bad : (w : Refusal) (r : Result (Unit {0}) Refusal) → ModuleIs (length b) z (strict_at b z) l (refused_by w)
      → IsErrAnd r (λ e. e ≡ w) → said_by r ≡ tested_at b z
  unfolding tested_at follow
  tested-bad w (Ok v) h q = absurd q
  tested-bad w (Err e) h q =
      let f = first-refused (strict_at b z) (module_of (length b)) (sym h.answer-is) in
      rw (q, f)

-- tables for few rows: what is not refused for want of room is the answer
module _ (b : List ℕ) where
  few-sure : Sure larger.Full (tested_at b few) (tested_at b limits)
  unfolding tested_at
  few-sure = sure-follow _ _ _ _ (strict-sure b few limits (limits-largest few)) (λ m. sure-same _)

  settled : (x : Said (Unit {0})) → x ≡ tested_at b few → ((p : Place) → x ≡ refused 13 p → ⊥) → x ≡ tested_at b limits
  settled x h other = by few-sure
    where
      by : Sure larger.Full (tested_at b few) (tested_at b limits) → x ≡ tested_at b limits
      by (same e) = h ∙ e
      by (spare n p full e) = absurd (other p (h ∙ e ∙ ap (λ (k : ℕ). refused k p) full))

  pub settled-refused : (w : Refusal) → refused_by w ≡ tested_at b few → (tag_of refusals w ≡ 11 → ⊥) → refused_by w ≡ tested_at b limits
  settled-refused w h other = settled (refused_by w) h (λ p z. other (full-tagged w (number-of z)))
    where
      number-of : {n m : ℕ} {p o : Place} → ◌≡◌ {A = Said (Unit {0})} (refused n p) (refused m o) → n ≡ m
      number-of z = cc

  pub settled-accepted : (r : Result (Unit {0}) Refusal) → said_by r ≡ tested_at b few → tag_of (results unit the_row) r ≡ 0
      → said_by r ≡ tested_at b limits
  settled-accepted (Ok v) h e = settled (accepted v) h (λ p z. never (sym z))
  settled-accepted (Err w) h e = absurd (omega (arith, e))
