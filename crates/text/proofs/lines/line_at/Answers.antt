-- `line_at` meets its contract, by the place of the first LF in what is left. Assumes nothing.
use mathlib.Core.Path.{◌≡◌, sym, ap, ◌∙◌}
use mathlib.Core.List.{List}
use Prim.Native.Nat.{ℕ, ◌+◌, ◌-◌, ◌<◌}
use native.Mathlib.Omega.{arith}
use lib.ListN.{length, drop, take, get_or, length-drop}
use lib.Seq.{get_or-drop}
use Rattle.text.specs.Find.{index_of}
use Rattle.text.proofs.Laws.{left-part}
use Rattle.text.proofs.FindLaws.{index-le}
use Rattle.text.proofs.LineLaws.{len-past, len-none, len-empty, len-cr, len-lf}
use Rattle.text.proofs.lines.line_at.Goals as goal
use Rattle.text.proofs.lines.line_at.Goals.{else-at-lf-via-then-at-lf+else-s-lf-eq13, else-at-lf-via-else-at-lf}

record Found (s : List ℕ) (at lf : ℕ) : Type 0 where
  place : lf ≡ index_of 10 (drop at s)
  long : length (drop at s) ≡ length s - at

found : (s : List ℕ) (at lf : ℕ) → lf ≡ index_of 10 (take (length s - at) (drop at s)) → Found s at lf
found s at lf e = record { place = e ∙ ap (index_of 10) (left-part s at); long = length-drop at s }

-- the byte before the LF
byte : (s : List ℕ) (at lf : ℕ) → Found s at lf → 0 < lf
    → get_or (drop at s) (index_of 10 (drop at s) - 1) 0 ≡ get_or s (at + lf - 1) 0
byte s at lf f h =
    let i = index_of 10 (drop at s) in
    let p : at + (i - 1) ≡ at + lf - 1 = omega (arith, f) in
    get_or-drop at s (i - 1) 0 ∙ ap (λ (k : ℕ). get_or s k 0) p

pub returns-then-s-at : goal.returns-then-s-at
returns-then-s-at c = let a = c.args in omega (arith, len-past a.s.now a.at (omega arith))

pub overflow_add-lf : goal.overflow_add-lf
overflow_add-lf c =
    let a = c.args in
    let f = found a.s.now a.at c.find.result c.find.ensures in
    omega (arith, f, index-le 10 (drop a.at a.s.now))

pub returns-then-s-lf : goal.returns-then-s-lf
returns-then-s-lf c =
    let a = c.args in
    let f = found a.s.now a.at c.find.result c.find.ensures in
    omega (arith, f, len-none (drop a.at a.s.now) (omega (arith, f)))

pub returns-then-s-lf-eq13 : goal.returns-then-s-lf-eq13
returns-then-s-lf-eq13 c =
    let a = c.args in
    let f = found a.s.now a.at c.find.result c.find.ensures in
    let inside = c.if-s-lf.false in
    let later = c.if-at-lf.true in
    let r = drop a.at a.s.now in
    let cr = byte a.s.now a.at c.find.result f (omega (arith, later)) ∙ c.if-s-lf-eq13.true in
    omega (arith, f, len-cr r (omega (arith, f, inside)) (omega (arith, f, later)) cr)

pub returns : goal.returns
returns c =
    let a = c.args in
    let f = found a.s.now a.at c.find.result c.find.ensures in
    let r = drop a.at a.s.now in
    let inside : index_of 10 r < length r = omega (arith, f) in
    elim c.else-at-lf.branch [
      | else-at-lf-via-then-at-lf+else-s-lf-eq13 w ↦
          let later : 0 < c.find.result = omega (arith, w.if-at-lf.true) in
          let other : get_or r (index_of 10 r - 1) 0 ≡ 13 → ⊥ =
          λ e. w.if-s-lf-eq13.false (sym (byte a.s.now a.at c.find.result f later) ∙ e) in
          omega (arith, f, len-lf r inside (omega (arith, f, later)) other)
      | else-at-lf-via-else-at-lf w ↦ omega (arith, f, len-empty r inside (omega (arith, f, w.if-at-lf.false)))
    ]
