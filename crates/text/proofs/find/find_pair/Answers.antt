-- `find_pair` meets its contract: what is left of the text answers as the whole does. Assumes nothing.
use mathlib.Core.Path.{◌≡◌}
use mathlib.Core.Bool.{false}
use mathlib.Core.List.{[], ◌∷◌}
use native.Mathlib.Omega.{arith}
use lib.ListN.{drop}
use Rattle.text.specs.Find.{begins, index_of2}
use Rattle.text.proofs.FindLaws.{seek_hit, seek-miss, seek-end, pair-here, pair-first, pair-last, pair-second}
use Rattle.text.proofs.find.find_pair.Goals as goal
use Rattle.text.proofs.find.find_pair.Goals.{else-s-i-via-then-s-i+then-i-s+else-s-i-2, else-s-i-via-then-s-i+else-i-s}
use Rattle.text.proofs.find.find_pair.Goals.{else-s-i-via-else-s-i}

pub returns-then-s-i-2 : goal.returns-then-s-i-2
unfolding index_of2
returns-then-s-i-2 c =
    let a = c.args in
    let e = pair-here a.a a.b a.s.now c.loop-i.i c.if-i-s.true c.if-s-i.true c.if-s-i-2.true in
    omega (arith, seek_hit (begins (a.a ∷ a.b ∷ [])) a.s.now c.loop-i.i (omega arith) e)

pub loop-i-preserved : goal.loop-i-preserved
unfolding index_of2
loop-i-preserved c =
    let a = c.args in
    let i = c.loop-i.i in
    let e : begins (a.a ∷ a.b ∷ []) (drop i a.s.now) ≡ false =
    elim c.else-s-i.branch [
      | else-s-i-via-then-s-i+then-i-s+else-s-i-2 w ↦ pair-second a.a a.b a.s.now i w.if-i-s.true w.if-s-i-2.false
      | else-s-i-via-then-s-i+else-i-s w ↦ pair-last a.a a.b a.s.now i (omega arith) w.if-i-s.false
      | else-s-i-via-else-s-i w ↦ pair-first a.a a.b a.s.now i (omega arith) w.if-s-i.false
    ] in
    omega (arith, seek-miss (begins (a.a ∷ a.b ∷ [])) a.s.now i (omega arith) e)

pub returns : goal.returns
unfolding index_of2
returns c =
    let a = c.args in
    omega (arith, seek-end (begins (a.a ∷ a.b ∷ [])) a.s.now c.loop-i.i (omega arith))
