-- `versioned` meets its contract. Assumes nothing.
use mathlib.Core.Path.{sym}
use native.Mathlib.Omega.{arith}
use lib.Seq.{length-take-le}
use Rattle.text.proofs.FindLaws.{index-le}
use Rattle.domains.proofs.classify.versioned.Goals as goal

pub slice_bounds-head_of-end : goal.slice_bounds-head_of-end
slice_bounds-head_of-end c =
    let s = c.args.s.now in
    sym (length-take-le c.find-at.result s (omega (arith, c.find-at.ensures, index-le 64 s)))
