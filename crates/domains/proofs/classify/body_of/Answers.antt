-- `body_of` meets its contract. Assumes nothing.
use mathlib.Core.Path.{sym}
use native.Mathlib.Omega.{arith}
use lib.Seq.{length-take-le}
use Rattle.text.proofs.FindLaws.{index-le}
use Rattle.domains.proofs.classify.body_of.Goals as goal

pub slice_bounds-versioned-end : goal.slice_bounds-versioned-end
slice_bounds-versioned-end c =
    let s = c.args.s.now in
    sym (length-take-le c.find-slash.result s (omega (arith, c.find-slash.ensures, index-le 47 s)))
