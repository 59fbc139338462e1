-- `trim` meets its contract. Assumes nothing.
use mathlib.Core.Path.{ap, ◌∙◌}
use native.Mathlib.Omega.{arith}
use Rattle.text.specs.Trim.{trim_end, trimmed}
use Rattle.text.proofs.Laws.{left-part}
use Rattle.text.proofs.CharLaws.{start-long}
use Rattle.text.proofs.white.trim.Goals as goal

pub slice_bounds-trim_end-count : goal.slice_bounds-trim_end-count
slice_bounds-trim_end-count c = omega (arith, start-long c.args.s.now)

pub slice_bounds-trim_end-start : goal.slice_bounds-trim_end-start
slice_bounds-trim_end-start c = omega (arith, start-long c.args.s.now)

pub returns : goal.returns
unfolding trimmed
returns c =
    let s = c.args.s.now in
    let e = c.trim_end-len.ensures ∙ ap trim_end (left-part s c.trim_start-from.result) in
    rw (e, c.trim_start-from.ensures)
