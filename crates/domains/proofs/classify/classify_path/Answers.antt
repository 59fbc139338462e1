-- `classify_path` meets its contract. Assumes nothing.
use mathlib.Core.Path.{sym, ◌∙◌}
use native.Mathlib.Omega.{arith}
use Rattle.domains.specs.Classify.{wasi}
use Rattle.text.proofs.PieceLaws.{begins-le}
use Rattle.domains.proofs.classify.classify_path.Goals as goal

pub slice_bounds-body_of-count : goal.slice_bounds-body_of-count
slice_bounds-body_of-count c =
    let s = c.args.path.now in
    let e = sym c.starts.ensures ∙ c.if-starts.true in
    omega (arith, begins-le wasi s e)

pub slice_bounds-body_of-start : goal.slice_bounds-body_of-start
slice_bounds-body_of-start c =
    let s = c.args.path.now in
    let e = sym c.starts.ensures ∙ c.if-starts.true in
    omega (arith, begins-le wasi s e)
