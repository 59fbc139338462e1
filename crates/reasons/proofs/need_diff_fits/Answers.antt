-- `reasons::need_diff_fits` meets its contract. Assumes nothing.
use mathlib.Core.Path.{◌∙◌}
use borrow.Author.Tests.{lt-leb}
use Rattle.reasons.proofs.Testing.{need-over, need-fits}
use Rattle.reasons.proofs.need_diff_fits.Goals as goal

pub returns-then-cell-le-LAST_DOMAIN : goal.returns-then-cell-le-LAST_DOMAIN
returns-then-cell-le-LAST_DOMAIN c =
    need-fits _ _ _ _ c.cell.ensures c.if-cell-le-LAST_DOMAIN.true c.cell-then-cell-le-LAST_DOMAIN.ensures
    c.cell-then-cell-le-LAST_DOMAIN-2.ensures c.side.ensures

pub returns-else-cell-le-LAST_DOMAIN : goal.returns-else-cell-le-LAST_DOMAIN
returns-else-cell-le-LAST_DOMAIN c =
    let h = c.if-cell-le-LAST_DOMAIN.false in
    lt-leb _ _ h ∙ need-over _ _ _ _ c.cell.ensures h
