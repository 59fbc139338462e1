-- `strict::judge` meets its contract. Assumes nothing.
use mathlib.Core.Path.{sym}
use Rattle.strict.proofs.Judging.{judged-got}
use Rattle.strict.proofs.judge.Goals as goal

pub returns : goal.returns
returns c =
    let m = c.args.m in
    let l = c.args.tables.now in
    judged-got c.args.file.now m.version l.sections.now m.sections l.exports.now m.exports (sym c.in-Ok.ensures) c.lowest.ensures
