-- `lines::put_none` meets its contract. Assumes nothing.
use mathlib.Core.Path.{◌≡◌, sym}
use native.Mathlib.Omega.{arith}
use Rattle.refusal.specs.Said.{number_of, place_of}
use Rattle.output.proofs.Writing.{added_then}
use Rattle.report.proofs.Short.{refused-short}
use Rattle.report.proofs.Telling.{line-text}
use Rattle.report.specs.Texts.{refused_text}
use Rattle.reviewed.specs.Texts.{none_text}
use Rattle.reviewed.proofs.Telling.{added-same}
use Rattle.reviewed.proofs.lines.put_none.Goals as goal

pub returns-clause-added : goal.returns-clause-added
unfolding none_text
returns-clause-added c =
    let a = c.args in
    let e : number_of a.why ≡ c.number.result = sym c.number.ensures in
    let f : place_of a.why ≡ c.place.result = sym c.place.ensures in
    let s = refused-short c.number.result c.place.result (omega arith) (omega arith) in
    let l = line-text (refused_text c.number.result c.place.result) (omega arith) c.refused_line.ensures in
    rw (e, f) (added_then c.put.ensures.added (added_then c.put-2.ensures.added (added-same l c.put_line.ensures.added)))
