-- `name_at` meets its contract. Assumes nothing.
use native.Mathlib.Omega.{arith}
use Rattle.text.specs.Piece.{bytes_between}
use Rattle.text.proofs.PieceLaws.{piece-long, trim-to}
use Rattle.policy.proofs.Quotes.{quotes-le}
use Rattle.policy.proofs.HeardLaws.{called_is}
use Rattle.policy.proofs.reader.name_at.Goals as goal

pub overflow_add-from : goal.overflow_add-from
overflow_add-from c =
    let s = c.args.s.now in
    let f = c.trimmed_at-t.result.from in
    let g = c.trimmed_at-t.result.past in
    omega (arith, c.quotes_of.ensures, quotes-le (bytes_between s f g), piece-long s f g (omega arith))

pub slice_bounds-shorn_of-count : goal.slice_bounds-shorn_of-count
slice_bounds-shorn_of-count c =
    let s = c.args.s.now in
    let f = c.trimmed_at-t.result.from in
    let g = c.trimmed_at-t.result.past in
    omega (arith, c.quotes_of.ensures, quotes-le (bytes_between s f g), piece-long s f g (omega arith))

pub slice_bounds-shorn_of-start : goal.slice_bounds-shorn_of-start
slice_bounds-shorn_of-start c =
    let s = c.args.s.now in
    let f = c.trimmed_at-t.result.from in
    let g = c.trimmed_at-t.result.past in
    omega (arith, c.quotes_of.ensures, quotes-le (bytes_between s f g), piece-long s f g (omega arith))

pub returns : goal.returns
returns c =
    let a = c.args in
    called_is a.s.now a.a a.e c.trimmed_at-t.result.from c.trimmed_at-t.result.past c.quotes_of.result
    c.shorn_of-len.result (trim-to a.s.now a.a a.e (omega arith) (omega arith) c.trimmed_at-t.ensures.0)
    c.quotes_of.ensures c.shorn_of-len.ensures
