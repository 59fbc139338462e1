-- `reasons::put_kind` meets its contract. Assumes nothing.
use Rattle.kinds.specs.Kinds.{kind_of, kind_word}
use Rattle.output.proofs.Words.{SlugIs}
use Rattle.reasons.proofs.KindWords.{kind-is}
use Rattle.reasons.proofs.put_kind.Goals as goal

pub slice_bounds-bytes-end : goal.slice_bounds-bytes-end
slice_bounds-bytes-end c =
    let word-is : SlugIs (kind_word (kind_of c.args.kind)) c.kind_slug-word.result = kind-is _ c.kind_of.ensures c.kind_slug-word.ensures in
    (word-is).fits

pub slice_bounds-put-end : goal.slice_bounds-put-end
slice_bounds-put-end c =
    let word-is : SlugIs (kind_word (kind_of c.args.kind)) c.kind_slug-word.result = kind-is _ c.kind_of.ensures c.kind_slug-word.ensures in
    (word-is).long

pub returns-clause-added : goal.returns-clause-added
returns-clause-added c =
    let word-is : SlugIs (kind_word (kind_of c.args.kind)) c.kind_slug-word.result = kind-is _ c.kind_of.ensures c.kind_slug-word.ensures in
    rw (word-is).word at c.put.ensures.added
