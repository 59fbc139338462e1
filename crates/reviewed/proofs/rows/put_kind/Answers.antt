-- `rows::put_kind` meets its contract. Assumes nothing.
use Rattle.output.proofs.Writing.{added_none}
use Rattle.output.proofs.Words.{SlugIs}
use Rattle.reasons.proofs.KindWords.{kind-is}
use Rattle.reviewed.proofs.Telling.{added-same, kind-none, kind-some}
use Rattle.kinds.specs.Kinds.{kind_of, kind_word}
use Rattle.reviewed.proofs.rows.put_kind.Goals as goal

pub returns-in_default-clause-added : goal.returns-in_default-clause-added
returns-in_default-clause-added c = added-same (kind-none c.args.kind c.in_default.ensures) (added_none c.args.out.now)

pub slice_bounds-bytes-end : goal.slice_bounds-bytes-end
slice_bounds-bytes-end c =
    let word-is : SlugIs (kind_word (kind_of c.in-Ok.kind)) c.kind_slug-word.result =
    kind-is _ c.kind_of.ensures c.kind_slug-word.ensures in
    word-is.fits

pub slice_bounds-put-end : goal.slice_bounds-put-end
slice_bounds-put-end c =
    let word-is : SlugIs (kind_word (kind_of c.in-Ok.kind)) c.kind_slug-word.result =
    kind-is _ c.kind_of.ensures c.kind_slug-word.ensures in
    word-is.long

pub returns-in-Ok-clause-added : goal.returns-in-Ok-clause-added
returns-in-Ok-clause-added c =
    let word-is : SlugIs (kind_word (kind_of c.in-Ok.kind)) c.kind_slug-word.result =
    kind-is _ c.kind_of.ensures c.kind_slug-word.ensures in
    added-same (kind-some c.in-Ok.ensures) (rw word-is.word at c.put.ensures.added)
