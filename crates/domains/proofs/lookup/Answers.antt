-- `lookup` meets its contract. Assumes nothing.
use mathlib.Core.Path.{sym, ◌∙◌}
use Rattle.std.proofs.lemmas.List.{at_drop_all}
use Rattle.domains.specs.Domain.{word_in, table_words}
use Rattle.domains.proofs.Tables.{at_word, past_word}
use Rattle.domains.proofs.lookup.Goals as goal

pub returns-then-equal : goal.returns-then-equal
returns-then-equal c =
    at_word _ _ _ _ c.loop-word-test.true (sym c.equal.ensures ∙ c.if-equal.true) ∙ sym c.loop-word.invariant

pub loop-word-preserved : goal.loop-word-preserved
loop-word-preserved c =
    c.loop-word.invariant ∙ past_word _ _ _ _ c.loop-word-test.true (sym c.equal.ensures ∙ c.if-equal.false)

pub returns : goal.returns
unfolding word_in
returns c =
    let s = c.args.s.now in
    let past = c.loop-word.invariant ∙ at_drop_all (λ left. word_in (table_words left) s) _ _ c.loop-word-test.false in
    sym past
