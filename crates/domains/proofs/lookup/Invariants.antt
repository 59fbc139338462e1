-- The text is none of the words before. Assumes nothing.
use Rattle.std.proofs.Common.{◌≡◌, drop}
use Rattle.domains.specs.Domain.{word_in, table_words}
use Rattle.domains.proofs.lookup.Given as goal

abbrev pub invariant-loop-word : goal.invariant-loop-word
invariant-loop-word l = word_in (table_words l.table) l.s ≡ word_in (table_words (drop l.word-index l.table)) l.s
