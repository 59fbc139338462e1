-- Tables of words, a domain beside each. Assumes nothing.
use mathlib.Core.Path.{◌≡◌, refl, sym, ap, ◌∙◌}
use mathlib.Core.Bool.{Bool, true, false}
use mathlib.Core.List.{List, [], ◌∷◌}
use Prim.Native.Nat.{ℕ, ◌<◌, ◌+◌}
use lib.ListN.{length, get_or, drop}
use Rattle.std.specs.Borrow.{Bor}
use Rattle.std.specs.Prelude.{Option, Some, None}
use Rattle.std.specs.Option.{unwrap_or}
use Rattle.std.proofs.Common.{add-one}
use Rattle.std.proofs.Math.Seq.{drop-cons}
use Rattle.refusal.specs.Pick.{pick}
use Rattle.text.specs.Find.{same}
use Rattle.domains.specs.declared.Domain.{Domain}
use Rattle.domains.specs.declared.Domain.TheVariants.{Unknown}
use Rattle.domains.specs.Domain.{domain_number, Perhaps, nothing, just, found, Word, word, word_in, table_words}
use Rattle.domains.specs.Classify.{Clue, entry, exact, classed_by, passes}

-- ---- a table from row i on: the text is the word of the row, or it is not
module _ (s : List ℕ) (table : List (Bor (List ℕ) × Domain)) (i : ℕ) (d : Bor (List ℕ) × Domain) (h : i < length table) where
  abbrev row : Bor (List ℕ) × Domain
  row = get_or table i d

  looked_at : word_in (table_words (drop i table)) s
      ≡ pick (same row.0.now s) (just (domain_number row.1)) (word_in (table_words (drop (i + 1) table)) s)
  unfolding word_in
  looked_at = rw (add-one i, drop-cons table i d h)

  pub at_word : same row.0.now s ≡ true → just (domain_number row.1) ≡ word_in (table_words (drop i table)) s
  at_word e = sym (rw e at looked_at)

  pub past_word : same row.0.now s ≡ false → word_in (table_words (drop i table)) s ≡ word_in (table_words (drop (i + 1) table)) s
  past_word e = rw e at looked_at

-- ---- the domain of a name by words, unknown where it is none of them
abbrev or_unknown : Perhaps → ℕ
or_unknown (just n) = n
or_unknown nothing = 6

abbrev pub exact_clues : List Word → List Clue
exact_clues [] = []
exact_clues (word w d ∷ ws) = entry (exact w) d ∷ exact_clues ws

pub classed_by_words : (ws : List Word) (s : List ℕ) (f : Option Domain) → found f ≡ word_in ws s
    → domain_number (unwrap_or f Unknown) ≡ classed_by (exact_clues ws) s
unfolding classed_by passes word_in
classed_by_words ws s f e = known f ∙ ap or_unknown e ∙ sym (classed ws)
  where
    known : (f : Option Domain) → domain_number (unwrap_or f Unknown) ≡ or_unknown (found f)
    known (Some d) = refl
    known None = refl

    either : (t : Bool) (n : ℕ) {a : ℕ} (b : Perhaps) → a ≡ or_unknown b → pick t n a ≡ or_unknown (pick t (just n) b)
    either true n b e = refl
    either false n b e = e

    classed : (ws : List Word) → classed_by (exact_clues ws) s ≡ or_unknown (word_in ws s)
    classed [] = refl
    classed (word w d ∷ ws) = either (same w s) d (word_in ws s) (classed ws)
