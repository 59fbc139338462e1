-- docs/RULES.md, "Programs": what `rewrite` prints of its input. Assumes nothing.
use Rattle.std.specs.Prelude.{List, ℕ}
use Rattle.refusal.specs.Said.{Said, accepted, refused, number_at, follow}
use Rattle.policy.specs.Reader.{read_policy}
use Rattle.policy.specs.View.{says}
use Rattle.policy_text.specs.Writer.{form, written}
use Rattle.report.specs.Prints.{whole_in}
use Rattle.report.specs.Texts.{refused_text}

-- bytes that were written, or the line of a refusal
abbrev pub told : Said (List ℕ) → List ℕ
told (accepted w) = w
told (refused n p) = refused_text n (number_at p)

-- a policy that was read, in its one form
unfoldable pub printed_of : List ℕ → List ℕ
printed_of s = told (follow (read_policy s) (λ p. accepted (form (says s p))))

-- no text is printed as more bytes
abbrev pub enough : ℕ
enough = 98340

-- ---- into so much room
abbrev pub told_in : ℕ → Said (List ℕ) → List ℕ
told_in room (accepted w) = w
told_in room (refused n p) = whole_in room (refused_text n (number_at p))

-- the reader, then the writer of what it read: 16 where there is no room for it
unfoldable pub printed_in : ℕ → List ℕ → List ℕ
printed_in room s = told_in room (follow (read_policy s) (λ p. written s p room))
