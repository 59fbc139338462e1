-- The round trip of policies, of what `read_policy` and `write_policy` promise. Rewrite proves the record. Assumes nothing.
use Rattle.std.specs.Prelude.{◌≡◌, List, ℕ, ◌+◌, ◌≤◌, length}
use Rattle.refusal.specs.Said.{accepted}
use Rattle.refusal.specs.Sizes.{text_limit}
use Rattle.policy.specs.declared.Policy.{Policy}
use Rattle.policy.specs.Reader.{read_policy}
use Rattle.policy.specs.View.{says}
use Rattle.verdicts.specs.Evaluate.{effective_of}
use Rattle.output.specs.Bytes.{room_for}
use Rattle.policy_text.specs.Token.{tokens_in, all_tokens}
use Rattle.policy_text.specs.Writer.{form, written}

-- a policy read from a text, written, read again: the same name, default, stances and tokens; and written again the same bytes
pub record Rewritten (s : List ℕ) (p : Policy) (o : List ℕ) : Type 0 where
  pub policy : Policy
  pub read : read_policy o ≡ accepted policy
  pub same : says o policy ≡ says s p
  pub again : (room : ℕ) → written o policy room ≡ room_for o room

pub record RoundTrip : Type 0 where
  -- What is written for a policy that was read, if it is at most 65,536 bytes, reads back as the same policy, which is written as the
  -- same bytes.
  pub rewriting : (s : List ℕ) (p : Policy) → read_policy s ≡ accepted p → length (form (says s p)) ≤ text_limit
      → Rewritten s p (form (says s p))
  -- A policy that was read is never refused 15 with its text: the writer writes it where there is room,
  pub written_read : (s : List ℕ) (p : Policy) → read_policy s ≡ accepted p → (room : ℕ) → written s p room ≡ room_for (form (says s p)) room
  -- and its tokens are listed.
  pub listed-read : (s : List ℕ) (p : Policy) → read_policy s ≡ accepted p → (d : ℕ)
      → all_tokens s p d ≡ accepted (tokens_in s (effective_of p d).from ((effective_of p d).from + (effective_of p d).len))
