-- What is claimed of a report: proofs/Ending proves the record. Assumes nothing.
use Rattle.std.specs.Prelude.{◌≡◌, List, ◌++◌, ℕ}
use Rattle.refusal.specs.Said.{Place}
use Rattle.reviewed.specs.Words.{pass_w, no_stand_w, no_compliant_w, neither_w, none_w, unread_w}
use Rattle.reviewed.specs.Texts.{none_text}
use Rattle.reviewed.specs.Review.{File, review_of, unread_of}

-- a verdict line: one of four verdicts, or none, with the reason
pub data VerdictLine : List ℕ → Type 0 where
  passes : VerdictLine pass_w
  stands-not : VerdictLine no_stand_w
  complies-not : VerdictLine no_compliant_w
  neither : VerdictLine neither_w
  refused-with : (whose : List ℕ) (number : ℕ) (place : Place) → VerdictLine (none_text whose number place)
  not-read : (whose : List ℕ) → VerdictLine (none_w ++ (whose ++ unread_w))

pub record EndsIn (w : List ℕ) : Type 0 where
  pub before : List ℕ
  pub last : List ℕ
  pub verdict : VerdictLine last
  pub is : w ≡ before ++ last

pub record Reviewing : Type 0 where
  -- Every report ends in a verdict line: of a candidate that is refused, or cannot be read, too.
  pub report-ends : (text baseline candidate : File) → EndsIn (review_of text baseline candidate)
  pub unread-ends : (whose path : List ℕ) → EndsIn (unread_of whose path)
