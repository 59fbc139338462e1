-- docs/RULES.md, "Programs": how long a report can be. proofs/Whole proves the record. Assumes nothing.
use Rattle.std.specs.Prelude.{◌≡◌, List, ℕ, ◌≤◌, ◌<◌, length}
use Rattle.conform.specs.Claims.{Bytes}
use Rattle.reviewed.specs.Review.{File, review_of, unread_of, or_no_room}

-- no report is longer; the program lends 1,310,720 bytes
abbrev pub longest_report : ℕ
longest_report = 1218700

-- the program takes no more of a path
abbrev pub path_limit : ℕ
path_limit = 4096

-- what the program hands over: paths of at most so many bytes, and modules of bytes. How long the files are is not asked
pub record HandedOver (text baseline candidate : File) : Type 0 where
  pub text_path : length text.path ≤ path_limit
  pub baseline-path : length baseline.path ≤ path_limit
  pub candidate-path : length candidate.path ≤ path_limit
  pub baseline-bytes : Bytes baseline.bytes
  pub candidate-bytes : Bytes candidate.bytes

pub record Lengths : Type 0 where
  pub enough-room : (t b c : File) → HandedOver t b c → length (review_of t b c) ≤ longest_report
  -- So with more room all of a report is printed, and never the line that there is none for it.
  pub same-in-room : (t b c : File) (room : ℕ) → HandedOver t b c → longest_report < room → or_no_room room (review_of t b c) ≡ review_of t b c
  -- The same of a candidate that cannot be read, or whose policy or baseline cannot.
  pub unread-in-room : (whose path : List ℕ) (room : ℕ) → length whose ≤ 9 → length path ≤ path_limit → longest_report < room
      → or_no_room room (unread_of whose path) ≡ unread_of whose path
