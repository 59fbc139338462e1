-- `read_build` meets its contract. Assumes nothing.
use Rattle.std.proofs.Common.{rules}
use Rattle.reviewed.proofs.Reading.{read-long, read_short}
use Rattle.reviewed.proofs.read_build.Goals as goal

pub returns-then-file-gt-MAX_TEXT : goal.returns-then-file-gt-MAX_TEXT
returns-then-file-gt-MAX_TEXT c = read-long _ _ _ c.if-file-gt-MAX_TEXT.true

pub returns : goal.returns
returns c = read_short _ c.if-file-gt-MAX_TEXT.false (rw (c.requires.0, c.requires.1)) c.read_module.ensures.read (search rules) (search rules)
