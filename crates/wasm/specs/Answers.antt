-- What a reader of the code answers, in the rules' words. Assumes nothing.
use Rattle.std.specs.Prelude.{Result, Ok, Err}
use Rattle.refusal.specs.Said.{Said, accepted, refused_by, Got, got}
use Rattle.refusal.specs.declared.Refusal.{Refusal}
use Rattle.leb.specs.declared.Cursor.{Cursor}

-- a value and the cursor after it, or a refusal
abbrev pub said_got : {X : Type 0} → Result (X × Cursor) Refusal → Said (Got X)
said_got (Ok (v, next)) = accepted (got v next.at)
said_got (Err why) = refused_by why
