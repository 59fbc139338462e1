-- docs/RULES.md, "Numbered answers": what a call says, and how one call follows another. Assumes nothing.
use Rattle.std.specs.Prelude.{ℕ, ◌+◌, min, Result, Ok, Err}
use Rattle.refusal.specs.declared.Refusal.{Refusal}
use Rattle.refusal.specs.declared.Refusal.TheVariants.{UnexpectedEof, BadMagic, BadUtf8, MalformedSection, Directive}
use Rattle.refusal.specs.declared.Refusal.TheVariants.{BadDefault, BadDomain, PackageInWorld, NoName, Unmatched, Outside}
use Rattle.refusal.specs.declared.Refusal.TheVariants.{Full, TooLong, BadTable, NoRoom, TooManyBytes, TenthByte, AboveU32}
use Rattle.refusal.specs.declared.Refusal.TheVariants.{NotStrict}

-- Where: an offset of the bytes that were handed in; a line, a table, a row, a rule or so many bytes; a byte of the file, with its
-- offset beside it.
pub data Place : Type 0 where
  offset : ℕ → Place
  spot : ℕ → Place
  kind_at : ℕ → ℕ → Place

-- the number that is told as the place, and the one beside it: a byte's offset, and 0 where there is none
abbrev pub number_at : Place → ℕ
number_at (offset p) = p
number_at (spot p) = p
number_at (kind_at k o) = k

abbrev pub beside_at : Place → ℕ
beside_at (offset p) = 0
beside_at (spot p) = 0
beside_at (kind_at k o) = o

-- a sum of 64 bits, the largest number where it leaves them
abbrev pub further : ℕ → ℕ → ℕ
further by at = min (by + at) 18446744073709551615

-- an offset so much further on; what is no offset stays
abbrev pub moved_by : ℕ → Place → Place
moved_by by (offset p) = offset (further by p)
moved_by by (spot p) = spot p
moved_by by (kind_at k o) = kind_at k (further by o)

-- accepted with a value; or refused, with a number of the table and a place
pub data Said (X : Type 0) : Type 0 where
  accepted : X → Said X
  refused : ℕ → Place → Said X

-- the table's number of each refusal
abbrev pub number_of : Refusal → ℕ
number_of (UnexpectedEof p) = 1
number_of (BadMagic p) = 2
number_of (BadUtf8 p) = 4
number_of (MalformedSection p o) = 5
number_of (Directive p) = 6
number_of (BadDefault p) = 7
number_of (BadDomain p) = 8
number_of (PackageInWorld p) = 9
number_of (NoName p) = 10
number_of (Unmatched p) = 11
number_of (Outside p) = 12
number_of (Full p) = 13
number_of TooLong = 14
number_of (BadTable p) = 15
number_of (NoRoom p) = 16
number_of (TooManyBytes p) = 17
number_of (TenthByte p) = 18
number_of (AboveU32 p) = 19
number_of (NotStrict p) = 20

-- where each refusal is: by what its place is a place of
abbrev pub where_of : Refusal → Place
where_of (UnexpectedEof p) = offset p
where_of (BadMagic p) = offset p
where_of (BadUtf8 p) = offset p
where_of (MalformedSection p o) = kind_at p o
where_of (Directive p) = spot p
where_of (BadDefault p) = spot p
where_of (BadDomain p) = spot p
where_of (PackageInWorld p) = spot p
where_of (NoName p) = spot p
where_of (Unmatched p) = spot p
where_of (Outside p) = spot p
where_of (Full p) = spot p
where_of TooLong = spot 0
where_of (BadTable p) = spot p
where_of (NoRoom p) = spot p
where_of (TooManyBytes p) = offset p
where_of (TenthByte p) = offset p
where_of (AboveU32 p) = offset p
where_of (NotStrict p) = spot p

-- its place as one number, and the offset beside it: of 5, and 0 for any other
abbrev pub place_of : Refusal → ℕ
place_of why = number_at (where_of why)

abbrev pub beside_of : Refusal → ℕ
beside_of why = beside_at (where_of why)

-- a refusal so much further on
abbrev pub moved_on : ℕ → Refusal → Refusal
moved_on by (UnexpectedEof p) = UnexpectedEof (further by p)
moved_on by (BadMagic p) = BadMagic (further by p)
moved_on by (BadUtf8 p) = BadUtf8 (further by p)
moved_on by (MalformedSection p o) = MalformedSection p (further by o)
moved_on by (Directive p) = Directive p
moved_on by (BadDefault p) = BadDefault p
moved_on by (BadDomain p) = BadDomain p
moved_on by (PackageInWorld p) = PackageInWorld p
moved_on by (NoName p) = NoName p
moved_on by (Unmatched p) = Unmatched p
moved_on by (Outside p) = Outside p
moved_on by (Full p) = Full p
moved_on by TooLong = TooLong
moved_on by (BadTable p) = BadTable p
moved_on by (NoRoom p) = NoRoom p
moved_on by (TooManyBytes p) = TooManyBytes (further by p)
moved_on by (TenthByte p) = TenthByte (further by p)
moved_on by (AboveU32 p) = AboveU32 (further by p)
moved_on by (NotStrict p) = NotStrict p

abbrev pub refused_by : {X : Type 0} → Refusal → Said X
refused_by why = refused (number_of why) (where_of why)

-- what is done with a value that was accepted; a refusal goes up unseen
unfoldable pub follow : {X Y : Type 0} → Said X → (X → Said Y) → Said Y
follow (accepted v) f = f v
follow (refused n p) f = refused n p

-- what was read of a part that starts so far on: its refusals' offsets move, and nothing else
unfoldable pub relocated : {X : Type 0} → ℕ → Said X → Said X
relocated by (accepted v) = accepted v
relocated by (refused n p) = refused n (moved_by by p)

-- what a call answers: its value, or why there is none
abbrev pub said_by : {X : Type 0} → Result X Refusal → Said X
said_by (Ok v) = accepted v
said_by (Err why) = refused_by why

-- ---- readers: a value that was read, and the offset after it
pub data Got (X : Type 0) : Type 0 where
  got : X → ℕ → Got X

-- what is read next, from the offset after a value; a refusal goes up unseen
unfoldable pub onward : {X Y : Type 0} → Said (Got X) → (X → ℕ → Said Y) → Said Y
onward (accepted (got v next)) f = f v next
onward (refused n p) f = refused n p
