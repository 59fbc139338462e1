-- No two answers satisfy the promise of any function of leb: an answer is known by its number and values. Assumes nothing.
use Rattle.std.proofs.Common.{sym, ◌∙◌}
use Rattle.leb.proofs.Known.{read-known, skip-known}
use Rattle.promises.specs.Decides.{Decides}
use Rattle.leb.proofs.Cursor.new.Kinds as new-kinds
use Rattle.leb.proofs.Cursor.new.Reads as new
use Rattle.leb.proofs.Cursor.position.Kinds as position-kinds
use Rattle.leb.proofs.Cursor.position.Reads as position
use Rattle.leb.proofs.Cursor.remaining.Kinds as remaining-kinds
use Rattle.leb.proofs.Cursor.remaining.Reads as remaining
use Rattle.leb.proofs.Cursor.is_empty.Kinds as is-empty-kinds
use Rattle.leb.proofs.Cursor.is_empty.Reads as is-empty
use Rattle.leb.proofs.Cursor.u8.Kinds as u8-kinds
use Rattle.leb.proofs.Cursor.u8.Reads as u8
use Rattle.leb.proofs.Cursor.u32_le.Kinds as u32-le-kinds
use Rattle.leb.proofs.Cursor.u32_le.Reads as u32-le
use Rattle.leb.proofs.Cursor.take.Kinds as take-kinds
use Rattle.leb.proofs.Cursor.take.Reads as take
use Rattle.leb.proofs.Cursor.skip.Kinds as skip-kinds
use Rattle.leb.proofs.Cursor.skip.Reads as skip
use Rattle.leb.proofs.Cursor.uleb128.Kinds as uleb128-kinds
use Rattle.leb.proofs.Cursor.uleb128.Reads as uleb128
use Rattle.leb.proofs.Cursor.uleb128_u32.Kinds as uleb128-u32-kinds
use Rattle.leb.proofs.Cursor.uleb128_u32.Reads as uleb128-u32
use Rattle.leb.proofs.Cursor.sleb128.Kinds as sleb128-kinds
use Rattle.leb.proofs.Cursor.sleb128.Reads as sleb128
use Rattle.leb.proofs.Cursor.counted.Kinds as counted-kinds
use Rattle.leb.proofs.Cursor.counted.Reads as counted
use Rattle.leb.proofs.Cursor.name.Kinds as name-kinds
use Rattle.leb.proofs.Cursor.name.Reads as name
use Rattle.leb.proofs.RefusalFromUnread.from.Kinds as from-unread-kinds
use Rattle.leb.proofs.RefusalFromUnread.from.Reads as from-unread

pub new-decides : Decides new-kinds.ps new-kinds.r new.Post
new-decides κs a x y s t p q = p ∙ sym q

pub position-decides : Decides position-kinds.ps position-kinds.r position.Post
position-decides κs a x y s t p q = p ∙ sym q

pub remaining-decides : Decides remaining-kinds.ps remaining-kinds.r remaining.Post
remaining-decides κs a x y s t p q = p ∙ sym q

pub is-empty-decides : Decides is-empty-kinds.ps is-empty-kinds.r is-empty.Post
is-empty-decides κs a x y s t p q = p ∙ sym q

pub u8-decides : Decides u8-kinds.ps u8-kinds.r u8.Post
u8-decides κs a x y s t p q = read-known x y (p ∙ sym q)

pub u32-le-decides : Decides u32-le-kinds.ps u32-le-kinds.r u32-le.Post
u32-le-decides κs a x y s t p q = read-known x y (p ∙ sym q)

pub take-decides : Decides take-kinds.ps take-kinds.r take.Post
take-decides κs a x y s t p q = read-known x y (p ∙ sym q)

pub skip-decides : Decides skip-kinds.ps skip-kinds.r skip.Post
skip-decides κs a x y s t p q = skip-known x y (p ∙ sym q)

pub uleb128-decides : Decides uleb128-kinds.ps uleb128-kinds.r uleb128.Post
uleb128-decides κs a x y s t p q = read-known x y (p ∙ sym q)

pub uleb128-u32-decides : Decides uleb128-u32-kinds.ps uleb128-u32-kinds.r uleb128-u32.Post
uleb128-u32-decides κs a x y s t p q = read-known x y (p ∙ sym q)

pub sleb128-decides : Decides sleb128-kinds.ps sleb128-kinds.r sleb128.Post
sleb128-decides κs a x y s t p q = read-known x y (p ∙ sym q)

pub counted-decides : Decides counted-kinds.ps counted-kinds.r counted.Post
counted-decides κs a x y s t p q = read-known x y (p ∙ sym q)

pub name-decides : Decides name-kinds.ps name-kinds.r name.Post
name-decides κs a x y s t p q = read-known x y (p ∙ sym q)

-- why a read of any kind was refused: `?` hands it on by this one function
pub from-unread-decides : Decides from-unread-kinds.ps from-unread-kinds.r from-unread.Post
from-unread-decides κs a x y s t p q = p ∙ sym q
