-- No two answers satisfy the promise of any function of refusal. Assumes nothing.
use Rattle.std.proofs.Common.{sym, ◌∙◌}
use Rattle.promises.specs.Decides.{Decides}
use Rattle.refusal.proofs.fits.Kinds as fits-kinds
use Rattle.refusal.proofs.fits.Reads as fits
use Rattle.refusal.proofs.number.Kinds as number-kinds
use Rattle.refusal.proofs.number.Reads as number
use Rattle.refusal.proofs.place.Kinds as place-kinds
use Rattle.refusal.proofs.place.Reads as place
use Rattle.refusal.proofs.beside.Kinds as beside-kinds
use Rattle.refusal.proofs.beside.Reads as beside
use Rattle.refusal.proofs.moved.Kinds as moved-kinds
use Rattle.refusal.proofs.moved.Reads as moved
use Rattle.refusal.proofs.slug_of.Kinds as slug-of-kinds
use Rattle.refusal.proofs.slug_of.Reads as slug-of

pub fits-decides : Decides fits-kinds.ps fits-kinds.r fits.Post
fits-decides κs a x y s t p q = p ∙ sym q

pub number-decides : Decides number-kinds.ps number-kinds.r number.Post
number-decides κs a x y s t p q = p ∙ sym q

pub place-decides : Decides place-kinds.ps place-kinds.r place.Post
place-decides κs a x y s t p q = p ∙ sym q

pub beside-decides : Decides beside-kinds.ps beside-kinds.r beside.Post
beside-decides κs a x y s t p q = p ∙ sym q

pub moved-decides : Decides moved-kinds.ps moved-kinds.r moved.Post
moved-decides κs a x y s t p q = p ∙ sym q

pub slug-of-decides : Decides slug-of-kinds.ps slug-of-kinds.r slug-of.Post
slug-of-decides κs a x y s t p q = p ∙ sym q
