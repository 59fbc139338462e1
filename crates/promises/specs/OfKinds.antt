-- No two answers satisfy the promise of any function of kinds. Assumes nothing.
use Rattle.std.specs.Prelude.{◌≡◌, refl, [], ◌∷◌}
use Rattle.std.proofs.Common.{sym, ◌∙◌}
use Rattle.kinds.specs.Kinds.{kind_byte, kind_word}
use Rattle.kinds.specs.declared.ExternalKind.TheVariants.{Other}
use Rattle.promises.specs.Decides.{Decides}
use Rattle.kinds.proofs.kind_of.Kinds as kind-of-kinds
use Rattle.kinds.proofs.kind_of.Reads as kind-of
use Rattle.kinds.proofs.kind_byte.Kinds as kind-byte-kinds
use Rattle.kinds.proofs.kind_byte.Reads as kind-byte
use Rattle.kinds.proofs.hex.Kinds as hex-kinds
use Rattle.kinds.proofs.hex.Reads as hex
use Rattle.kinds.proofs.kind_slug.Kinds as kind-slug-kinds
use Rattle.kinds.proofs.kind_slug.Reads as kind-slug
use Rattle.kinds.proofs.section_name.Kinds as section-name-kinds
use Rattle.kinds.proofs.section_name.Reads as section-name

pub kind-of-decides : Decides kind-of-kinds.ps kind-of-kinds.r kind-of.Post
kind-of-decides κs a x y s t p q = p ∙ sym q

pub kind-byte-decides : Decides kind-byte-kinds.ps kind-byte-kinds.r kind-byte.Post
kind-byte-decides κs a x y s t p q = p ∙ sym q

pub hex-decides : Decides hex-kinds.ps hex-kinds.r hex.Post
hex-decides κs a x y s t p q = p ∙ sym q

pub kind-slug-decides : Decides kind-slug-kinds.ps kind-slug-kinds.r kind-slug.Post
kind-slug-decides κs a x y s t p q = p ∙ sym q

pub section-name-decides : Decides section-name-kinds.ps section-name-kinds.r section-name.Post
section-name-decides κs a x y s t p q = p ∙ sym q

-- the kind that no reader makes, other with the byte of one that has a name of its own: its byte is 0, its word `other:0x00`
pub other-unmade : (kind_byte (Other 0) ≡ 0) × (kind_word (Other 0) ≡ 111 ∷ 116 ∷ 104 ∷ 101 ∷ 114 ∷ 58 ∷ 48 ∷ 120 ∷ 48 ∷ 48 ∷ [])
other-unmade = (refl, refl)
