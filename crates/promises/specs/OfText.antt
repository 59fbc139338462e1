-- No two answers satisfy the promise of any function of text. Assumes nothing.
use Rattle.std.specs.Prelude.{◌≡◌}
use Rattle.std.proofs.Common.{sym, ◌∙◌}
use Rattle.text.specs.declared.lines.Line.{Line}
use Rattle.promises.specs.Decides.{Decides}
use Rattle.refusal.proofs.Known.{result-known}
use Rattle.text.proofs.utf8.valid_up_to.Kinds as valid-up-to-kinds
use Rattle.text.proofs.utf8.valid_up_to.Reads as valid_up_to
use Rattle.text.proofs.white.is_white.Kinds as is-white-kinds
use Rattle.text.proofs.white.is_white.Reads as is_white
use Rattle.text.proofs.white.trim_start.Kinds as trim-start-kinds
use Rattle.text.proofs.white.trim_start.Reads as trim_start
use Rattle.text.proofs.white.trim_end.Kinds as trim-end-kinds
use Rattle.text.proofs.white.trim_end.Reads as trim_end
use Rattle.text.proofs.white.trim.Kinds as trim-kinds
use Rattle.text.proofs.white.trim.Reads as trim
use Rattle.text.proofs.lines.line_at.Kinds as line-at-kinds
use Rattle.text.proofs.lines.line_at.Reads as line_at_lem
use Rattle.text.proofs.find.find.Kinds as find-kinds
use Rattle.text.proofs.find.find.Reads as find
use Rattle.text.proofs.find.find_pair.Kinds as find-pair-kinds
use Rattle.text.proofs.find.find_pair.Reads as find-pair
use Rattle.text.proofs.order.starts.Kinds as starts-kinds
use Rattle.text.proofs.order.starts.Reads as starts
use Rattle.text.proofs.order.equal.Kinds as equal-kinds
use Rattle.text.proofs.order.equal.Reads as equal
use Rattle.text.proofs.order.compare.Kinds as compare-kinds
use Rattle.text.proofs.order.compare.Reads as compare
use Rattle.text.proofs.pieces.test_text.Kinds as test-text-kinds
use Rattle.text.proofs.pieces.test_text.Reads as test-text
use Rattle.text.proofs.pieces.trimmed_at.Kinds as trimmed-at-kinds
use Rattle.text.proofs.pieces.trimmed_at.Reads as trimmed-at
use Rattle.text.proofs.pieces.shorn_of.Kinds as shorn-of-kinds
use Rattle.text.proofs.pieces.shorn_of.Reads as shorn-of

-- a line is known by its ends
line_known : (x y : Line) → x.end ≡ y.end → x.next ≡ y.next → x ≡ y
line_known x y e n = let z : ◌≡◌ {A = Line} (record { end = x.end; next = x.next }) (record { end = y.end; next = y.next }) = cc in z

pub valid-up-to-decides : Decides valid-up-to-kinds.ps valid-up-to-kinds.r valid_up_to.Post
valid-up-to-decides κs a x y s t p q = p ∙ sym q

pub is-white-decides : Decides is-white-kinds.ps is-white-kinds.r is_white.Post
is-white-decides κs a x y s t p q = p ∙ sym q

pub trim-start-decides : Decides trim-start-kinds.ps trim-start-kinds.r trim_start.Post
trim-start-decides κs a x y s t p q = p ∙ sym q

pub trim-end-decides : Decides trim-end-kinds.ps trim-end-kinds.r trim_end.Post
trim-end-decides κs a x y s t p q = p ∙ sym q

pub trim-decides : Decides trim-kinds.ps trim-kinds.r trim.Post
trim-decides κs a x y s t p q = p ∙ sym q

pub line-at-decides : Decides line-at-kinds.ps line-at-kinds.r line_at_lem.Post
line-at-decides κs a x y s t p q = line_known x y (p.0 ∙ sym q.0) (p.1 ∙ sym q.1)

pub find-decides : Decides find-kinds.ps find-kinds.r find.Post
find-decides κs a x y s t p q = p ∙ sym q

pub find-pair-decides : Decides find-pair-kinds.ps find-pair-kinds.r find-pair.Post
find-pair-decides κs a x y s t p q = p ∙ sym q

pub starts-decides : Decides starts-kinds.ps starts-kinds.r starts.Post
starts-decides κs a x y s t p q = p ∙ sym q

pub equal-decides : Decides equal-kinds.ps equal-kinds.r equal.Post
equal-decides κs a x y s t p q = p ∙ sym q

pub compare-decides : Decides compare-kinds.ps compare-kinds.r compare.Post
compare-decides κs a x y s t p q = p ∙ sym q

pub test-text-decides : Decides test-text-kinds.ps test-text-kinds.r test-text.Post
test-text-decides κs a x y s t p q = result-known x y (p ∙ sym q)

pub trimmed-at-decides : Decides trimmed-at-kinds.ps trimmed-at-kinds.r trimmed-at.Post
trimmed-at-decides κs a x y s t p q = p.0 ∙ sym q.0

pub shorn-of-decides : Decides shorn-of-kinds.ps shorn-of-kinds.r shorn-of.Post
shorn-of-decides κs a x y s t p q = p ∙ sym q
