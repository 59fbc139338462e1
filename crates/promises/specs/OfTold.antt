-- No two answers satisfy the promise of any function that tells an answer in a struct of numbers. Assumes nothing.
use Rattle.std.proofs.Common.{sym, ◌∙◌}
use Rattle.promises.specs.Decides.{Decides}
use Rattle.told.proofs.cursor.unsigned_of.Kinds as unsigned-of-kinds
use Rattle.told.proofs.cursor.unsigned_of.Reads as unsigned-of
use Rattle.told.proofs.cursor.narrow_of.Kinds as narrow-of-kinds
use Rattle.told.proofs.cursor.narrow_of.Reads as narrow-of
use Rattle.told.proofs.cursor.range_of.Kinds as range-of-kinds
use Rattle.told.proofs.cursor.range_of.Reads as range-of
use Rattle.told.proofs.policies.number_of.Kinds as number-of-kinds
use Rattle.told.proofs.policies.number_of.Reads as number_of_lem
use Rattle.told.proofs.policies.place_of.Kinds as place-of-kinds
use Rattle.told.proofs.policies.place_of.Reads as place_of
use Rattle.told.proofs.policies.beside_of.Kinds as beside-of-kinds
use Rattle.told.proofs.policies.beside_of.Reads as beside-of
use Rattle.told.proofs.policies.no_token.Kinds as no-token-kinds
use Rattle.told.proofs.policies.no_token.Reads as no-token
use Rattle.told.proofs.policies.token_of.Kinds as token-of-kinds
use Rattle.told.proofs.policies.token_of.Reads as token-of
use Rattle.told.proofs.policies.token_for.Kinds as token-for-kinds
use Rattle.told.proofs.policies.token_for.Reads as token-for
use Rattle.told.proofs.check.evaluation_of.Kinds as evaluation-of-kinds
use Rattle.told.proofs.check.evaluation_of.Reads as evaluation-of
use Rattle.told.proofs.policies.written_of.Kinds as written-of-kinds
use Rattle.told.proofs.policies.written_of.Reads as written_of_lem
use Rattle.told.proofs.answers.answer_of.Kinds as answer-of-kinds
use Rattle.told.proofs.answers.answer_of.Reads as answer-of

pub unsigned-of-decides : Decides unsigned-of-kinds.ps unsigned-of-kinds.r unsigned-of.Post
unsigned-of-decides κs a x y s t p q = p ∙ sym q

pub narrow-of-decides : Decides narrow-of-kinds.ps narrow-of-kinds.r narrow-of.Post
narrow-of-decides κs a x y s t p q = p ∙ sym q

pub range-of-decides : Decides range-of-kinds.ps range-of-kinds.r range-of.Post
range-of-decides κs a x y s t p q = p ∙ sym q

pub number-of-decides : Decides number-of-kinds.ps number-of-kinds.r number_of_lem.Post
number-of-decides κs a x y s t p q = p ∙ sym q

pub place-of-decides : Decides place-of-kinds.ps place-of-kinds.r place_of.Post
place-of-decides κs a x y s t p q = p ∙ sym q

pub beside-of-decides : Decides beside-of-kinds.ps beside-of-kinds.r beside-of.Post
beside-of-decides κs a x y s t p q = p ∙ sym q

pub no-token-decides : Decides no-token-kinds.ps no-token-kinds.r no-token.Post
no-token-decides κs a x y s t p q = p ∙ sym q

pub token-of-decides : Decides token-of-kinds.ps token-of-kinds.r token-of.Post
token-of-decides κs a x y s t p q = p ∙ sym q

pub token-for-decides : Decides token-for-kinds.ps token-for-kinds.r token-for.Post
token-for-decides κs a x y s t p q = p ∙ sym q

pub evaluation-of-decides : Decides evaluation-of-kinds.ps evaluation-of-kinds.r evaluation-of.Post
evaluation-of-decides κs a x y s t p q = p ∙ sym q

pub written-of-decides : Decides written-of-kinds.ps written-of-kinds.r written_of_lem.Post
written-of-decides κs a x y s t p q = p ∙ sym q

pub answer-of-decides : Decides answer-of-kinds.ps answer-of-kinds.r answer-of.Post
answer-of-decides κs a x y s t p q = p ∙ sym q
