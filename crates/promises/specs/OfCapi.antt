-- No two answers, and no two final contents of lent memory, satisfy the promise of any call of the C interface. Assumes nothing.
use Rattle.std.specs.Prelude.{◌≡◌}
use Rattle.std.proofs.Common.{sym, ◌∙◌}
use contract.Lifetimes.{Lfts}
use borrow.Fn.Kinds.{Dens, res_t, ended_of}
use denote.Triple.Clauses.{AtExit}
use Rattle.promises.specs.Decides.{Decides}
use Rattle.capi.proofs.cursor.viscrombal_uleb128.Kinds as uleb128-kinds
use Rattle.capi.proofs.cursor.viscrombal_uleb128.Reads as uleb128
use Rattle.capi.proofs.cursor.viscrombal_uleb128_u32.Kinds as uleb128-u32-kinds
use Rattle.capi.proofs.cursor.viscrombal_uleb128_u32.Reads as uleb128-u32
use Rattle.capi.proofs.cursor.viscrombal_sleb128.Kinds as sleb128-kinds
use Rattle.capi.proofs.cursor.viscrombal_sleb128.Reads as sleb128
use Rattle.capi.proofs.cursor.viscrombal_name.Kinds as name-kinds
use Rattle.capi.proofs.cursor.viscrombal_name.Reads as name
use Rattle.capi.proofs.policies.viscrombal_policy.Kinds as policy-kinds
use Rattle.capi.proofs.policies.viscrombal_policy.Reads as policy
use Rattle.capi.proofs.policies.viscrombal_token.Kinds as token-kinds
use Rattle.capi.proofs.policies.viscrombal_token.Reads as token
use Rattle.capi.proofs.check.viscrombal_check.Kinds as check-kinds
use Rattle.capi.proofs.check.viscrombal_check.Reads as check
use Rattle.capi.proofs.policies.viscrombal_rewrite.Kinds as rewrite-kinds
use Rattle.capi.proofs.policies.viscrombal_rewrite.Reads as rewrite
use Rattle.capi.proofs.strictly.viscrombal_strict.Kinds as strict-kinds
use Rattle.capi.proofs.strictly.viscrombal_strict.Reads as strict
use Rattle.capi.proofs.interface.viscrombal_interface.Kinds as interface-kinds
use Rattle.capi.proofs.interface.viscrombal_interface.Reads as interface

pub uleb128-decides : Decides uleb128-kinds.ps uleb128-kinds.r uleb128.Post
uleb128-decides κs a x y s t p q = p ∙ sym q

pub uleb128-u32-decides : Decides uleb128-u32-kinds.ps uleb128-u32-kinds.r uleb128-u32.Post
uleb128-u32-decides κs a x y s t p q = p ∙ sym q

pub sleb128-decides : Decides sleb128-kinds.ps sleb128-kinds.r sleb128.Post
sleb128-decides κs a x y s t p q = p ∙ sym q

pub name-decides : Decides name-kinds.ps name-kinds.r name.Post
name-decides κs a x y s t p q = p ∙ sym q

pub policy-decides : Decides policy-kinds.ps policy-kinds.r policy.Post
policy-decides κs a x y s t p q = p ∙ sym q

pub token-decides : Decides token-kinds.ps token-kinds.r token.Post
token-decides κs a x y s t p q = p ∙ sym q

pub rewrite-decides : Decides rewrite-kinds.ps rewrite-kinds.r rewrite.Post
rewrite-decides κs a x y s t p q = p.answer-is ∙ sym q.answer-is

pub rewrite-leaves : (κs : Lfts 2) (a : Dens κs rewrite-kinds.ps) (x y : (res_t rewrite-kinds.r κs).Denot)
    (s t : AtExit (ended_of 2 rewrite-kinds.ps rewrite-kinds.r) κs)
    → rewrite.Post κs a x s → rewrite.Post κs a y t → s.1.0.now ≡ t.1.0.now
rewrite-leaves κs a x y s t p q = p.output-is ∙ sym q.output-is

pub check-decides : Decides check-kinds.ps check-kinds.r check.Post
check-decides κs a x y s t p q = p ∙ sym q

pub strict-decides : Decides strict-kinds.ps strict-kinds.r strict.Post
strict-decides κs a x y s t p q = p ∙ sym q

pub interface-decides : Decides interface-kinds.ps interface-kinds.r interface.Post
interface-decides κs a x y s t p q = p ∙ sym q
