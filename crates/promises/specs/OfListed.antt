-- No two answers, and no two final contents of lent memory, satisfy the promise of any call that delivers lists. Assumes nothing.
use Rattle.std.specs.Prelude.{◌≡◌}
use Rattle.std.proofs.Common.{sym, ◌∙◌}
use contract.Lifetimes.{Lfts}
use borrow.Fn.Kinds.{Dens, res_t, ended_of}
use denote.Triple.Clauses.{AtExit}
use Rattle.promises.specs.Decides.{Decides}
use Rattle.output.proofs.cells.put_cells.Kinds as put-cells-kinds
use Rattle.output.proofs.cells.put_cells.Reads as put-cells
use Rattle.listed.proofs.modules.list_module.Kinds as list-module-kinds
use Rattle.listed.proofs.modules.list_module.Reads as list-module
use Rattle.listed.proofs.manifests.list_manifest.Kinds as list-manifest-kinds
use Rattle.listed.proofs.manifests.list_manifest.Reads as list-manifest
use Rattle.listed.proofs.comparison.list_comparison.Kinds as list-comparison-kinds
use Rattle.listed.proofs.comparison.list_comparison.Reads as list-comparison
use Rattle.listed.proofs.tokens.list_tokens.Kinds as list-tokens-kinds
use Rattle.listed.proofs.tokens.list_tokens.Reads as list-tokens
use Rattle.capi.proofs.lists.viscrombal_compare.Kinds as compare-kinds
use Rattle.capi.proofs.lists.viscrombal_compare.Reads as compare
use Rattle.capi.proofs.lists.viscrombal_module.Kinds as module-kinds
use Rattle.capi.proofs.lists.viscrombal_module.Reads as modules
use Rattle.capi.proofs.lists.viscrombal_manifest.Kinds as manifest-kinds
use Rattle.capi.proofs.lists.viscrombal_manifest.Reads as manifest
use Rattle.capi.proofs.lists.viscrombal_tokens.Kinds as tokens-kinds
use Rattle.capi.proofs.lists.viscrombal_tokens.Reads as tokens

pub put-cells-decides : Decides put-cells-kinds.ps put-cells-kinds.r put-cells.Post
put-cells-decides κs a x y s t p q = p.next ∙ sym q.next

pub put-cells-leaves : (κs : Lfts 2) (a : Dens κs put-cells-kinds.ps) (x y : (res_t put-cells-kinds.r κs).Denot)
    (s t : AtExit (ended_of 2 put-cells-kinds.ps put-cells-kinds.r) κs)
    → put-cells.Post κs a x s → put-cells.Post κs a y t → s.1.0.now ≡ t.1.0.now
put-cells-leaves κs a x y s t p q = p.output ∙ sym q.output

pub list-module-decides : Decides list-module-kinds.ps list-module-kinds.r list-module.Post
list-module-decides κs a x y s t p q = p.answer-is ∙ sym q.answer-is

pub list-module-leaves : (κs : Lfts 2) (a : Dens κs list-module-kinds.ps) (x y : (res_t list-module-kinds.r κs).Denot)
    (s t : AtExit (ended_of 2 list-module-kinds.ps list-module-kinds.r) κs)
    → list-module.Post κs a x s → list-module.Post κs a y t → s.1.0.now ≡ t.1.0.now
list-module-leaves κs a x y s t p q = p.output-is ∙ sym q.output-is

pub list-manifest-decides : Decides list-manifest-kinds.ps list-manifest-kinds.r list-manifest.Post
list-manifest-decides κs a x y s t p q = p.answer-is ∙ sym q.answer-is

pub list-manifest-leaves : (κs : Lfts 2) (a : Dens κs list-manifest-kinds.ps) (x y : (res_t list-manifest-kinds.r κs).Denot)
    (s t : AtExit (ended_of 2 list-manifest-kinds.ps list-manifest-kinds.r) κs)
    → list-manifest.Post κs a x s → list-manifest.Post κs a y t → s.1.0.now ≡ t.1.0.now
list-manifest-leaves κs a x y s t p q = p.output-is ∙ sym q.output-is

pub module-call-decides : Decides module-kinds.ps module-kinds.r modules.Post
module-call-decides κs a x y s t p q = p.answer-is ∙ sym q.answer-is

pub module-call-leaves : (κs : Lfts 2) (a : Dens κs module-kinds.ps) (x y : (res_t module-kinds.r κs).Denot)
    (s t : AtExit (ended_of 2 module-kinds.ps module-kinds.r) κs)
    → modules.Post κs a x s → modules.Post κs a y t → s.1.0.now ≡ t.1.0.now
module-call-leaves κs a x y s t p q = p.output-is ∙ sym q.output-is

pub manifest-call-decides : Decides manifest-kinds.ps manifest-kinds.r manifest.Post
manifest-call-decides κs a x y s t p q = p.answer-is ∙ sym q.answer-is

pub manifest-call-leaves : (κs : Lfts 2) (a : Dens κs manifest-kinds.ps) (x y : (res_t manifest-kinds.r κs).Denot)
    (s t : AtExit (ended_of 2 manifest-kinds.ps manifest-kinds.r) κs)
    → manifest.Post κs a x s → manifest.Post κs a y t → s.1.0.now ≡ t.1.0.now
manifest-call-leaves κs a x y s t p q = p.output-is ∙ sym q.output-is

pub list-comparison-decides : Decides list-comparison-kinds.ps list-comparison-kinds.r list-comparison.Post
list-comparison-decides κs a x y s t p q = p.answer-is ∙ sym q.answer-is

pub list-comparison-leaves : (κs : Lfts 2) (a : Dens κs list-comparison-kinds.ps) (x y : (res_t list-comparison-kinds.r κs).Denot)
    (s t : AtExit (ended_of 2 list-comparison-kinds.ps list-comparison-kinds.r) κs)
    → list-comparison.Post κs a x s → list-comparison.Post κs a y t → s.1.1.0.now ≡ t.1.1.0.now
list-comparison-leaves κs a x y s t p q = p.output-is ∙ sym q.output-is

pub compare-call-decides : Decides compare-kinds.ps compare-kinds.r compare.Post
compare-call-decides κs a x y s t p q = p.answer-is ∙ sym q.answer-is

pub compare-call-leaves : (κs : Lfts 3) (a : Dens κs compare-kinds.ps) (x y : (res_t compare-kinds.r κs).Denot)
    (s t : AtExit (ended_of 3 compare-kinds.ps compare-kinds.r) κs)
    → compare.Post κs a x s → compare.Post κs a y t → s.1.1.0.now ≡ t.1.1.0.now
compare-call-leaves κs a x y s t p q = p.output-is ∙ sym q.output-is

pub list-tokens-decides : Decides list-tokens-kinds.ps list-tokens-kinds.r list-tokens.Post
list-tokens-decides κs a x y s t p q = p.answer-is ∙ sym q.answer-is

pub list-tokens-leaves : (κs : Lfts 2) (a : Dens κs list-tokens-kinds.ps) (x y : (res_t list-tokens-kinds.r κs).Denot)
    (s t : AtExit (ended_of 2 list-tokens-kinds.ps list-tokens-kinds.r) κs)
    → list-tokens.Post κs a x s → list-tokens.Post κs a y t → s.1.1.0.now ≡ t.1.1.0.now
list-tokens-leaves κs a x y s t p q = p.output-is ∙ sym q.output-is

pub tokens-call-decides : Decides tokens-kinds.ps tokens-kinds.r tokens.Post
tokens-call-decides κs a x y s t p q = p.answer-is ∙ sym q.answer-is

pub tokens-call-leaves : (κs : Lfts 2) (a : Dens κs tokens-kinds.ps) (x y : (res_t tokens-kinds.r κs).Denot)
    (s t : AtExit (ended_of 2 tokens-kinds.ps tokens-kinds.r) κs)
    → tokens.Post κs a x s → tokens.Post κs a y t → s.1.1.0.now ≡ t.1.1.0.now
tokens-call-leaves κs a x y s t p q = p.output-is ∙ sym q.output-is
