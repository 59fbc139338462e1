-- No two answers, and no two final contents of the lent table, satisfy the promise of any function of imports. Assumes nothing.
use Rattle.std.specs.Prelude.{◌≡◌}
use Rattle.std.proofs.Common.{sym, ◌∙◌}
use contract.Lifetimes.{Lfts}
use borrow.Fn.Kinds.{Dens, res_t, ended_of}
use denote.Triple.Clauses.{AtExit}
use Rattle.refusal.proofs.Known.{result-known}
use Rattle.promises.specs.Decides.{Decides}
use Rattle.import_rows.proofs.check_imports.Kinds as check-imports-kinds
use Rattle.import_rows.proofs.check_imports.Reads as check-imports
use Rattle.import_rows.proofs.imported_functions.Kinds as imported-functions-kinds
use Rattle.import_rows.proofs.imported_functions.Reads as imported-functions
use Rattle.import_rows.proofs.imported_memories.Kinds as imported-memories-kinds
use Rattle.import_rows.proofs.imported_memories.Reads as imported-memories
use Rattle.import_rows.proofs.import_namespaces.Kinds as import-namespaces-kinds
use Rattle.import_rows.proofs.import_namespaces.Reads as import-namespaces

pub check-imports-decides : Decides check-imports-kinds.ps check-imports-kinds.r check-imports.Post
check-imports-decides κs a x y s t p q = result-known x y (p ∙ sym q)

pub imported-functions-decides : Decides imported-functions-kinds.ps imported-functions-kinds.r imported-functions.Post
imported-functions-decides κs a x y s t p q = result-known x y (p ∙ sym q)

pub imported-memories-decides : Decides imported-memories-kinds.ps imported-memories-kinds.r imported-memories.Post
imported-memories-decides κs a x y s t p q = result-known x y (p ∙ sym q)

pub import-namespaces-decides : Decides import-namespaces-kinds.ps import-namespaces-kinds.r import-namespaces.Post
import-namespaces-decides κs a x y s t p q = result-known x y (p.answer-is ∙ sym q.answer-is)

pub import-namespaces-leaves : (κs : Lfts 3) (a : Dens κs import-namespaces-kinds.ps) (x y : (res_t import-namespaces-kinds.r κs).Denot)
    (s t : AtExit (ended_of 3 import-namespaces-kinds.ps import-namespaces-kinds.r) κs)
    → import-namespaces.Post κs a x s → import-namespaces.Post κs a y t → s.1.1.0.now ≡ t.1.1.0.now
import-namespaces-leaves κs a x y s t p q = p.table_is ∙ sym q.table_is
