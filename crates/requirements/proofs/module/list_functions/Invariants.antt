use lib.ListN.{length}
use Rattle.import_rows.specs.Queries.{kind_is}
use Rattle.requirements.specs.Requirements.{row_domain}
use Rattle.requirements.proofs.Filling.{Filling}
use Rattle.requirements.proofs.module.list_functions.Given as goal

abbrev pub invariant-loop-i : goal.invariant-loop-i
invariant-loop-i l =
    Filling (row_domain l.file l.imports.cells.now) (kind_is l.imports.cells.now 0) l.imports.count (length l.initial.domains) (length l.initial.rows) l.domains l.rows
    l.found l.i
