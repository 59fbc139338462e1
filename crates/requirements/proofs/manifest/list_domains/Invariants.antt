use lib.ListN.{length}
use Rattle.table.specs.Table.{rows_of}
use Rattle.requirements.specs.Filling.{Column}
use Rattle.requirements.specs.Interfaces.{domain_of_cell}
use Rattle.requirements.proofs.manifest.list_domains.Given as goal

abbrev pub invariant-loop-i : goal.invariant-loop-i
invariant-loop-i l = Column (length l.initial.domains) (rows_of (domain_of_cell l.s l.references l.rows) l.i) l.domains
