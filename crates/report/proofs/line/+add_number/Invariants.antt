use Rattle.report.proofs.line.+add_number.Given as goal

abbrev pub decreases-add_number : goal.decreases-add_number
decreases-add_number l = l.n
