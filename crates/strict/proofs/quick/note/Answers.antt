-- `strict::quick::note` meets its contract. Assumes nothing.
use lib.ListN.{length-set}
use Rattle.strict.proofs.Newness.{place-1, place-2, place-3, notes}
use Rattle.strict.proofs.quick.note.Goals as goal

pub bounds-marks-a : goal.bounds-marks-a
bounds-marks-a c = place-1 c.args.marks.now c.args.last c.args.print c.requires

pub bounds-marks-b : goal.bounds-marks-b
bounds-marks-b c = simp length-set (place-2 c.args.marks.now c.args.last c.args.print c.requires)

pub bounds-marks-c : goal.bounds-marks-c
bounds-marks-c c = simp length-set (place-3 c.args.marks.now c.args.last c.args.print c.requires)

pub returns : goal.returns
returns c = notes c.args.marks.now c.args.last c.args.print c.requires
