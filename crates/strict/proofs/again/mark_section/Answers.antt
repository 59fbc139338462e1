-- `strict::again::mark_section` meets its contract. Assumes nothing.
use Rattle.leb.specs.Reads.{part_bytes}
use Rattle.strict.proofs.Marking.{err-passed, frame-in, framed-err, framed-none, framed-ok}
use Rattle.table.specs.Told.{Passed}
use Rattle.strict.specs.Again.{contents_marks, section_marks}
use Rattle.wasm.proofs.Customs.{cut}
use lib.ListN.{drop, take}
use Prim.Native.Nat.{◌+◌, ◌-◌}
use mathlib.Core.Path.{◌≡◌}
use native.Mathlib.Omega.{arith}
use Rattle.strict.proofs.again.mark_section.Goals as goal

pub returns-in_err-frame : goal.returns-in_err-frame
unfolding section_marks
returns-in_err-frame c =
    (err-passed _ _ _ _ c.from_residual.ensures.1, framed-none _ _ _ contents_marks _ _ c.in_err-frame.ensures c.from_residual.ensures.1)

pub overflow_add-end : goal.overflow_add-end
overflow_add-end c = let w = frame-in _ _ _ c.in_ok-frame.ensures in omega (arith, w.end, w.in-s)

pub slice_bounds-mark_contents-end : goal.slice_bounds-mark_contents-end
slice_bounds-mark_contents-end c = let w = frame-in _ _ _ c.in_ok-frame.ensures in omega (arith, w.end, w.in-s)

pub returns-in_err-k : goal.returns-in_err-k
unfolding section_marks
returns-in_err-k c =
    let cutting : take (c.in_ok-frame.frame.bytes.from + c.in_ok-frame.frame.bytes.len - c.in_ok-frame.frame.bytes.from)
    (drop c.in_ok-frame.frame.bytes.from c.args.file.now) ≡ part_bytes c.args.file.now c.in_ok-frame.frame.bytes =
    cut c.in_ok-frame.frame.bytes.from c.in_ok-frame.frame.bytes.len c.args.file.now in (
      err-passed _ _ _ _ c.from_residual-in_err-k.ensures.1,
      framed-err _ _ _ contents_marks c.in_ok-frame.ensures _ cutting _ _ c.in_err-k.ensures c.from_residual-in_err-k.ensures.1,
    )

pub returns : goal.returns
unfolding section_marks Passed
returns c =
    let cutting : take (c.in_ok-frame.frame.bytes.from + c.in_ok-frame.frame.bytes.len - c.in_ok-frame.frame.bytes.from)
    (drop c.in_ok-frame.frame.bytes.from c.args.file.now) ≡ part_bytes c.args.file.now c.in_ok-frame.frame.bytes =
    cut c.in_ok-frame.frame.bytes.from c.in_ok-frame.frame.bytes.len c.args.file.now in
    let w = frame-in _ _ _ c.in_ok-frame.ensures in
    ((omega (arith, w.past), w.in-s), framed-ok _ _ _ contents_marks c.in_ok-frame.ensures _ cutting c.in_ok-k.ensures)
