-- `strict::again::read_frame` meets its contract. Assumes nothing.
use Rattle.leb.proofs.Bounds.{counted-in}
use Rattle.leb.specs.Reads.{counted_at}
use Rattle.refusal.proofs.Following.{goes, stops}
use Rattle.strict.proofs.Marking.{comes, falls, found}
use Rattle.strict.specs.Again.{frame_at}
use mathlib.Core.Path.{refl, sym}
use native.Mathlib.Omega.{arith}
use Rattle.strict.proofs.again.read_frame.Goals as goal

pub returns-in_err-id : goal.returns-in_err-id
unfolding frame_at
returns-in_err-id c = falls _ _ _ (found _ c.in_err-id.ensures) c.from_residual.ensures.1

pub returns-in_err-len : goal.returns-in_err-len
unfolding frame_at counted_at
returns-in_err-len c =
    comes _ (found _ c.in_ok-id.ensures)
    (falls _ _ _ (stops _ (sym c.in_err-len.ensures) refl) c.from_residual-in_err-len.ensures.1)

pub returns-in_err-bytes : goal.returns-in_err-bytes
unfolding frame_at counted_at
returns-in_err-bytes c =
    comes _ (found _ c.in_ok-id.ensures)
    (falls _ _ _ (goes _ (sym c.in_ok-len.ensures) (found _ c.in_err-bytes.ensures)) c.from_residual-in_err-bytes.ensures.1)

pub overflow_sub-bytes : goal.overflow_sub-bytes
unfolding counted_at
overflow_sub-bytes c =
    let w = counted-in _ _ _ _ (sym (goes _ (sym c.in_ok-len.ensures) (found _ c.in_ok-bytes.ensures))) in
    omega (arith, w.past)

pub returns : goal.returns
unfolding frame_at counted_at
returns c =
    comes _ (found _ c.in_ok-id.ensures)
    (comes _ (goes _ (sym c.in_ok-len.ensures) (found _ c.in_ok-bytes.ensures)) (simp c.with_number-marks.ensures))
