-- `strict::again::read_number` meets its contract. Assumes nothing.
use Rattle.strict.proofs.Marking.{found, one_byte, same-err, two_bytes}
use native.Mathlib.Omega.{arith}
use Rattle.strict.proofs.again.read_number.Goals as goal

pub returns-then-byte-lt-MORE : goal.returns-then-byte-lt-MORE
returns-then-byte-lt-MORE c = one_byte _ _ (omega arith) (omega arith)

pub returns-then-high-lt-MORE : goal.returns-then-high-lt-MORE
returns-then-high-lt-MORE c =
    let high = c.wide-then-high-lt-MORE.ensures in
    let low = c.wide.ensures in
    two_bytes _ _ (omega arith) (omega arith) (omega (arith, low.0, low.1)) (omega arith) (omega (arith, low.0, high.0))

pub returns-in_err-uleb128_u32 : goal.returns-in_err-uleb128_u32
returns-in_err-uleb128_u32 c = same-err _ _ (found _ c.in_err-uleb128_u32.ensures) c.from_residual.ensures.1

pub returns : goal.returns
returns c = found _ c.in_ok-uleb128_u32.ensures
