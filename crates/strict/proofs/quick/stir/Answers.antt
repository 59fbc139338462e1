-- `strict::quick::stir` meets its contract. Assumes nothing.
use mathlib.Core.Path.{refl}
use Rattle.strict.specs.Quick.{stirred}
use native.Mathlib.Omega.{arith}
use Rattle.strict.proofs.quick.stir.Goals as goal

pub overflow_mul-result : goal.overflow_mul-result
overflow_mul-result c = omega arith

pub overflow_mul-result-2 : goal.overflow_mul-result-2
overflow_mul-result-2 c = omega arith

pub returns : goal.returns
unfolding stirred
returns c = refl
