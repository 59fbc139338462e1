-- `strict::quick::mix` meets its contract: what is left of the bytes makes the whole print. Assumes nothing.
use mathlib.Core.Path.{sym, ◌∙◌}
use native.Mathlib.Omega.{arith}
use Rattle.strict.proofs.Newness.{mix_next, mix-end}
use Rattle.strict.proofs.quick.mix.Goals as goal

pub loop-byte-preserved : goal.loop-byte-preserved
loop-byte-preserved c = (omega arith, sym (mix_next _ _ c.loop-byte.byte-index c.loop-byte-test.true) ∙ c.loop-byte.invariant.1)

pub returns : goal.returns
returns c = (sym (mix-end _ _ c.loop-byte.byte-index c.loop-byte-test.false) ∙ c.loop-byte.invariant.1, c.loop-byte.invariant.0)
