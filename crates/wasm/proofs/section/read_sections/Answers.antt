-- `wasm::section::read_sections` meets its contract: the invariant is `Going`. Assumes nothing.
use Rattle.std.proofs.Common.{rules}
use mathlib.Core.Path.{refl}
use native.Mathlib.Omega.{arith}
use Rattle.table.proofs.Telling.{passed}
use Rattle.table.proofs.Walking.{going_end, going-off, going_on}
use Rattle.wasm.specs.Custom.{named_of}
use Rattle.wasm.specs.Module.{Holds, no_tables, section_at, counts_of}
use Rattle.wasm.proofs.Reading.{given_back}
use Rattle.wasm.proofs.section.read_sections.Goals as goal

pub loop-c-init : goal.loop-c-init
unfolding no_tables counts_of named_of
loop-c-init c = (record { state = no_tables; value = refl; held = c.requires.holds; goes_on = refl }, search rules)

pub returns-in_err-read-clause-read : goal.returns-in_err-read-clause-read
returns-in_err-read-clause-read c =
    rw (given_back _ _ c.from_residual.ensures)
    (going-off (section_at _) (Holds _) (Holds _) c.loop-c.invariant.0 c.loop-c.invariant.1.sizes-same c.in_err-read.ensures.read
    c.loop-c-test.true refl)

pub loop-c-smaller : goal.loop-c-smaller
loop-c-smaller c = omega (arith, c.loop-c-test.true, passed _ _ c.in_ok-read.ensures.passed refl)

pub loop-c-preserved : goal.loop-c-preserved
loop-c-preserved c =
    let p = passed _ _ c.in_ok-read.ensures.passed refl in (
      going_on (section_at _) (Holds _) (Holds _) c.loop-c.invariant.0 c.loop-c.invariant.1.sizes-same c.in_ok-read.ensures.read refl p.0
          p.1,
      search rules,
    )

pub returns-clause-read : goal.returns-clause-read
returns-clause-read c = going_end c.loop-c.invariant.0 c.loop-c-test.false
