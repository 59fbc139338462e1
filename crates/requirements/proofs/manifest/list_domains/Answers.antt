-- `interfaces::list_domains` meets its contract. Assumes nothing.
use Prim.Native.Nat.{ℕ}
use native.Mathlib.Omega.{arith}
use mathlib.Core.Path.{sym, ◌∙◌, ap}
use mathlib.Core.List.{[]}
use Rattle.table.specs.Table.{laid, rows_of}
use Rattle.requirements.proofs.Filling.{column-none}
use Rattle.requirements.specs.Interfaces.{reference_domain}
use Rattle.requirements.proofs.Asking.{column-turn, column-end}
use Rattle.requirements.proofs.manifest.list_domains.Goals as goal

pub loop-i-init : goal.loop-i-init
unfolding rows_of
loop-i-init c = column-none _ (c.clear.ensures ∙ ap (λ (n : ℕ). laid n []) (sym c.clear.auto.table))

pub loop-i-preserved : goal.loop-i-preserved
loop-i-preserved c =
    column-turn _ _ c.loop-i.i c.loop-i.invariant (c.domain_at-domain.ensures ∙ ap (reference_domain _ _) c.cell.ensures) c.put_row.ensures

pub returns : goal.returns
returns c = column-end _ _ c.clear.auto.table (omega arith) c.loop-i-test.false c.loop-i.invariant
