-- `keyed::list_missing` meets its contract. Assumes nothing.
use mathlib.Core.Path.{◌∙◌, ap}
use mathlib.Core.List.{[]}
use Prim.Native.Nat.{ℕ}
use Rattle.table.specs.Table.{laid}
use Rattle.keyed.proofs.list_missing.Goals as goal

pub returns : goal.returns
returns c = (
  c.list_in-sorted.ensures,
  c.clear.ensures ∙ ap (λ (n : ℕ). laid n []) c.list_in-sorted.auto.keys,
  c.clear-2.ensures ∙ ap (λ (n : ℕ). laid n []) c.list_in-sorted.auto.ranks,
  c.clear-3.ensures ∙ ap (λ (n : ℕ). laid n []) c.list_in-sorted.auto.lost,
)
