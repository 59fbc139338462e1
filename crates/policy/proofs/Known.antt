-- An answer is known by what its promise says of it, so no two satisfy it. Assumes nothing.
use Rattle.std.specs.Prelude.{Result}
use mathlib.Core.Path.{◌≡◌, sym, ◌∙◌}
use Rattle.refusal.specs.Said.{Said, said_by}
use Rattle.refusal.specs.declared.Refusal.{Refusal}
use Rattle.refusal.proofs.Known.{result-known}
use Rattle.policy.specs.declared.Policy.{Policy}

pub read_known : {d : Said Policy} (x y : Result Policy Refusal) → said_by x ≡ d → said_by y ≡ d → x ≡ y
read_known x y p q = result-known x y (p ∙ sym q)
