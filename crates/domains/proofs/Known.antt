-- An answer is known by what its promise says of it, so no two satisfy it. Assumes nothing.
use mathlib.Core.Path.{◌≡◌, refl, ap}
use Rattle.refusal.proofs.Known.{taken_back}
use Rattle.domains.specs.Domain.{Perhaps, nothing, just, found}
use Rattle.std.specs.Prelude.{Option, Some, None}
use Rattle.domains.specs.declared.Domain.{Domain}
use Rattle.domains.proofs.DomainLaws.{numbered_as, back}

pub found-known : (a b : Option Domain) → found a ≡ found b → a ≡ b
found-known = taken_back again is where
  again : Perhaps → Option Domain
  again nothing = None
  again (just n) = Some (numbered_as n)

  is : (a : Option Domain) → again (found a) ≡ a
  is (Some d) = ap Some (back d)
  is None = refl
