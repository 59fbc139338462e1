-- The example, computed. Assumes nothing.
use mathlib.Core.Path.{◌≡◌, refl, ap}
use mathlib.Core.List.{List}
use Prim.Native.Nat.{ℕ, zero, suc}
use native.Mathlib.Omega.{arith}
use lib.ListN.{get_or}
use Rattle.table.specs.Table.{cell_of, capacity_of}
use Rattle.table.specs.Testing.{first_from, tested, count_from}
use Rattle.import_rows.specs.Queries.{given_of, number_fits, marked, desc_fits, kind_fits, import_fits, imports_tested}
use Rattle.blind.specs.Claims.{AlikeNames, Unseen}
use Rattle.blind.specs.Example.{names, fives, nines, Example}
use Rattle.blind.proofs.Answers.{same-answers}

alike : AlikeNames fives nines 2
unfolding cell_of
alike zero zero h k = refl
alike zero (suc zero) h k = refl
alike zero (suc (suc zero)) h k = refl
alike zero (suc (suc (suc zero))) h k = refl
alike zero (suc (suc (suc (suc zero)))) h k = refl
alike zero (suc (suc (suc (suc (suc j))))) h k = absurd (omega arith)
alike (suc zero) zero h k = refl
alike (suc zero) (suc zero) h k = refl
alike (suc zero) (suc (suc zero)) h k = refl
alike (suc zero) (suc (suc (suc zero))) h k = refl
alike (suc zero) (suc (suc (suc (suc zero)))) h k = refl
alike (suc zero) (suc (suc (suc (suc (suc j))))) h k = absurd (omega arith)
alike (suc (suc i)) j h k = absurd (omega arith)

unseen : Unseen names fives nines 2
unfolding imports_tested tested first_from import_fits kind_fits desc_fits marked number_fits count_from given_of cell_of capacity_of
unseen = record { names = alike; first = refl; second = refl }

pub example : Example
example =
    record {
      differ = λ e. let z : ◌≡◌ {A = ℕ} 5 9 = ap (λ (l : List ℕ). get_or l 5 0) e in omega arith;
      unseen = unseen;
      same = same-answers names fives nines 2 unseen;
    }
