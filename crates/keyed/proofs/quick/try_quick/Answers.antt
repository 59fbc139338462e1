-- `keyed::quick::try_quick` meets its contract. Assumes nothing.
use mathlib.Core.Path.{refl, sym}
use mathlib.Core.Bool.{true≢false}
use native.Mathlib.Omega.{arith}
use Rattle.keyed.proofs.Listing.{cleared-length, cleared}
use Rattle.keyed.specs.Quick.{found_mark}
use Rattle.keyed.proofs.Printing.{number_at, all-printed}
use Rattle.keyed.proofs.Answering.{left-missing}
use Rattle.keyed.proofs.quick.try_quick.Goals as goal

pub fill_prints-requires : goal.fill_prints-requires
fill_prints-requires c =
    let e = c.clear.ensures in
    (cleared _ e, omega (arith, cleared-length e, c.requires.1))

pub mark_found-requires : goal.mark_found-requires
mark_found-requires c =
    let e = c.clear.ensures in
    let d = c.clear-2.ensures in
    let p = c.requires in
    record {
      found_value = (
        cleared _ d,
        p.0,
        omega (arith, cleared-length e, p.1, c.fill_prints.auto.prints),
        omega (arith, cleared-length d, p.2),
      );
      printed = all-printed _ _ _ _ _ c.fill_prints.ensures;
    }

pub returns-then-not-mark_found : goal.returns-then-not-mark_found
returns-then-not-mark_found c = record { done = λ y. absurd (true≢false (sym y)); kept = λ y. refl }

pub returns : goal.returns
returns c =
    let a = c.args in
    let marks = c.mark_found.ensures c.if-not-mark_found.false in
    record {
      done = λ y every.
          left-missing a.first.now a.second.now a.keys.now _ _ a.nb a.n every c.unmark.ensures
          (λ i h. number_at (found_mark a.first.now a.second.now a.keys.now a.nb a.n) _ a.n i marks h);
      kept = λ y. absurd (true≢false y);
    }
