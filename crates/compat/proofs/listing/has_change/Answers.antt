-- `compat::listing::has_change` meets its contract. Assumes nothing.
use Rattle.std.proofs.Common.{rules, tests}
use Rattle.std.proofs.lemmas.Iterator.{YieldsList-from_slice}
use Rattle.std.proofs.lemmas.Iterator.Search.{any_from_yields_List}
use Rattle.differences.specs.Differences.{is_change}
use Rattle.compat.specs.Listing.{place_at, has_change}
use Rattle.compat.proofs.listing.has_change.Goals as goal

pub returns : goal.returns
unfolding has_change
returns c =
    any_from_yields_List (λ i. is_change c.args.change (place_at c.args.nb i).change) _ _ _ c.any.ensures.ran
    (YieldsList-from_slice c.args.numbers.now cc) (λ x b q k. search (rules, tests))
