-- docs/RULES.md, "Differences": the two lists of a baseline and a candidate, and when the candidate can stand in for the baseline.
-- Assumes nothing.
use Rattle.std.specs.Prelude.{Bool, true, false, not, ◌&&◌, ◌||◌, List, [], ◌∷◌, ◌++◌, map, ℕ}
use Rattle.text.specs.Order.{cmp_nat, cmp_bytes}
use Rattle.std.specs.declared.cmp.Ordering.{Ordering}
use Rattle.std.specs.declared.cmp.Ordering.TheVariants.{Less, Equal, Greater}
use Rattle.sorting.specs.Order.{on, then_by}
use Rattle.sorting.specs.Sort.{sort, selected}
use Rattle.kinds.specs.Kinds.{kind_of, kind_word}
use Rattle.differences.specs.declared.Change.{Change}
use Rattle.differences.specs.declared.Change.TheVariants.{Removed, Added}
use Rattle.differences.specs.View.{ExportKey, Need, Row, View}

-- the slug of a kind byte
abbrev pub kind_slug : ℕ → List ℕ
kind_slug kind = kind_word (kind_of kind)

-- by name bytes, then kind slug
unfoldable pub cmp_export : ExportKey → ExportKey → Ordering
cmp_export = then_by (on cmp_bytes (λ e. e.name)) (on cmp_bytes (λ e. kind_slug e.kind))

-- by domain order, then source
unfoldable pub cmp_need : Need → Need → Ordering
cmp_need = then_by (on cmp_nat (λ n. n.domain)) (on cmp_bytes (λ n. n.source))

-- a row of the baseline that was removed, or a row of the candidate that was added
pub record Entry (K : Type 0) : Type 0 where
  pub change : Change
  pub row : Row K

abbrev pub entry : {K : Type 0} → Change → Row K → Entry K
entry c r = record { change = c; row = r }

abbrev pub ties : Ordering → Bool
ties Less = false
ties Equal = true
ties Greater = false

module _ {K : Type 0} (cmp : K → K → Ordering) where
  -- a row of the list has the key
  unfoldable pub has_key : K → List (Row K) → Bool
  has_key k [] = false
  has_key k (r ∷ l) = ties (cmp k r.key) || has_key k l

  -- the rows of b, each repeat too, whose key no row of c has
  abbrev pub without : List (Row K) → List (Row K) → List (Row K)
  without b c = selected (λ r. not (has_key r.key c)) b

  -- the rows that the other lacks, of both
  abbrev pub changes : List (Row K) → List (Row K) → List (Entry K)
  changes b c = map (entry Removed) (without b c) ++ map (entry Added) (without c b)

-- by name and kind, repeats in row order
unfoldable pub export_order : Entry ExportKey → Entry ExportKey → Ordering
export_order = then_by (on cmp_export (λ e. e.row.key)) (on cmp_nat (λ e. e.row.at))

unfoldable pub export_diff : View → View → List (Entry ExportKey)
export_diff b c = sort export_order (changes cmp_export b.exports c.exports)

-- by pair: of rows with one pair only the first, which is the lowest, is kept
unfoldable pub need_order : Entry Need → Entry Need → Ordering
need_order = on cmp_need (λ e. e.row.key)

unfoldable pub need_diff : View → View → List (Entry Need)
need_diff b c = sort need_order (changes cmp_need b.needs c.needs)

abbrev pub is_change : Change → Change → Bool
is_change Removed Removed = true
is_change Removed Added = false
is_change Added Removed = false
is_change Added Added = true

-- no entry of the list is a change of this kind
unfoldable pub has_no : {K : Type 0} → Change → List (Entry K) → Bool
has_no c [] = true
has_no c (e ∷ l) = not (is_change c e.change) && has_no c l

-- no export was removed and no capability added
unfoldable pub compatible : View → View → Bool
compatible b c = has_no Removed (export_diff b c) && has_no Added (need_diff b c)
