-- When one view can replace another: a view has lists of exports and of the pairs that are needed, whether a file, a register or nothing
-- else has them. Theorems proves each record. Assumes nothing.
use Rattle.std.specs.Prelude.{◌≡◌, ◌↔◌, true, List, [], ◌∷◌, map, ℕ}
use Rattle.sorting.specs.Sort.{◌∈◌, Ascending}
use Rattle.differences.specs.declared.Change.TheVariants.{Removed, Added}
use Rattle.differences.specs.View.{ExportKey, Need, View}
use Rattle.differences.specs.Differences.{Entry, export_order, need_order, export_diff, need_diff, compatible}
use Rattle.differences.specs.Compared.{Lists, lists, verdict_on}
use Rattle.covering.specs.Replacing.{keys, Reports, IsChange, IsLowest, Rising, reversed}

-- the exports, by name and kind; the pairs of domain and source that are needed; the domains of these pairs
abbrev pub view_exports : View → List ExportKey
view_exports v = keys v.exports

abbrev pub view_pairs : View → List Need
view_pairs v = keys v.needs

abbrev pub view_domains : View → List ℕ
view_domains v = map (λ n. n.domain) (view_pairs v)

-- c has every export of b, by name and kind, and needs no pair of domain and source that b does not
pub record ViewCovers (b c : View) : Type 0 where
  pub has : (e : ExportKey) → e ∈ view_exports b → e ∈ view_exports c
  pub needs : (n : Need) → n ∈ view_pairs c → n ∈ view_pairs b

-- a series of views, each compatible with the one before it; its last
abbrev pub ViewChain : View → List View → Type 0
ViewChain b [] = Unit {0}
ViewChain b (c ∷ cs) = (compatible b c ≡ true) × ViewChain c cs

abbrev pub last_view : View → List View → View
last_view b [] = b
last_view b (c ∷ cs) = last_view c cs

-- the lists with the two views exchanged
abbrev pub exchanged : Lists → Lists
exchanged l = record { exports = map reversed l.exports; needs = map reversed l.needs }

-- What a replacement is.
pub record ViewReplacement : Type 0 where
  -- The verdict on the two lists is that nothing was removed and nothing needed was added, ..
  pub verdict : (b c : View) → (verdict_on (lists b c)).compatible ≡ compatible b c
  -- .. which is said exactly where the candidate covers the baseline.
  pub means : (b c : View) → (compatible b c ≡ true) ↔ ViewCovers b c
  -- Every view covers itself, and along any chain the last covers the first.
  pub itself : (b : View) → ViewCovers b b
  pub series : (b : View) (cs : List View) → ViewChain b cs → ViewCovers b (last_view b cs)
  -- So no domain is needed at the end that was not at the start.
  pub fewer : (b c : View) → ViewCovers b c → (d : ℕ) → d ∈ view_domains c → d ∈ view_domains b
  -- Exchanging the two turns added into removed and removed into added in both lists, and changes nothing else.
  pub exchange : (b c : View) → lists c b ≡ exchanged (lists b c)

-- What is in the two lists, and in which order.
pub record ViewListing : Type 0 where
  -- An export is reported removed exactly where it is in the baseline and not in the candidate, and added the other way round.
  pub export_removed : (b c : View) (e : ExportKey) → Reports Removed e (export_diff b c)
      ↔ ((e ∈ view_exports b) × (e ∈ view_exports c → ⊥))
  pub export_added : (b c : View) (e : ExportKey) → Reports Added e (export_diff b c) ↔ ((e ∈ view_exports c) × (e ∈ view_exports b → ⊥))
  -- The same of pairs.
  pub need_removed : (b c : View) (n : Need) → Reports Removed n (need_diff b c) ↔ ((n ∈ view_pairs b) × (n ∈ view_pairs c → ⊥))
  pub need_added : (b c : View) (n : Need) → Reports Added n (need_diff b c) ↔ ((n ∈ view_pairs c) × (n ∈ view_pairs b → ⊥))
  -- Each row of exports that the other lacks is listed, repeats too, by name, kind and row.
  pub exports_each : (b c : View) (e : Entry ExportKey) → e ∈ export_diff b c ↔ IsChange e b.exports c.exports
  pub exports_ascend : (b c : View) → Ascending export_order (export_diff b c)
  -- Each pair that the other lacks is listed once, by its lowest row where rows are numbered upwards, by domain and source.
  pub needs_each : (b c : View) → Rising b.needs → Rising c.needs → (e : Entry Need)
      → e ∈ need_diff b c ↔ (IsChange e b.needs c.needs × IsLowest e b.needs c.needs)
  pub needs_ascend : (b c : View) → Ascending need_order (need_diff b c)
