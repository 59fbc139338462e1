-- The proofs of Covering. Assumes nothing.
use mathlib.Core.Path.{◌≡◌, refl, sym, ◌∙◌}
use mathlib.Core.Logic.{◌↔◌}
use mathlib.Core.Bool.{true}
use mathlib.Core.List.Memᴰ
use mathlib.Core.List.{List, [], ◌∷◌}
use Prim.Native.Nat.{ℕ}
use Rattle.sorting.specs.Sort.{◌∈◌}
use Rattle.differences.specs.View.{Need, View}
use Rattle.differences.specs.Differences.{Entry, need_diff, compatible}
use Rattle.differences.specs.Compared.{lists, verdict_on}
use Rattle.covering.specs.Replacing.{IsChange, IsLowest, Rising}
use Rattle.covering.specs.Covering.{ViewCovers, ViewChain, last_view, view_pairs, view_domains, exchanged, ViewReplacement, ViewListing}
use Rattle.covering.proofs.Differ.{mem-map, map-mem}
use Rattle.covering.proofs.Lowest.{lowest-each}
use Rattle.covering.proofs.Views.{says, exports-exchange, needs-exchange, exports-ascend, needs-ascend, exports-each}
use Rattle.covering.proofs.Views.{exports-removed, exports-added, needs-removed, needs-added}

verdict : (b c : View) → (verdict_on (lists b c)).compatible ≡ compatible b c
unfolding verdict_on compatible
verdict b c = refl

means : (b c : View) → (compatible b c ≡ true) ↔ ViewCovers b c
means b c =
    let s = says b c in (
      (λ h. let t = s.0 (verdict b c ∙ h) in record { has = t.0; needs = t.1 }),
      λ k. sym (verdict b c) ∙ s.1 (k.has, k.needs),
    )

series : (b : View) (cs : List View) → ViewChain b cs → ViewCovers b (last_view b cs)
series b [] h = record { has = λ e m. m; needs = λ n m. m }
series b (c ∷ cs) h =
    let s = (means b c).0 h.0 in
    let t = series c cs h.1 in
    record { has = λ e m. t.has e (s.has e m); needs = λ n m. s.needs n (t.needs n m) }

fewer : (b c : View) → ViewCovers b c → (d : ℕ) → d ∈ view_domains c → d ∈ view_domains b
fewer b c k d m =
    let s = map-mem (λ (n : Need). n.domain) d (view_pairs c) m in
    Memᴰ.cast s.2 (mem-map (λ (n : Need). n.domain) s.0 (view_pairs b) (k.needs s.0 s.1))

exchange : (b c : View) → lists c b ≡ exchanged (lists b c)
exchange b c = rw (exports-exchange b c, needs-exchange b c)

needs-each : (b c : View) → Rising b.needs → Rising c.needs → (e : Entry Need)
    → e ∈ need_diff b c ↔ (IsChange e b.needs c.needs × IsLowest e b.needs c.needs)
unfolding need_diff
needs-each b c u v e = lowest-each b.needs c.needs u v e

pub replacement : ViewReplacement
replacement =
    record {
      verdict = verdict;
      means = means;
      itself = λ b. record { has = λ e m. m; needs = λ n m. m };
      series = series;
      fewer = fewer;
      exchange = exchange;
    }

pub listing : ViewListing
listing =
    record {
      export_removed = exports-removed;
      export_added = exports-added;
      need_removed = needs-removed;
      need_added = needs-added;
      exports_each = exports-each;
      exports_ascend = exports-ascend;
      needs_each = needs-each;
      needs_ascend = needs-ascend;
    }
