-- Of builds: what some step of a series reports, and two that stand in for each other. Assumes nothing.
use mathlib.Core.Path.{◌≡◌, refl, sym, ◌∙◌, ap}
use mathlib.Core.Logic.{◌⊎◌, inl, inr, ◌↔◌, ⊎_elim}
use mathlib.Core.Bool.{true}
use mathlib.Core.List.Memᴰ
use mathlib.Core.List.{List, [], ◌∷◌}
use Prim.Native.Nat.{ℕ}
use native.Mathlib.Omega.{arith}
use lib.ListN.{length}
use Rattle.refusal.specs.Said.{accepted}
use Rattle.refusal.proofs.Following.{one_value, followed}
use Rattle.table.specs.Shape.{limit}
use Rattle.sorting.specs.Sort.{◌∈◌}
use Rattle.differences.specs.declared.Change.{Change}
use Rattle.differences.specs.declared.Change.TheVariants.{Removed, Added}
use Rattle.differences.specs.View.{View, ExportKey, Need}
use Rattle.differences.specs.Differences.{Entry, export_diff, need_diff}
use Rattle.differences.specs.Compared.{lists, roomed, Verdict, verdict_on}
use Rattle.covering.specs.Replacing.{keys, Reports}
use Rattle.standin.specs.Builds.{Build, view, exports, pairs, builds_compared, StandsIn, last}
use Rattle.covering.proofs.Differ.{known}
use Rattle.covering.proofs.Orders.{of-exports, of-needs}
use Rattle.covering.proofs.Views.{says, exports-removed, exports-added, needs-removed, needs-added}
use Rattle.standin.proofs.Builds.{compared_is}
use Rattle.standin.proofs.Theorems.{replacement}
use Rattle.series.specs.Steps.{here, there, SomeStep}
use Rattle.series.specs.Claims.{OfSeries}

-- ---- a property of builds that is decided: what the first has and the last has not, one build has and the next has not
module _ (Has : Build → Type 0) (dec : (b : Build) → Has b ⊎ (Has b → ⊥)) where
  lost : (b : Build) (cs : List Build) → Has b → (Has (last b cs) → ⊥) → SomeStep b cs (λ x y. Has x × (Has y → ⊥))
  lost b [] h n = absurd (n h)
  lost b (c ∷ cs) h n = by (dec c) (λ k. lost c cs k n)
    where
      by : Has c ⊎ (Has c → ⊥) → (Has c → SomeStep c cs (λ x y. Has x × (Has y → ⊥))) → SomeStep b (c ∷ cs) (λ x y. Has x × (Has y → ⊥))
      by (inl k) ih = let s = ih k in (s.0, s.1, there s.2, s.3)
      by (inr k) ih = (b, c, here, (h, k))

  -- and what the last has and the first has not, one build has and the one before it has not
  gained : (b : Build) (cs : List Build) → Has (last b cs) → (Has b → ⊥) → SomeStep b cs (λ x y. Has y × (Has x → ⊥))
  gained b [] h n = absurd (n h)
  gained b (c ∷ cs) h n = by (dec c) (λ k. gained c cs h k)
    where
      by : Has c ⊎ (Has c → ⊥) → ((Has c → ⊥) → SomeStep c cs (λ x y. Has y × (Has x → ⊥)))
          → SomeStep b (c ∷ cs) (λ x y. Has y × (Has x → ⊥))
      by (inl k) ih = (b, c, here, (k, n))
      by (inr k) ih = let s = ih k in (s.0, s.1, there s.2, s.3)

has-export : (e : ExportKey) (v : View) → (e ∈ keys v.exports) ⊎ (e ∈ keys v.exports → ⊥)
has-export e v = known of-exports e v.exports

has-need : (n : Need) (v : View) → (n ∈ keys v.needs) ⊎ (n ∈ keys v.needs → ⊥)
has-need n v = known of-needs n v.needs

exports-by-step : (b : Build) (cs : List Build) (h : Change) (e : ExportKey) → Reports h e (export_diff (view b) (view (last b cs)))
    → SomeStep b cs (λ x y. Reports h e (export_diff (view x) (view y)))
exports-by-step b cs Removed e r =
    let m = (exports-removed (view b) (view (last b cs)) e).0 r in
    let s = lost (λ x. e ∈ exports x) (λ x. has-export e (view x)) b cs m.0 m.1 in
    (s.0, s.1, s.2, (exports-removed (view s.0) (view s.1) e).1 s.3)
exports-by-step b cs Added e r =
    let m = (exports-added (view b) (view (last b cs)) e).0 r in
    let s = gained (λ x. e ∈ exports x) (λ x. has-export e (view x)) b cs m.0 m.1 in
    (s.0, s.1, s.2, (exports-added (view s.0) (view s.1) e).1 s.3)

needs-by-step : (b : Build) (cs : List Build) (h : Change) (n : Need) → Reports h n (need_diff (view b) (view (last b cs)))
    → SomeStep b cs (λ x y. Reports h n (need_diff (view x) (view y)))
needs-by-step b cs Removed n r =
    let m = (needs-removed (view b) (view (last b cs)) n).0 r in
    let s = lost (λ x. n ∈ pairs x) (λ x. has-need n (view x)) b cs m.0 m.1 in
    (s.0, s.1, s.2, (needs-removed (view s.0) (view s.1) n).1 s.3)
needs-by-step b cs Added n r =
    let m = (needs-added (view b) (view (last b cs)) n).0 r in
    let s = gained (λ x. n ∈ pairs x) (λ x. has-need n (view x)) b cs m.0 m.1 in
    (s.0, s.1, s.2, (needs-added (view s.0) (view s.1) n).1 s.3)

pub of-series : OfSeries
of-series = record { exports = exports-by-step; needs = needs-by-step }

-- ---- a list is empty exactly where it reports nothing
reports-none : {K : Type 0} (d : List (Entry K)) → ((h : Change) (k : K) → Reports h k d → ⊥) → d ≡ []
reports-none [] f = refl
reports-none (e ∷ d) f = absurd (f e.change e.row.key (e, Memᴰ.head refl, refl, refl))

none-reported : {K : Type 0} {d : List (Entry K)} → d ≡ [] → (h : Change) (k : K) → Reports h k d → ⊥
none-reported {K} {d} q h k r = Memᴰ.not-nil (rw q at r.1)

-- the verdict on the lists of two modules
abbrev pub Fine : View → View → Type 0
Fine b c = (verdict_on (lists b c)).compatible ≡ true

module _ (b c : View) where
  both-empty : Fine b c → Fine c b → (export_diff b c ≡ []) × (need_diff b c ≡ [])
  both-empty f g = (reports-none (export_diff b c) no-export, reports-none (need_diff b c) no-need)
    where
      no-export : (h : Change) (e : ExportKey) → Reports h e (export_diff b c) → ⊥
      no-export Removed e r = let m = (exports-removed b c e).0 r in m.1 (((says b c).0 f).0 e m.0)
      no-export Added e r = let m = (exports-added b c e).0 r in m.1 (((says c b).0 g).0 e m.0)

      no-need : (h : Change) (n : Need) → Reports h n (need_diff b c) → ⊥
      no-need Removed n r = let m = (needs-removed b c n).0 r in m.1 (((says c b).0 g).1 n m.0)
      no-need Added n r = let m = (needs-added b c n).0 r in m.1 (((says b c).0 f).1 n m.0)

  module _ (q : export_diff b c ≡ []) (r : need_diff b c ≡ []) where
    kept : (e : ExportKey) → e ∈ keys b.exports → e ∈ keys c.exports
    kept e m = ⊎_elim (λ k. k) (λ k. absurd (none-reported q Removed e ((exports-removed b c e).1 (m, k)))) (has-export e c)

    not_new : (e : ExportKey) → e ∈ keys c.exports → e ∈ keys b.exports
    not_new e m = ⊎_elim (λ k. k) (λ k. absurd (none-reported q Added e ((exports-added b c e).1 (m, k)))) (has-export e b)

    no_more : (n : Need) → n ∈ keys c.needs → n ∈ keys b.needs
    no_more n m = ⊎_elim (λ k. k) (λ k. absurd (none-reported r Added n ((needs-added b c n).1 (m, k)))) (has-need n b)

    no_less : (n : Need) → n ∈ keys b.needs → n ∈ keys c.needs
    no_less n m = ⊎_elim (λ k. k) (λ k. absurd (none-reported r Removed n ((needs-removed b c n).1 (m, k)))) (has-need n c)

    empty-both : Fine b c × Fine c b
    empty-both = ((says b c).1 (kept, no_more), (says c b).1 (not_new, no_less))

  pub each-empty : (Fine b c × Fine c b) ↔ ((export_diff b c ≡ []) × (need_diff b c ≡ []))
  each-empty = ((λ h. both-empty h.0 h.1), λ q. empty-both q.0 q.1)

-- ---- two builds
-- an accepted comparison, with any room, gives the verdict on the two lists
verdict-on : (b c : Build) (room8 room9 : ℕ) (v : Verdict) → builds_compared b c room8 room9 ≡ accepted v
    → v ≡ verdict_on (lists (view b) (view c))
unfolding roomed
verdict-on b c room8 room9 v e =
    let x = followed _ _ e in
    let y = followed _ _ (sym (compared_is b c room8 room9) ∙ x.first) in
    let z = followed _ _ y.then in
    sym (one_value x.then) ∙ ap verdict_on (sym (one_value z.then))

stands : (b c : Build) → StandsIn b c ↔ Fine (view b) (view c)
stands b c = (
  (λ h. ap (λ (v : Verdict). v.compatible) (sym (verdict-on b c (limit 8) (limit 9) h.verdict h.answers)) ∙ h.says),
  λ f. record { verdict = verdict_on (lists (view b) (view c)); answers = replacement.answered b c; says = f },
)

pub each-lists : (b c : Build) → (StandsIn b c × StandsIn c b) ↔ ((export_diff (view b) (view c) ≡ []) × (need_diff (view b) (view c) ≡ []))
each-lists b c =
    let s = each-empty (view b) (view c) in (
      (λ h. s.0 ((stands b c).0 h.0, (stands c b).0 h.1)),
      λ q. let f = s.1 q in ((stands b c).1 f.0, (stands c b).1 f.1),
    )

pub length_none : {A : Type 0} (l : List A) → (l ≡ []) ↔ (length l ≡ 0)
length_none [] = ((λ q. refl), λ q. refl)
length_none (x ∷ l) = ((λ q. ap (λ (m : List _). length m) q), λ q. absurd (omega arith))

pub each_counts : (b c : Build) (room8 room9 : ℕ) (v : Verdict) → builds_compared b c room8 room9 ≡ accepted v
    → (StandsIn b c × StandsIn c b) ↔ ((v.exports ≡ 0) × (v.capabilities ≡ 0))
unfolding verdict_on
each_counts b c room8 room9 v e =
    let s = each-lists b c in
    let z = verdict-on b c room8 room9 v e in
    let m : v.exports ≡ length (export_diff (view b) (view c)) = ap (λ (w : Verdict). w.exports) z in
    let n : v.capabilities ≡ length (need_diff (view b) (view c)) = ap (λ (w : Verdict). w.capabilities) z in
    let x = length_none (export_diff (view b) (view c)) in
    let y = length_none (need_diff (view b) (view c)) in (
      (λ h. let q = s.0 h in (m ∙ x.0 q.0, n ∙ y.0 q.1)),
      λ q. s.1 (x.1 (sym m ∙ q.0), y.1 (sym n ∙ q.1)),
    )
