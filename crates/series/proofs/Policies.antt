-- Policies by what they allow. Assumes nothing.
use mathlib.Core.Path.{◌≡◌, refl, sym, ◌∙◌, subst}
use mathlib.Core.Logic.{◌↔◌, ⊎_elim}
use mathlib.Core.Bool.{Bool, true, false, true≢false}
use mathlib.Core.List.Memᴰ
use mathlib.Core.List.{List, [], ◌∷◌}
use Prim.Native.Nat.{ℕ, suc, ◌<◌}
use native.Mathlib.Omega.{arith}
use lib.Dec.{ltb}
use lib.ListN.{length, get_or, take}
use lib.Seq.{get_or-take, length-take-le}
use borrow.Author.Tests.{le-ltb}
use Rattle.refusal.specs.Pick.{pick}
use Rattle.refusal.specs.Sizes.{file_limit}
use Rattle.refusal.specs.Said.{accepted, refused, follow, spot}
use Rattle.refusal.proofs.Following.{never, followed}
use Rattle.text.specs.Whole.{whole_text}
use Rattle.sorting.specs.Sort.{◌∈◌}
use Rattle.wasm.specs.Module.{Parsed, module_at}
use Rattle.conform.specs.Claims.{Bytes}
use Rattle.conform.specs.Sound.{limits}
use Rattle.policy.specs.declared.Policy.{Policy}
use Rattle.policy.specs.Reader.{read_policy}
use Rattle.verdicts.specs.Evaluate.{first_past, domains_test, evaluated, effective_of}
use Rattle.verdicts.proofs.EvalLaws.{domains-good}
use Rattle.checking.specs.Checking.{read_then, checked_of}
use Rattle.standin.specs.Passing.{Allows, Passes}
use Rattle.standin.specs.Builds.{Build, Meets, Clear}
use Rattle.standin.proofs.Passing.{allows-passes, passes-allows}
use Rattle.standin.proofs.Domains.{small, meets-allows, allows-meets}
use Rattle.standin.proofs.Limits.{whole, meets-clear, clear-meets}
use Rattle.series.specs.Policies.{NoStricter, sole}
use Rattle.series.specs.Claims.{Allowing}
use Rattle.series.proofs.Soles.{sole-bytes, sole_build, sole-domains}

-- ---- a list of one domain
one : (d e : ℕ) → e ∈ (d ∷ []) → e ≡ d
one d e m = ⊎_elim (λ k. k) (λ k. absurd (Memᴰ.not-nil k)) (Memᴰ.cases_cons m)

only : (p : Policy) (d : ℕ) → (effective_of p d).allow ≡ true → Allows p (d ∷ [])
only p d a e m = rw (one d e m) a

-- ---- lists of required domains
all_small : (l : List ℕ) → ((i : ℕ) → i < length l → get_or l i 0 < 7) → (d : ℕ) → d ∈ l → d < 7
all_small [] h d m = absurd (Memᴰ.not-nil m)
all_small (x ∷ l) h d m =
    ⊎_elim (λ p. omega (arith, h 0 (omega arith))) (λ k. all_small l (λ i g. h (suc i) (omega arith)) d k) (Memᴰ.cases_cons m)

-- an evaluation that is accepted is of domains
passes-tested : (p : Policy) (ds : List ℕ) (n : ℕ) → Passes p ds n → domains_test ds n ≡ accepted tt
unfolding evaluated
passes-tested p ds n q = (followed (domains_test ds n) _ q.evaluation).first

taken-small : (ds : List ℕ) (n : ℕ) → domains_test ds n ≡ accepted tt → (d : ℕ) → d ∈ take n ds → d < 7
taken-small ds n e =
    let g = domains-good ds n e in
    let l = length-take-le n ds g.inside in
    all_small (take n ds) (λ i h. rw (get_or-take n ds i 0 (omega (arith, l))) (g.small i (omega (arith, l))))

one-tested : (d : ℕ) → d < 7 → domains_test (d ∷ []) 1 ≡ accepted tt
unfolding domains_test first_past
one-tested d h = rw (le-ltb 6 d (omega arith))

sets : (p q : Policy) → NoStricter p q ↔ ((ds : List ℕ) (n : ℕ) → Passes p ds n → Passes q ds n)
sets p q = (up, down)
  where
    up : NoStricter p q → (ds : List ℕ) (n : ℕ) → Passes p ds n → Passes q ds n
    up a ds n h =
        let g = passes-tested p ds n h in
        let s = taken-small ds n g in
        allows-passes q ds n g (λ d m. a d (s d m) (passes-allows p ds n g s h d m))

    down : ((ds : List ℕ) (n : ℕ) → Passes p ds n → Passes q ds n) → NoStricter p q
    down f d h a =
        let g = one-tested d h in
        passes-allows q (d ∷ []) 1 g (taken-small (d ∷ []) 1 g) (f (d ∷ []) 1 (allows-passes p (d ∷ []) 1 g (only p d a))) d
        (Memᴰ.head refl)

-- ---- builds
module _ (p : Policy) (d : ℕ) (h : d < 7) where
  allows-sole : (effective_of p d).allow ≡ true → Meets p (sole_build d h)
  allows-sole a = allows-meets p (sole_build d h) (subst (Allows p) (sym (sole-domains d h)) (only p d a))

  sole-allows : Meets p (sole_build d h) → (effective_of p d).allow ≡ true
  sole-allows m = meets-allows p (sole_build d h) m d (subst (◌∈◌ d) (sym (sole-domains d h)) (Memᴰ.head refl))

no-stricter-meets : (p q : Policy) → NoStricter p q → (b : Build) → Meets p b → Meets q b
no-stricter-meets p q a b m = allows-meets q b (λ d k. a d (small b d k) (meets-allows p b m d k))

builds : (p q : Policy) → NoStricter p q ↔ ((b : Build) → Meets p b → Meets q b)
builds p q = (no-stricter-meets p q, λ f d h a. sole-allows q d h (f (sole_build d h) (allows-sole p d h a)))

-- ---- files: what is checked and passes is read
clear-read : (f t : List ℕ) → Clear f t → (m : Parsed) × (module_at f limits ≡ accepted m)
unfolding checked_of read_then
clear-read f t q = by (ltb file_limit (length f)) q.answers
  where
    by : (s : Bool) → pick s (refused 14 (spot 0)) (follow (whole_text t) (λ u. read_then limits f t)) ≡ accepted q.outcome
        → (m : Parsed) × (module_at f limits ≡ accepted m)
    by true e = absurd (never e)
    by false e =
        let w = followed (whole_text t) (λ u. read_then limits f t) e in
        let m = followed (module_at f limits) _ w.then in
        (m.what, m.first)

module _ (p q : Policy) (t u : List ℕ) (first : read_policy t ≡ accepted p) (second : read_policy u ≡ accepted q) where
  sole-clear : (d : ℕ) (h : d < 7) → (effective_of p d).allow ≡ true → Clear (sole d) t
  unfolding whole
  sole-clear d h a = meets-clear (sole_build d h) t p first (allows-sole p d h a)

  clear-sole : (d : ℕ) (h : d < 7) → Clear (sole d) u → (effective_of q d).allow ≡ true
  unfolding whole
  clear-sole d h c = sole-allows q d h (clear-meets (sole_build d h) u q second c)

  texts : NoStricter p q ↔ ((f : List ℕ) → Bytes f → Clear f t → Clear f u)
  unfolding whole
  texts = (
    (λ a f bytes c.
        let m = clear-read f t c in
        let b = whole f m.0 m.1 bytes in
        meets-clear b u q second (no-stricter-meets p q a b (clear-meets b t p first c))),
    λ f d h a. clear-sole d h (f (sole d) (sole-bytes d h) (sole-clear d h a)),
  )

  apart : (d : ℕ) → d < 7 → (effective_of p d).allow ≡ true → (effective_of q d).allow ≡ false
      → Bytes (sole d) × Clear (sole d) t × (Clear (sole d) u → ⊥)
  apart d h a n = (sole-bytes d h, sole-clear d h a, λ c. true≢false (sym (clear-sole d h c) ∙ n))

pub allowing : Allowing
allowing = record { sets = sets; builds = builds; texts = texts; apart = apart }
