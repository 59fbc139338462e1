-- A build's domains: numbers of domains, no more than an evaluation takes; so it meets a policy exactly where each is allowed.
-- Assumes nothing.
use mathlib.Core.Path.{◌≡◌, refl, sym, ◌∙◌, ap, subst}
use mathlib.Core.Bool.{Bool, true, false}
use mathlib.Core.List.Memᴰ
use mathlib.Core.List.{List, [], ◌∷◌, map}
use Prim.Native.Nat.{ℕ, suc, ◌-◌, ◌≤◌, ◌<◌}
use native.Mathlib.Omega.{arith}
use lib.ListN.{length, take, drop, replicate, length-map}
use lib.Seq.{take-append_seam}
use borrow.Author.Tests.{le-leb, le-ltb}
use Rattle.refusal.specs.Pick.{pick}
use Rattle.refusal.specs.Sizes.{file_limit}
use Rattle.refusal.specs.Said.{accepted, follow}
use Rattle.refusal.proofs.Following.{one_value}
use Rattle.text.specs.Find.{begins, same}
use Rattle.table.specs.Table.{laid}
use Rattle.table.specs.Shape.{width, limit}
use Rattle.table.proofs.Laws.{length-laid}
use Rattle.sorting.specs.Sort.{◌∈◌, selected, up_from}
use Rattle.sorting.specs.Keys.{row_name}
use Rattle.policy.specs.declared.Policy.{Policy}
use Rattle.domains.specs.Classify.{passes, Clue, entry, classed_by, preview, heads, wasi, preview1, unstable, head_of, path_domain}
use Rattle.domains.specs.Classify.{import_domain}
use Rattle.verdicts.specs.Evaluate.{first_past, domains_test}
use Rattle.differences.specs.View.{Need, Row, row, need_at}
use Rattle.import_rows.specs.Queries.{asked, kind_is, imports_tested}
use Rattle.requirements.specs.Requirements.{function_rows, row_domain, module_rows}
use Rattle.table.specs.Listing.{fitted}
use Rattle.covering.specs.Replacing.{keys}
use Rattle.standin.specs.Passing.{Allows, Passes}
use Rattle.standin.specs.Builds.{Build, view, pairs, domains, Meets}
use Rattle.standin.proofs.Passing.{allows-passes, passes-allows}
use Rattle.covering.proofs.Differ.{map-mem}
use Rattle.covering.proofs.Views.{keep-length}
use Rattle.standin.proofs.Builds.{up-length, short, imports-tested, few-imports}

-- ---- classification gives the number of a domain
pick_small : (t : Bool) {x y : ℕ} → x < 7 → y < 7 → pick t x y < 7
pick_small true h k = h
pick_small false h k = k

abbrev Small : List Clue → Type 0
Small [] = Unit {0}
Small (entry t d ∷ es) = (d < 7) × Small es

judged-small : (es : List Clue) (s : List ℕ) → Small es → classed_by es s < 7
unfolding classed_by
judged-small [] s h = omega arith
judged-small (entry t d ∷ es) s h = pick_small (passes t s) h.0 (judged-small es s h.1)

preview-small : Small preview
unfolding preview
preview-small = (omega arith, (omega arith, (omega arith, (omega arith, (omega arith, (omega arith, (omega arith, tt)))))))

heads-small : Small heads
unfolding heads
heads-small = (omega arith, (omega arith, (omega arith, (omega arith, (omega arith, (omega arith, tt))))))

import-small : (m f : List ℕ) → import_domain m f < 7
unfolding import_domain path_domain
import-small m f =
    pick_small (begins preview1 m) (judged-small preview f preview-small)
    (pick_small (same unstable m) (judged-small preview f preview-small)
    (pick_small (begins wasi m) (judged-small heads (head_of (pick (begins wasi m) (drop 5 m) m)) heads-small) (omega arith)))

pub need-small : (file imports : List ℕ) (i : ℕ) → (need_at file imports i).domain < 7
unfolding need_at
need-small file imports i = import-small (row_name file imports (width 2) 0 1 i) (row_name file imports (width 2) 2 3 i)

-- each domain of a build is one
pub small : (b : Build) (d : ℕ) → d ∈ domains b → d < 7
small b d m =
    let u = map-mem (λ (n : Need). n.domain) d (pairs b) m in
    let v = map-mem (λ (r : Row Need). r.key) u.0 (view b).needs u.1 in
    let fns = selected (kind_is b.tables.imports 0) (up_from 0 b.answer.imports) in
    let w = map-mem (row (need_at b.file b.tables.imports)) v.0 fns v.1 in
    let e : d ≡ (need_at b.file b.tables.imports w.0).domain =
    u.2 ∙ ap (λ (n : Need). n.domain) (v.2 ∙ ap (λ (r : Row Need). r.key) w.2) in
    omega (arith, need-small b.file b.tables.imports w.0)

-- ---- the evaluation of numbers of domains is accepted
none-past : (ds : List ℕ) → ((d : ℕ) → d ∈ ds → d < 7) → first_past ds ≡ length ds
unfolding first_past
none-past [] h = refl
none-past (d ∷ ds) h =
    rw (le-ltb 6 d (omega (arith, h d (Memᴰ.head refl)))) (ap suc (none-past ds (λ e m. h e (Memᴰ.tail m))))

laid-front : (n : ℕ) (ds : List ℕ) → take (length ds) (laid n ds) ≡ ds
unfolding laid
laid-front n ds = take-append_seam ds (replicate (n - length ds) 0)

test-passes : (ds : List ℕ) → length ds ≤ limit 7 → ((d : ℕ) → d ∈ ds → d < 7) → domains_test (laid (limit 7) ds) (length ds) ≡ accepted tt
unfolding domains_test
test-passes ds few h =
    rw (
      length-laid (limit 7) ds few,
      laid-front (limit 7) ds,
      none-past ds h,
      le-ltb (limit 7) (length ds) few,
      le-ltb (length ds) (length ds) (omega arith),
    )

-- ---- what a build is asked for
-- its function imports, and their domains
unfoldable pub functions : Build → List ℕ
functions b = function_rows b.tables.imports b.answer.imports

few-rows : (imports : List ℕ) (n : ℕ) → n ≤ limit 2 → length (function_rows imports n) ≤ limit 7
few-rows imports n few = omega (arith, up-length 0 n, keep-length (kind_is imports 0) (up_from 0 n))

few-functions : (b : Build) → length (functions b) ≤ limit 7
unfolding functions
few-functions b = few-rows b.tables.imports b.answer.imports (few-imports b)

-- good rows are listed
pub asked-rows : (file imports : List ℕ) (n : ℕ) → length file ≤ file_limit → n ≤ limit 2
    → imports_tested (length file) imports n ≡ accepted tt
    → module_rows file imports n (limit 7) ≡ accepted (function_rows imports n)
unfolding module_rows asked fitted follow
asked-rows file imports n short few good =
    rw (le-ltb file_limit (length file) short, good, le-leb (length (function_rows imports n)) (limit 7) (few-rows imports n few))

module _ (b : Build) where
  asked-for : module_rows b.file b.tables.imports b.answer.imports (limit 7) ≡ accepted (functions b)
  unfolding functions
  asked-for = asked-rows b.file b.tables.imports b.answer.imports (short b) (few-imports b) (imports-tested b)

  domain-of : (l : List ℕ) → map (λ (n : Need). n.domain) (keys (map (row (need_at b.file b.tables.imports)) l))
      ≡ map (row_domain b.file b.tables.imports) l
  unfolding need_at
  domain-of [] = refl
  domain-of (i ∷ l) = ap (◌∷◌ (row_domain b.file b.tables.imports i)) (domain-of l)

  pub domains-are : domains b ≡ map (row_domain b.file b.tables.imports) (functions b)
  unfolding functions
  domains-are = domain-of (functions b)

module _ (p : Policy) (b : Build) where
  abbrev of : ℕ → ℕ
  of i = row_domain b.file b.tables.imports i

  -- both calls in one
  abbrev Passed : List ℕ → Type 0
  Passed ds = Passes p (laid (limit 7) ds) (length ds)

  good : domains_test (laid (limit 7) (domains b)) (length (domains b)) ≡ accepted tt
  good = test-passes (domains b) (omega (arith, few-functions b, long)) (small b)
    where
      long : length (domains b) ≡ length (functions b)
      long = ap (λ (l : List ℕ). length l) (domains-are b) ∙ length-map (functions b) of

  pub meets-allows : Meets p b → Allows p (domains b)
  meets-allows q =
      rw (laid-front (limit 7) (domains b)) at
      (passes-allows p (laid (limit 7) (domains b)) (length (domains b)) good (rw (laid-front (limit 7) (domains b)) (small b)) passed)
    where
      rows : q.rows ≡ functions b
      rows = one_value (sym q.required ∙ asked-for b)

      passed : Passed (domains b)
      passed =
          subst Passed (ap (λ (l : List ℕ). map of l) rows ∙ sym (domains-are b))
          (subst (λ (n : ℕ). Passes p (laid (limit 7) (map of q.rows)) n) (sym (length-map q.rows of)) q.passes)

  pub allows-meets : Allows p (domains b) → Meets p b
  allows-meets a =
      record {
        rows = functions b;
        required = asked-for b;
        passes =
            subst (λ (n : ℕ). Passes p (laid (limit 7) (map of (functions b))) n) (length-map (functions b) of)
            (subst Passed (domains-are b)
            (allows-passes p (laid (limit 7) (domains b)) (length (domains b)) good (rw (laid-front (limit 7) (domains b)) a)));
      }
