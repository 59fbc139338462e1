-- Of files and calls: the builds of a series of files, and what the one call says of each two. Assumes nothing.
use mathlib.Core.Path.{◌≡◌, refl, sym, ◌∙◌, ap, subst}
use mathlib.Core.Logic.{◌↔◌}
use mathlib.Core.Bool.{Bool, true, false}
use mathlib.Core.List.{List, [], ◌∷◌, map}
use Prim.Native.Nat.{ℕ}
use lib.Dec.{ltb}
use lib.ListN.{length}
use Rattle.refusal.specs.Pick.{pick}
use Rattle.refusal.specs.Sizes.{file_limit}
use Rattle.refusal.specs.Said.{accepted, refused, spot}
use Rattle.refusal.proofs.Following.{never, one_value, followed}
use Rattle.sorting.specs.Sort.{◌∈◌}
use Rattle.wasm.specs.Module.{Parsed, module_at, module_of, counts_of}
use Rattle.conform.specs.Claims.{Bytes}
use Rattle.conform.specs.Sound.{limits}
use Rattle.differences.specs.declared.Change.{Change}
use Rattle.differences.specs.declared.Change.TheVariants.{Removed, Added}
use Rattle.differences.specs.View.{View, ExportKey, Need}
use Rattle.differences.specs.Differences.{export_diff, need_diff}
use Rattle.differences.specs.Compared.{viewed, verdict_on}
use Rattle.listed.specs.Comparisons.{Comparison, build, builds, comparison}
use Rattle.covering.specs.Replacing.{keys, Reports}
use Rattle.standin.specs.Builds.{Build, view, builds_told, last, Replaces, last_file}
use Rattle.standin.proofs.Builds.{read}
use Rattle.covering.proofs.Views.{exports-removed, exports-added, needs-removed, needs-added}
use Rattle.standin.proofs.Limits.{left, whole, at-limits, full, same-exports, same-pairs}
use Rattle.standin.proofs.Theorems.{explanation}
use Rattle.standin.proofs.Files.{files-told}
use Rattle.series.specs.Steps.{Step, here, there, SomeStep, Answered, ExportReported, NeedReported, FileSeries}
use Rattle.series.specs.Claims.{OfFileSeries, EachOther}
use Rattle.series.proofs.Theorems.{of-series, Fine, each-empty, each-lists, each_counts}

-- ---- two files that the one call compares: what is read of them
record Compared (f g : List ℕ) : Type 0 where
  first : Parsed
  second : Parsed
  first-is : module_at f limits ≡ accepted first
  second_is : module_at g limits ≡ accepted second

not-long : (f g : List ℕ) (v : Comparison) → comparison f g ≡ accepted v → builds f g ≡ accepted v
unfolding comparison
not-long f g v e = by (ltb file_limit (length f)) (ltb file_limit (length g)) e
  where
    by : (s t : Bool) → pick s (refused 14 (spot 0)) (pick t (refused 14 (spot 0)) (builds f g)) ≡ accepted v → builds f g ≡ accepted v
    by true t e = absurd (never e)
    by false true e = absurd (never e)
    by false false e = e

both_read : (f g : List ℕ) → Bytes f → Bytes g → (v : Comparison) → comparison f g ≡ accepted v → Compared f g
both_read f g bytes more v e =
    let k = sym (explanation.files f g bytes more) ∙ not-long f g v e in
    let p = followed (module_at f limits) _ k in
    let q = followed (module_at g limits) _ p.then in
    record { first = p.what; second = q.what; first-is = p.first; second_is = q.first }

-- ---- a list reports the changes of keys, wherever the rows stand
exports-alike : (b c x y : View) → keys b.exports ≡ keys x.exports → keys c.exports ≡ keys y.exports
    → (h : Change) (e : ExportKey) → Reports h e (export_diff b c) → Reports h e (export_diff x y)
exports-alike b c x y p q Removed e r =
    let m = (exports-removed b c e).0 r in (exports-removed x y e).1 (subst (◌∈◌ e) p m.0, λ k. m.1 (subst (◌∈◌ e) (sym q) k))
exports-alike b c x y p q Added e r =
    let m = (exports-added b c e).0 r in (exports-added x y e).1 (subst (◌∈◌ e) q m.0, λ k. m.1 (subst (◌∈◌ e) (sym p) k))

needs-alike : (b c x y : View) → keys b.needs ≡ keys x.needs → keys c.needs ≡ keys y.needs
    → (h : Change) (n : Need) → Reports h n (need_diff b c) → Reports h n (need_diff x y)
needs-alike b c x y p q Removed n r =
    let m = (needs-removed b c n).0 r in (needs-removed x y n).1 (subst (◌∈◌ n) p m.0, λ k. m.1 (subst (◌∈◌ n) (sym q) k))
needs-alike b c x y p q Added n r =
    let m = (needs-added b c n).0 r in (needs-added x y n).1 (subst (◌∈◌ n) q m.0, λ k. m.1 (subst (◌∈◌ n) (sym p) k))

-- ---- what the call reports of two files, and the comparison of builds of them
module _ (b c : Build) where
  told : Comparison
  told = builds_told (build b.file (read b).what) (build c.file (read c).what)

  told_is : comparison b.file c.file ≡ accepted told
  unfolding told
  told_is = files-told b.file c.file (read b).what (read c).what b.bytes c.bytes (at-limits b) (at-limits c)

  -- its lists are those of the two builds read again with tables at the limits
  export-lists : told.lists.exports ≡ export_diff (view (full b)) (view (full c))
  unfolding told full whole left module_of counts_of
  export-lists = refl

  need-lists : told.lists.needs ≡ need_diff (view (full b)) (view (full c))
  unfolding told full whole left module_of counts_of
  need-lists = refl

  -- whatever the call answers has these lists
  exports-told : (v : Comparison) → comparison b.file c.file ≡ accepted v
      → v.lists.exports ≡ export_diff (view (full b)) (view (full c))
  exports-told v e = ap (λ (w : Comparison). w.lists.exports) (one_value (sym e ∙ told_is)) ∙ export-lists

  needs-told : (v : Comparison) → comparison b.file c.file ≡ accepted v → v.lists.needs ≡ need_diff (view (full b)) (view (full c))
  needs-told v e = ap (λ (w : Comparison). w.lists.needs) (one_value (sym e ∙ told_is)) ∙ need-lists

  same-export-changes : (h : Change) (e : ExportKey)
      → Reports h e (export_diff (view b) (view c)) ↔ ExportReported h e b.file c.file
  same-export-changes h e =
      let p = same-exports b in
      let q = same-exports c in
      let alike = exports-alike (view b) (view c) (view (full b)) (view (full c)) (sym p) (sym q) h e in (
        (λ r. record { all = told; answers = told_is; reports = subst (Reports h e) (sym export-lists) (alike r) }),
        λ r. exports-alike (view (full b)) (view (full c)) (view b) (view c) p q h e
            (subst (Reports h e) (exports-told r.all r.answers) r.reports),
      )

  same-need-changes : (h : Change) (n : Need) → Reports h n (need_diff (view b) (view c)) ↔ NeedReported h n b.file c.file
  same-need-changes h n =
      let p = same-pairs b in
      let q = same-pairs c in
      let alike = needs-alike (view b) (view c) (view (full b)) (view (full c)) (sym p) (sym q) h n in (
        (λ r. record { all = told; answers = told_is; reports = subst (Reports h n) (sym need-lists) (alike r) }),
        λ r. needs-alike (view (full b)) (view (full c)) (view b) (view c) p q h n
            (subst (Reports h n) (needs-told r.all r.answers) r.reports),
      )

-- ---- the builds of a series of files
abbrev file_of : Build → List ℕ
file_of b = b.file

record Made (gs : List (List ℕ)) : Type 0 where
  all : List Build
  files : map file_of all ≡ gs

made : (f : List ℕ) (gs : List (List ℕ)) → Bytes f → FileSeries f gs → Made gs
unfolding whole
made f [] bytes s = record { all = []; files = refl }
made f (g ∷ gs) bytes s =
    let k = both_read f g bytes s.0 s.1.all s.1.answers in
    let m = made g gs s.0 s.2 in
    record { all = whole g k.second k.second_is s.0 ∷ m.all; files = ap (◌∷◌ g) m.files }

last_of : (b : Build) (cs : List Build) → (last b cs).file ≡ last_file b.file (map file_of cs)
last_of b [] = refl
last_of b (c ∷ cs) = last_of c cs

last-bytes : (f : List ℕ) (gs : List (List ℕ)) → Bytes f → FileSeries f gs → Bytes (last_file f gs)
last-bytes f [] bytes s = bytes
last-bytes f (g ∷ gs) bytes s = last-bytes g gs s.0 s.2

step_of : {A B : Type 0} (h : A → B) {b x y : A} {cs : List A} → Step b cs x y → Step (h b) (map h cs) (h x) (h y)
step_of h here = here
step_of h (there s) = there (step_of h s)

ends : (f g : List ℕ) (gs : List (List ℕ)) → Bytes f → FileSeries f (g ∷ gs) → Answered f (last_file g gs)
unfolding whole
ends f g gs bytes s =
    let k = both_read f g bytes s.0 s.1.all s.1.answers in
    let b = whole f k.first k.first-is bytes in
    let c = whole g k.second k.second_is s.0 in
    let m = made g gs s.0 s.2 in
    let z = last c m.all in
    subst (Answered f) (last_of c m.all ∙ ap (last_file g) m.files) (record { all = told b z; answers = told_is b z })

-- what holds of two builds exactly where another thing holds of their files: that of the files, by steps, as that of the builds
module _ (OfBuilds : Build → Build → Type 0) (OfTwo : List ℕ → List ℕ → Type 0)
    (same : (b c : Build) → OfBuilds b c ↔ OfTwo b.file c.file) (answered : (f g : List ℕ) → OfTwo f g → Answered f g)
    (steps : (b : Build) (cs : List Build) → OfBuilds b (last b cs) → SomeStep b cs OfBuilds) where
  by-step : (f : List ℕ) (gs : List (List ℕ)) → Bytes f → FileSeries f gs → OfTwo f (last_file f gs) → SomeStep f gs OfTwo
  unfolding whole
  by-step f gs bytes s r =
      let a = answered f (last_file f gs) r in
      let k = both_read f (last_file f gs) bytes (last-bytes f gs bytes s) a.all a.answers in
      let b = whole f k.first k.first-is bytes in
      let m = made f gs bytes s in
      let p : (last b m.all).file ≡ last_file f gs = last_of b m.all ∙ ap (last_file f) m.files in
      let t = steps b m.all ((same b (last b m.all)).1 (subst (OfTwo f) (sym p) r)) in (
        t.0.file,
        t.1.file,
        subst (λ (l : List (List ℕ)). Step f l t.0.file t.1.file) m.files (step_of file_of t.2),
        (same t.0 t.1).0 t.3,
      )

pub of-file-series : OfFileSeries
of-file-series =
    record {
      same_exports = same-export-changes;
      same_needs = same-need-changes;
      ends = ends;
      exports = λ f gs h e.
          by-step (λ b c. Reports h e (export_diff (view b) (view c))) (ExportReported h e) (λ b c. same-export-changes b c h e)
          (λ x y r. record { all = r.all; answers = r.answers }) (λ b cs. of-series.exports b cs h e) f gs;
      needs = λ f gs h n.
          by-step (λ b c. Reports h n (need_diff (view b) (view c))) (NeedReported h n) (λ b c. same-need-changes b c h n)
          (λ x y r. record { all = r.all; answers = r.answers }) (λ b cs. of-series.needs b cs h n) f gs;
    }

-- ---- two files that can replace each other
module _ (f g : List ℕ) (m n : Parsed) (bytes : Bytes f) (more : Bytes g) (first-is : module_at f limits ≡ accepted m)
    (second_is : module_at g limits ≡ accepted n) where
  replaces-fine : Replaces f g ↔ Fine (viewed (build f m)) (viewed (build g n))
  replaces-fine =
      let e = files-told f g m n bytes more first-is second_is in (
        (λ r. ap (λ (v : Comparison). (verdict_on v.lists).compatible) (one_value (sym e ∙ r.answers)) ∙ r.says),
        λ h. record { all = builds_told (build f m) (build g n); answers = e; says = h },
      )

each-files : (f g : List ℕ) (all : Comparison) → Bytes f → Bytes g → comparison f g ≡ accepted all
    → (Replaces f g × Replaces g f) ↔ ((all.lists.exports ≡ []) × (all.lists.needs ≡ []))
each-files f g all bytes more e =
    let k = both_read f g bytes more all e in
    let to = replaces-fine f g k.first k.second bytes more k.first-is k.second_is in
    let back = replaces-fine g f k.second k.first more bytes k.second_is k.first-is in
    let s = each-empty (viewed (build f k.first)) (viewed (build g k.second)) in
    let z : builds_told (build f k.first) (build g k.second) ≡ all =
    one_value (sym (files-told f g k.first k.second bytes more k.first-is k.second_is) ∙ e) in
    subst (λ (v : Comparison). (Replaces f g × Replaces g f) ↔ ((v.lists.exports ≡ []) × (v.lists.needs ≡ []))) z
    ((λ r. s.0 (to.0 r.0, back.0 r.1)), λ q. let h = s.1 q in (to.1 h.0, back.1 h.1))

pub each-other : EachOther
each-other = record { lists = each-lists; counts = each_counts; files = each-files }
