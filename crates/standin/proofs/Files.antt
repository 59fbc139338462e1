-- When a build can replace another, of files and calls alone. Assumes nothing.
use mathlib.Core.Path.{◌≡◌, refl, sym, ◌∙◌, ap, subst, subst₂}
use mathlib.Core.Logic.{◌↔◌}
use mathlib.Core.Bool.{Bool, true, false}
use mathlib.Core.List.{List, [], ◌∷◌}
use Prim.Native.Nat.{ℕ, ◌≤◌}
use lib.Dec.{ltb}
use lib.ListN.{length}
use borrow.Author.Tests.{le-ltb}
use Rattle.refusal.specs.Pick.{pick}
use Rattle.refusal.specs.Sizes.{file_limit}
use Rattle.refusal.specs.Said.{accepted, refused, spot}
use Rattle.refusal.proofs.Following.{never, one_value, followed, follow-goes}
use Rattle.sorting.specs.Sort.{◌∈◌}
use Rattle.wasm.specs.Module.{Sizes, Parsed, module_at, module_of, counts_of}
use Rattle.conform.specs.Claims.{Bytes}
use Rattle.conform.specs.Sound.{limits}
use Rattle.conform.proofs.Larger.{limits-decide}
use Rattle.differences.specs.View.{View, ExportKey, Need}
use Rattle.differences.specs.Compared.{lists, viewed, verdict_on}
use Rattle.listed.specs.Comparisons.{Comparison, build, builds, comparison}
use Rattle.policy.specs.declared.Policy.{Policy}
use Rattle.standin.specs.Builds.{Build, view, StandsIn, builds_told, Read, Meets, Clear, Replaces, FileChain, last_file, Stood}
use Rattle.standin.specs.Claims.{OfFiles}
use Rattle.covering.proofs.Views.{says}
use Rattle.standin.proofs.Builds.{read, short}
use Rattle.standin.proofs.Limits.{left, whole, at-limits, full, same-exports, same-pairs, meets-clear, clear-meets}
use Rattle.standin.proofs.Theorems.{replacement, explanation}

every : (f : List ℕ) (z : Sizes) (m : Parsed) → Bytes f → module_at f z ≡ accepted m → (b : Build) × (b.file ≡ f)
unfolding whole
every f z m bytes is = (whole f m (limits-decide f z m is) bytes, refl)

-- ---- two files of which the call says compatible: what is read of them
abbrev seen : List ℕ → Parsed → View
seen f m = viewed (build f m)

record Known (f g : List ℕ) : Type 0 where
  first : Parsed
  second : Parsed
  first-is : module_at f limits ≡ accepted first
  second_is : module_at g limits ≡ accepted second
  fine : (verdict_on (lists (seen f first) (seen g second))).compatible ≡ true

-- neither is too long
not-long : (f g : List ℕ) (v : Comparison) → comparison f g ≡ accepted v → builds f g ≡ accepted v
unfolding comparison
not-long f g v e = by (ltb file_limit (length f)) (ltb file_limit (length g)) e
  where
    by : (s t : Bool) → pick s (refused 14 (spot 0)) (pick t (refused 14 (spot 0)) (builds f g)) ≡ accepted v → builds f g ≡ accepted v
    by true t e = absurd (never e)
    by false true e = absurd (never e)
    by false false e = e

known : (f g : List ℕ) → Bytes f → Bytes g → Replaces f g → Known f g
known f g bytes more r =
    let e = sym (explanation.files f g bytes more) ∙ not-long f g r.all r.answers in
    let p = followed (module_at f limits) _ e in
    let q = followed (module_at g limits) _ p.then in
    let z : builds_told (build f p.what) (build g q.what) ≡ r.all = one_value q.then in
    record {
      first = p.what;
      second = q.what;
      first-is = p.first;
      second_is = q.first;
      fine = ap (λ (v : Comparison). (verdict_on v.lists).compatible) z ∙ r.says;
    }

short-file : (f : List ℕ) (m : Parsed) → Bytes f → module_at f limits ≡ accepted m → length f ≤ file_limit
unfolding whole
short-file f m bytes is = short (whole f m is bytes)

short-both : (f g : List ℕ) → length f ≤ file_limit → length g ≤ file_limit → comparison f g ≡ builds f g
unfolding comparison
short-both f g h k = rw (le-ltb file_limit (length f) h, le-ltb file_limit (length g) k)

pub files-told : (f g : List ℕ) (m n : Parsed) → Bytes f → Bytes g → module_at f limits ≡ accepted m → module_at g limits ≡ accepted n
    → comparison f g ≡ accepted (builds_told (build f m) (build g n))
files-told f g m n bytes more p q =
    short-both f g (short-file f m bytes p) (short-file g n more q)
    ∙ explanation.files f g bytes more
    ∙ sym (follow-goes _ p (follow-goes _ q refl))

replaces : (f g : List ℕ) → Bytes f → Bytes g → Known f g → Replaces f g
replaces f g bytes more k =
    record {
      all = builds_told (build f k.first) (build g k.second);
      answers = files-told f g k.first k.second bytes more k.first-is k.second_is;
      says = k.fine;
    }

-- ---- and what stands in
to-builds : (f g : List ℕ) → Bytes f → Bytes g → Replaces f g → Stood f g
unfolding whole left module_of counts_of
to-builds f g bytes more r =
    let k = known f g bytes more r in
    let b = whole f k.first k.first-is bytes in
    let c = whole g k.second k.second_is more in
    record {
      baseline = b;
      candidate = c;
      baseline-is = refl;
      candidate-is = refl;
      stands = record { verdict = verdict_on (lists (view b) (view c)); answers = replacement.answered b c; says = k.fine };
    }

of-builds : (b c : Build) → StandsIn b c → Replaces b.file c.file
unfolding full whole left module_of counts_of
of-builds b c h =
    let k = (replacement.means b c _ _ h.verdict h.answers).0 h.says in
    replaces b.file c.file b.bytes c.bytes
    (record {
      first = (read b).what;
      second = (read c).what;
      first-is = at-limits b;
      second_is = at-limits c;
      fine =
          (says (view (full b)) (view (full c))).1 (
            subst₂ (λ (x y : List ExportKey). (e : ExportKey) → e ∈ x → e ∈ y) (sym (same-exports b)) (sym (same-exports c)) k.has,
            subst₂ (λ (x y : List Need). (n : Need) → n ∈ x → n ∈ y) (sym (same-pairs c)) (sym (same-pairs b)) k.needs,
          );
    })

stood : (f g : List ℕ) → Bytes f → Bytes g → Replaces f g ↔ Stood f g
stood f g bytes more = (
  to-builds f g bytes more,
  λ s. subst₂ Replaces s.baseline-is s.candidate-is (of-builds s.baseline s.candidate s.stands),
)

-- ---- chains
joined : (f g h : List ℕ) → Bytes f → Bytes g → Bytes h → Replaces f g → Replaces g h → Replaces f h
joined f g h at_f at_g at-h r t =
    let k = known f g at_f at_g r in
    let l = known g h at_g at-h t in
    let same : l.first ≡ k.second = one_value (sym l.first-is ∙ k.second_is) in
    let a = (says (seen f k.first) (seen g k.second)).0 k.fine in
    let b = (says (seen g k.second) (seen h l.second)).0
    (subst (λ (m : Parsed). (verdict_on (lists (seen g m) (seen h l.second))).compatible ≡ true) same l.fine) in
    replaces f h at_f at-h
    (record {
      first = k.first;
      second = l.second;
      first-is = k.first-is;
      second_is = l.second_is;
      fine = (says (seen f k.first) (seen h l.second)).1 ((λ e m. b.0 e (a.0 e m)), λ n m. a.1 n (b.1 n m));
    })

last-bytes : (f : List ℕ) (gs : List (List ℕ)) → Bytes f → FileChain f gs → Bytes (last_file f gs)
last-bytes f [] bytes c = bytes
last-bytes f (g ∷ gs) bytes c = last-bytes g gs c.0 c.2

series : (f g : List ℕ) (gs : List (List ℕ)) → Bytes f → FileChain f (g ∷ gs) → Replaces f (last_file g gs)
series f g [] bytes c = c.1
series f g (h ∷ gs) bytes c =
    joined f g (last_file h gs) bytes c.0 (last-bytes g (h ∷ gs) c.0 c.2) c.1 (series g h gs c.0 c.2)

step : (f g : List ℕ) → Stood f g → (text : List ℕ) → Clear f text → Clear g text
step f g s text q =
    subst (λ (x : List ℕ). Clear x text) s.candidate-is
    (replacement.checks s.baseline (s.candidate ∷ []) (s.stands, tt) text
    (subst (λ (x : List ℕ). Clear x text) (sym s.baseline-is) q))

checks : (f : List ℕ) (gs : List (List ℕ)) → Bytes f → FileChain f gs → (text : List ℕ) → Clear f text → Clear (last_file f gs) text
checks f [] bytes c text q = q
checks f (g ∷ gs) bytes c text q = checks g gs c.0 c.2 text (step f g (to-builds f g bytes c.0 c.1) text q)

policies : (f : List ℕ) (gs : List (List ℕ)) → Bytes f → FileChain f gs → (b c : Build) → b.file ≡ f → c.file ≡ last_file f gs
    → (p : Policy) → Read p → Meets p b → Meets p c
policies f gs bytes chain b c of-first of-last p r ok =
    let q = subst (λ (x : List ℕ). Clear x r.text) of-first (meets-clear b r.text p r.reads ok) in
    clear-meets c r.text p r.reads (subst (λ (x : List ℕ). Clear x r.text) (sym of-last) (checks f gs bytes chain r.text q))

pub of-files : OfFiles
of-files = record { every = every; stood = stood; series = series; policies = policies; checks = checks }
