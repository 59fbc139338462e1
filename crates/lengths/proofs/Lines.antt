-- How long a line of a report can be, by the names and numbers in it. Assumes nothing.
use mathlib.Core.Bool.{Bool, true, false}
use mathlib.Core.List.{List, [], ◌∷◌, ◌++◌}
use Prim.Native.Nat.{ℕ, ◌+◌, ◌*◌, ◌≤◌}
use native.Mathlib.Omega.{arith}
use lib.Dec.{eqb, ltb}
use lib.ListN.{length, length-append}
use Rattle.refusal.specs.Pick.{pick}
use Rattle.refusal.specs.Said.{Place, number_at, beside_at}
use Rattle.kinds.specs.Kinds.{kind_of, kind_word}
use Rattle.kinds.specs.declared.ExternalKind.{ExternalKind}
use Rattle.kinds.specs.declared.ExternalKind.TheVariants.{Func, Table, Memory, Global, Other}
use Rattle.domains.specs.Domain.{slug}
use Rattle.verdicts.specs.Evaluate.{violates}
use Rattle.verdicts.specs.declared.Verdict.{Verdict}
use Rattle.output.specs.Bytes.{most}
use Rattle.output.proofs.Words.{slug-long}
use Rattle.reasons.specs.Reasons.{via, reason_lines}
use Rattle.report.specs.Decimal.{decimal_of}
use Rattle.report.specs.Words.{at_w}
use Rattle.report.specs.Texts.{lf, refused_text}
use Rattle.report.proofs.Short.{decimal-short, refused-short}
use Rattle.reviewed.specs.Escape.{escaped, quoted}
use Rattle.reviewed.specs.Words.{sections_w, imports_w, exports_w, not_w, required_w, allowed_w}
use Rattle.reviewed.specs.Words.{not_allowed_w, from_w, offset_w}
use Rattle.reviewed.specs.Texts.{path_text, name_text, default_text, counts_text, words_of, beside_text, reason_text, nth, whether}
use Rattle.reviewed.specs.Texts.{mark_text}
use Rattle.reviewed.specs.Texts.{domain_text, domains_text, violated_text, violated_texts, compliance_text, violation_text, stand_text}
use Rattle.reviewed.specs.Texts.{kind_text}
use Rattle.reviewed.specs.Texts.{removed_text, added_text, verdict_text, none_text}
use Rattle.reviewed.proofs.Escapes.{escaped-long}
use Rattle.lengths.proofs.Sums.{sum_to, lines-sum, sum-le}

-- one of two
pub either : (t : Bool) (k : ℕ) (a b : List ℕ) → length a ≤ k → length b ≤ k → length (pick t a b) ≤ k
either true k a b h i = h
either false k a b h i = i

pub quoted-long : (s : List ℕ) → length (quoted s) ≤ 4 * length s + 2
unfolding quoted
quoted-long s = omega (arith, length-append (escaped s) (34 ∷ []), escaped-long s)

-- ---- a file
pub path-long : (what path : List ℕ) → length (path_text what path) ≤ length what + 4 * length path + 3
unfolding path_text
path-long what path =
    omega (arith, length-append what (quoted path ++ lf), length-append (quoted path) lf, quoted-long path)

default-long : (t : Bool) → length (default_text t) ≤ 16
default-long true = omega arith
default-long false = omega arith

pub name-long : (name : List ℕ) (permit : Bool) → length (name_text name permit) ≤ 4 * length name + 20
unfolding name_text
name-long name permit =
    omega (arith, length-append (quoted name) (default_text permit), quoted-long name, default-long permit)

pub counts-long : (a b c d : ℕ) → a ≤ most → b ≤ most → c ≤ most → d ≤ most → length (counts_text a b c d) ≤ 130
unfolding counts_text
counts-long a b c d h i j k =
    let z = decimal_of d ++ lf in
    let y = decimal_of c ++ (exports_w ++ z) in
    let x = decimal_of b ++ (imports_w ++ y) in
    omega (
      arith,
      length-append (decimal_of a) (sections_w ++ x),
      length-append (decimal_of b) (imports_w ++ y),
      length-append (decimal_of c) (exports_w ++ z),
      length-append (decimal_of d) lf,
      decimal-short a h,
      decimal-short b i,
      decimal-short c j,
      decimal-short d k,
    )

words_long : (n : ℕ) → length (words_of n) ≤ 46
unfolding words_of
words_long n =
    either (eqb n 1) 46 _ _ (omega arith) (either (eqb n 2) 46 _ _ (omega arith) (either (eqb n 4) 46 _ _ (omega arith)
    (either (eqb n 5) 46 _ _ (omega arith) (either (eqb n 6) 46 _ _ (omega arith) (either (eqb n 7) 46 _ _ (omega arith)
    (either (eqb n 8) 46 _ _ (omega arith) (either (eqb n 13) 46 _ _ (omega arith) (either (eqb n 14) 46 _ _ (omega arith)
    (either (eqb n 17) 46 _ _ (omega arith) (either (eqb n 18) 46 _ _ (omega arith) (either (eqb n 19) 46 _ _ (omega arith) (omega arith))))))))))))

beside_long : (n o : ℕ) → o ≤ most → length (beside_text n o) ≤ 29
unfolding beside_text
beside_long n o h = either (eqb n 5) 29 _ _ (omega (arith, length-append offset_w (decimal_of o), decimal-short o h)) (omega arith)

-- a number and a place of a refusal
pub record Short (n : ℕ) (p : Place) : Type 0 where
  pub number : n ≤ most
  pub place : number_at p ≤ most
  pub beside : beside_at p ≤ most

pub reason-long : (n : ℕ) (p : Place) → Short n p → length (reason_text n p) ≤ 130
unfolding reason_text
reason-long n p s =
    let z = words_of n ++ lf in
    let y = beside_text n (beside_at p) ++ z in
    omega (
      arith,
      length-append (decimal_of n) (at_w ++ (decimal_of (number_at p) ++ y)),
      length-append (decimal_of (number_at p)) y,
      length-append (beside_text n (beside_at p)) z,
      length-append (words_of n) lf,
      decimal-short n s.number,
      decimal-short (number_at p) s.place,
      beside_long n (beside_at p) s.beside,
      words_long n,
    )

pub none-long : (whose : List ℕ) (n : ℕ) (p : Place) → Short n p → length (none_text whose n p) ≤ length whose + 68
unfolding none_text
none-long whose n p s =
    omega (arith, length-append whose (refused_text n (number_at p)), refused-short n (number_at p) s.number s.place)

-- ---- the seven domains
whether-long : (t : Bool) (w : List ℕ) → length (whether t w) ≤ length w + 4
unfolding whether
whether-long t w = either t (length w + 4) _ _ (omega arith) (omega (arith, length-append not_w w))

mark-long : (v : Verdict) → length (mark_text v) ≤ 11
unfolding mark_text
mark-long v = either (violates v) 11 _ _ (omega arith) (omega arith)

domain-long : (d : ℕ) (v : Verdict) → v.many ≤ most → length (domain_text d v) ≤ 71
unfolding domain_text
domain-long d v h =
    let z = mark_text v ++ lf in
    let y = whether v.allowed allowed_w ++ z in
    let x = decimal_of v.many ++ ((41 ∷ 44 ∷ 32 ∷ []) ++ y) in
    let u = whether v.required required_w ++ ((32 ∷ 40 ∷ []) ++ x) in
    omega (
      arith,
      length-append (slug d) ((58 ∷ 32 ∷ []) ++ u),
      length-append (whether v.required required_w) ((32 ∷ 40 ∷ []) ++ x),
      length-append (decimal_of v.many) ((41 ∷ 44 ∷ 32 ∷ []) ++ y),
      length-append (whether v.allowed allowed_w) z,
      length-append (mark_text v) lf,
      slug-long d,
      whether-long v.required required_w,
      whether-long v.allowed allowed_w,
      decimal-short v.many h,
      mark-long v,
    )

seven-long : (line : ℕ → List ℕ) (k : ℕ) → ((d : ℕ) → length (line d) ≤ k) → length (reason_lines line 7) ≤ 7 * k
unfolding sum_to
seven-long line k h = omega (arith, lines-sum line 7, sum-le (λ d. length (line d)) (λ d. k) 7 (λ d i. h d))

pub domains-long : (vs : List Verdict) → ((d : ℕ) → (nth vs d).many ≤ most) → length (domains_text vs) ≤ 497
domains-long vs h = omega (arith, seven-long (λ d. domain_text d (nth vs d)) 71 (λ d. domain-long d (nth vs d) (h d)))

violated-long : (d : ℕ) (v : Verdict) → length (violated_text d v) ≤ 8
unfolding violated_text
violated-long d v = either (violates v) 8 _ _ (omega (arith, slug-long d)) (omega arith)

pub compliance-long : (fine : Bool) (vs : List Verdict) → length (compliance_text fine vs) ≤ 71
unfolding compliance_text
compliance-long fine vs =
    either fine 71 _ _ (omega arith)
    (omega (
      arith,
      length-append (violated_texts vs) lf,
      seven-long (λ d. violated_text d (nth vs d)) 8 (λ d. violated-long d (nth vs d)),
    ))

pub violation-long : (d : ℕ) (field source : List ℕ) → length (violation_text d field source) ≤ 45 + 4 * (length field + length source)
unfolding violation_text
violation-long d field source =
    let z = quoted source ++ lf in
    omega (
      arith,
      length-append (slug d) (not_allowed_w ++ (quoted field ++ (from_w ++ z))),
      length-append (quoted field) (from_w ++ z),
      length-append (quoted source) lf,
      slug-long d,
      quoted-long field,
      quoted-long source,
    )

-- ---- the comparison
pub stand-long : (t : Bool) → length (stand_text t) ≤ 47
unfolding stand_text
stand-long t = either t 47 _ _ (omega arith) (omega arith)

pub verdict-long : (fine stands : Bool) → length (verdict_text fine stands) ≤ 42
unfolding verdict_text
verdict-long fine stands =
    either fine 42 _ _ (either stands 42 _ _ (omega arith) (omega arith)) (either stands 42 _ _ (omega arith) (omega arith))

word-long : (k : ExternalKind) → length (kind_word k) ≤ 10
word-long Func = omega arith
word-long Table = omega arith
word-long Memory = omega arith
word-long Global = omega arith
word-long (Other b) = omega arith

kind-long : (kind : ℕ) → length (kind_text kind) ≤ 10
unfolding kind_text
kind-long kind = either (ltb 255 kind) 10 _ _ (omega arith) (word-long (kind_of kind))

pub removed-long : (name : List ℕ) (kind : ℕ) → length (removed_text name kind) ≤ 32 + 4 * length name
unfolding removed_text
removed-long name kind =
    let z = kind_text kind ++ (41 ∷ 10 ∷ []) in
    omega (
      arith,
      length-append (quoted name) ((32 ∷ 40 ∷ []) ++ z),
      length-append (kind_text kind) (41 ∷ 10 ∷ []),
      kind-long kind,
      quoted-long name,
    )

pub added-long : (d : ℕ) (source : List ℕ) → length (added_text d source) ≤ 40 + 4 * length source
unfolding added_text
added-long d source =
    omega (
      arith,
      length-append (slug d) (via ++ (quoted source ++ lf)),
      length-append (quoted source) lf,
      slug-long d,
      quoted-long source,
    )
