-- The orders of exports and of pairs: lawful, and only equals tie. Assumes nothing.
use mathlib.Core.Path.{◌≡◌, refl, sym, ◌∙◌, ap}
use mathlib.Core.Bool.{Bool, true, false}
use mathlib.Core.List.{List}
use Prim.Native.Nat.{ℕ, ◌+◌, ◌-◌, ◌*◌, ◌/◌, ◌%◌}
use native.Mathlib.Omega.{arith}
use native.Mathlib.Nat.{div-add-mod}
use lib.Dec.{eqb, ltb}
use lib.ListN.{get_or}
use borrow.Author.Tests.{eqb-true, ltb-true, ltb-false, lt-ltb, le-ltb}
use Rattle.refusal.specs.Pick.{pick}
use Rattle.text.specs.Order.{cmp_nat, cmp_bytes}
use Rattle.std.specs.declared.cmp.Ordering.TheVariants.{Equal}
use Rattle.sorting.specs.Order.{Lawful}
use Rattle.sorting.proofs.Orders.{lawful-nat, lawful-bytes, lawful-on, lawful_then, then_tie, exact-nat, exact_bytes}
use Rattle.kinds.specs.declared.ExternalKind.{ExternalKind}
use Rattle.kinds.specs.declared.ExternalKind.TheVariants.{Func, Table, Memory, Global, Other}
use Rattle.kinds.specs.Kinds.{kind_of, kind_byte, kind_word, hex_of}
use Rattle.differences.specs.View.{ExportKey, Need}
use Rattle.differences.specs.Differences.{kind_slug, cmp_export, cmp_need, Entry, export_order, need_order}
use Rattle.covering.proofs.Differ.{Keyed}

-- ---- a kind is known by its word
-- the digit that a character stands for
digit : ℕ → ℕ
digit c = pick (ltb c 58) (c - 48) (c - 87)

digit-hex : (n : ℕ) → digit (hex_of n) ≡ n
unfolding digit
digit-hex n = by (ltb n 10) refl
  where
    by : (t : Bool) → ltb n 10 ≡ t → let c : ℕ = pick t (48 + n) (97 + (n - 10)) in pick (ltb c 58) (c - 48) (c - 87) ≡ n
    by true e = let h = ltb-true n 10 e in rw (lt-ltb (48 + n) 58 (omega arith)) (omega arith)
    by false e = let h = ltb-false n 10 e in rw (le-ltb (97 + (n - 10)) 58 (omega arith)) (omega arith)

-- the byte of the kind with this word
byte_of : List ℕ → ℕ
byte_of w =
    pick (eqb (get_or w 0 0) 102) 0
    (pick (eqb (get_or w 0 0) 116) 1
    (pick (eqb (get_or w 0 0) 109) 2
    (pick (eqb (get_or w 0 0) 103) 3
    (digit (get_or w 8 0) * 16 + digit (get_or w 9 0)))))

byte_word : (k : ExternalKind) → byte_of (kind_word k) ≡ kind_byte k
unfolding byte_of
byte_word Func = refl
byte_word Table = refl
byte_word Memory = refl
byte_word Global = refl
byte_word (Other b) = rw (digit-hex (b / 16), digit-hex (b % 16)) (let z = div-add-mod b 16 in omega arith)

byte-kind : (b : ℕ) → kind_byte (kind_of b) ≡ b
unfolding kind_of
byte-kind b = by (eqb b 0) refl (eqb b 1) refl (eqb b 2) refl (eqb b 3) refl
  where
    by : (p : Bool) → eqb b 0 ≡ p → (q : Bool) → eqb b 1 ≡ q → (r : Bool) → eqb b 2 ≡ r → (s : Bool) → eqb b 3 ≡ s
        → kind_byte (pick p Func (pick q Table (pick r Memory (pick s Global (Other b))))) ≡ b
    by true e q f r g s h = sym (eqb-true b 0 e)
    by false e true f r g s h = sym (eqb-true b 1 f)
    by false e false f true g s h = sym (eqb-true b 2 g)
    by false e false f false g true h = sym (eqb-true b 3 h)
    by false e false f false g false h = refl

exact-slug : (j k : ℕ) → cmp_bytes (kind_slug j) (kind_slug k) ≡ Equal → j ≡ k
exact-slug j k h =
    sym (byte_word (kind_of j) ∙ byte-kind j) ∙ ap byte_of (exact_bytes (kind_slug j) (kind_slug k) h) ∙ byte_word (kind_of k) ∙ byte-kind k

-- ---- exports, and pairs
exact-export : (x y : ExportKey) → cmp_export x y ≡ Equal → x ≡ y
unfolding cmp_export
exact-export x y h =
    let s = then_tie (cmp_bytes x.name y.name) (cmp_bytes (kind_slug x.kind) (kind_slug y.kind)) h in
    let p : x.name ≡ y.name = exact_bytes x.name y.name s.0 in
    let q : x.kind ≡ y.kind = exact-slug x.kind y.kind s.1 in
    λ i. record { name = p i; kind = q i }

exact-need : (x y : Need) → cmp_need x y ≡ Equal → x ≡ y
unfolding cmp_need
exact-need x y h =
    let s = then_tie (cmp_nat x.domain y.domain) (cmp_bytes x.source y.source) h in
    let p : x.domain ≡ y.domain = exact-nat x.domain y.domain s.0 in
    let q : x.source ≡ y.source = exact_bytes x.source y.source s.1 in
    λ i. record { domain = p i; source = q i }

lawful-export : Lawful cmp_export
unfolding cmp_export
lawful-export = lawful_then (lawful-on lawful-bytes (λ (e : ExportKey). e.name))
    (lawful-on lawful-bytes (λ (e : ExportKey). kind_slug e.kind))

lawful-need : Lawful cmp_need
unfolding cmp_need
lawful-need = lawful_then (lawful-on lawful-nat (λ (n : Need). n.domain)) (lawful-on lawful-bytes (λ (n : Need). n.source))

pub of-exports : Keyed cmp_export export_order
unfolding export_order
of-exports =
    record {
      laws = lawful-export;
      exact = exact-export;
      flaws =
          lawful_then (lawful-on lawful-export (λ (e : Entry ExportKey). e.row.key))
          (lawful-on lawful-nat (λ (e : Entry ExportKey). e.row.at));
      ties =
          λ e f h.
          exact-export e.row.key f.row.key
          (then_tie (cmp_export e.row.key f.row.key) (cmp_nat e.row.at f.row.at) h).0;
      blind = λ e f. refl;
    }

pub of-needs : Keyed cmp_need need_order
unfolding need_order
of-needs =
    record {
      laws = lawful-need;
      exact = exact-need;
      flaws = lawful-on lawful-need (λ (e : Entry Need). e.row.key);
      ties = λ e f h. exact-need e.row.key f.row.key h;
      blind = λ e f. refl;
    }

-- two entries of exports that tie have one row
pub tie-row : (e f : Entry ExportKey) → export_order e f ≡ Equal → e.row ≡ f.row
unfolding export_order
tie-row e f h =
    let s = then_tie (cmp_export e.row.key f.row.key) (cmp_nat e.row.at f.row.at) h in
    let p : e.row.at ≡ f.row.at = exact-nat e.row.at f.row.at s.1 in
    let q : e.row.key ≡ f.row.key = exact-export e.row.key f.row.key s.0 in
    λ i. record { at = p i; key = q i }
