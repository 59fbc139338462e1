-- Counts, verdicts and their tests. Assumes nothing.
use mathlib.Core.Path.{◌≡◌, refl, sym, ap, ◌∙◌}
use mathlib.Core.Bool.{Bool, true, false}
use mathlib.Core.List.{List, [], ◌∷◌, ◌++◌, map}
use Prim.Native.Nat.{ℕ, zero, suc, ◌+◌, ◌≤◌, ◌<◌, min}
use native.Mathlib.Omega.{arith}
use native.Mathlib.Numerals.{add-one}
use lib.Count.{ones}
use lib.Dec.{eqb, ltb}
use lib.ListN.{length, get_or, take, drop, set, replicate}
use lib.Seq.{take-suc, get_or-take, length-take-le}
use Rattle.std.proofs.lemmas.List.{take-map, length-map, get_or-map}
use Rattle.std.proofs.Math.Seq.{take-length}
use borrow.Author.Tests.{lt-ltb, le-ltb, ltb-false}
use native.Mathlib.Nat.{div-one, min-le_left}
use Rattle.refusal.specs.Pick.{pick}
use Rattle.refusal.specs.Said.{Said, accepted, refused, follow, spot, Place}
use Rattle.refusal.proofs.Following.{never}
use Rattle.text.proofs.Laws.{left-next, left-none}
use Rattle.table.specs.Table.{capacity_of}
use Rattle.table.specs.Shape.{limit, capacity_in}
use Rattle.verdicts.specs.Evaluate.{how_many, verdict_for, violates, bits, members, firsts, seven_of, outcome_by, outcome, first_past}
use Rattle.verdicts.specs.Evaluate.{Outcome, domains_test, evaluated, no_verdict, outcome_in, tallied}
use Rattle.policy.specs.declared.Policy.{Policy}
use Rattle.verdicts.specs.declared.Verdict.{Verdict}

-- ---- the first row past the domains, in a loop up
module _ (ns : List ℕ) (i : ℕ) where
  pub past-here : i < length ns → 6 < get_or ns i 0 → first_past (drop i ns) ≡ 0
  unfolding first_past
  past-here h e = rw (left-next ns i h, lt-ltb 6 (get_or ns i 0) e)

  pub past-on : i < length ns → get_or ns i 0 ≤ 6 → first_past (drop i ns) ≡ suc (first_past (drop (i + 1) ns))
  unfolding first_past
  past-on h e = rw (left-next ns i h, le-ltb 6 (get_or ns i 0) e)

  past_end : length ns ≤ i → first_past (drop i ns) ≡ 0
  unfolding first_past
  past_end h = rw (left-none ns i h)

past-small : (ns : List ℕ) (i : ℕ) → i < first_past ns → get_or ns i 0 < 7
unfolding first_past
past-small [] i h = absurd (omega arith)
past-small (x ∷ ns) i h = by (ltb 6 x) refl i h (past-small ns)
  where
    by : (t : Bool) → ltb 6 x ≡ t → (i : ℕ) → i < pick t 0 (suc (first_past ns))
        → ((i : ℕ) → i < first_past ns → get_or ns i 0 < 7) → get_or (x ∷ ns) i 0 < 7
    by true q i h ih = absurd (omega arith)
    by false q zero h ih = omega (arith, ltb-false 6 x q)
    by false q (suc i) h ih = ih i (omega arith)

pub record Domains (ns : List ℕ) (n : ℕ) : Type 0 where
  pub inside : n ≤ length ns
  pub small : (i : ℕ) → i < n → get_or ns i 0 < 7

pub domains-good : (ns : List ℕ) (n : ℕ) → domains_test ns n ≡ accepted tt → Domains ns n
unfolding domains_test
domains-good ns n e = by (ltb (min (length ns) (limit 7)) n) refl (ltb (first_past (take n ns)) n) refl e
  where
    by : (t : Bool) → ltb (min (length ns) (limit 7)) n ≡ t → (u : Bool) → ltb (first_past (take n ns)) n ≡ u
        → ◌≡◌ {A = Said (Unit {0})}
        (pick t (refused 15 (spot (min (length ns) (limit 7)))) (pick u (refused 15 (spot (first_past (take n ns)))) (accepted tt)))
        (accepted tt)
        → Domains ns n
    by true p u q e = absurd (never e)
    by false p true q e = absurd (never e)
    by false p false q e =
        let k = ltb-false (first_past (take n ns)) n q in
        record {
          inside = omega (arith, min-le_left (length ns) (limit 7), ltb-false (min (length ns) (limit 7)) n p);
          small = λ i h. rw (get_or-take n ns i 0 h) at (past-small (take n ns) i (omega arith));
        }

-- ---- counts
many-snoc : (d : ℕ) (ns : List ℕ) (x : ℕ) → how_many d (ns ++ x ∷ []) ≡ pick (eqb x d) (how_many d ns + 1) (how_many d ns)
unfolding how_many
many-snoc d [] x = refl
many-snoc d (y ∷ ns) x = by (eqb y d) (eqb x d) (many-snoc d ns x)
  where
    by : (t u : Bool) → how_many d (ns ++ x ∷ []) ≡ pick u (how_many d ns + 1) (how_many d ns)
        → pick t (suc (how_many d (ns ++ x ∷ []))) (how_many d (ns ++ x ∷ []))
        ≡ pick u (pick t (suc (how_many d ns)) (how_many d ns) + 1) (pick t (suc (how_many d ns)) (how_many d ns))
    by true true ih = omega (arith, ih)
    by true false ih = omega (arith, ih)
    by false true ih = omega (arith, ih)
    by false false ih = omega (arith, ih)

abbrev pub counts : List ℕ → List ℕ
counts ns = seven_of (λ (d : ℕ). how_many d ns)

stored : (f : ℕ → ℕ) (x : ℕ) → x < 7
    → set (seven_of f) x (get_or (seven_of f) x 0 + 1) ≡ seven_of (λ (d : ℕ). pick (eqb x d) (f d + 1) (f d))
stored f zero h = refl
stored f (suc zero) h = refl
stored f (suc (suc zero)) h = refl
stored f (suc (suc (suc zero))) h = refl
stored f (suc (suc (suc (suc zero)))) h = refl
stored f (suc (suc (suc (suc (suc zero))))) h = refl
stored f (suc (suc (suc (suc (suc (suc zero)))))) h = refl
stored f (suc (suc (suc (suc (suc (suc (suc x))))))) h = absurd (omega arith)

pub counts-none : (ns : List ℕ) → replicate 7 0 ≡ counts (take 0 ns)
unfolding how_many
counts-none ns = refl

pub counts-next : (ns : List ℕ) (i : ℕ) {many : List ℕ} → i < length ns → get_or ns i 0 < 7 → many ≡ counts (take i ns)
    → set many (get_or ns i 0) (get_or many (get_or ns i 0) 0 + 1) ≡ counts (take (i + 1) ns)
counts-next ns i {many} h k e =
    let x = get_or ns i 0 in
    let g : take (i + 1) ns ≡ take i ns ++ x ∷ [] = ap (λ (m : ℕ). take m ns) (add-one i) ∙ take-suc ns i 0 h in
    let z : set many x (get_or many x 0 + 1) ≡ seven_of (λ (d : ℕ). pick (eqb x d) (how_many d (take i ns) + 1) (how_many d (take i ns))) =
    rw e (stored (λ (d : ℕ). how_many d (take i ns)) x k) in
    z ∙ rw g (sym (simp many-snoc))

many-most : (d : ℕ) (ns : List ℕ) → how_many d ns ≤ length ns
unfolding how_many
many-most d [] = omega arith
many-most d (x ∷ ns) = by (eqb x d) (many-most d ns)
  where
    by : (t : Bool) → how_many d ns ≤ length ns → pick t (suc (how_many d ns)) (how_many d ns) ≤ suc (length ns)
    by true h = omega arith
    by false h = omega arith

-- ---- the outcome

counted : (f : ℕ → ℕ) (x : ℕ) → x < 7 → get_or (seven_of f) x 0 ≡ f x
counted f zero h = refl
counted f (suc zero) h = refl
counted f (suc (suc zero)) h = refl
counted f (suc (suc (suc zero))) h = refl
counted f (suc (suc (suc (suc zero)))) h = refl
counted f (suc (suc (suc (suc (suc zero))))) h = refl
counted f (suc (suc (suc (suc (suc (suc zero)))))) h = refl
counted f (suc (suc (suc (suc (suc (suc (suc x))))))) h = absurd (omega arith)

pub counts-most : (ns : List ℕ) (i x : ℕ) {many : List ℕ} → i ≤ length ns → x < 7 → many ≡ counts (take i ns) → get_or many x 0 ≤ i
counts-most ns i x {many} h k e =
    let z : get_or many x 0 ≡ how_many x (take i ns) = rw e (counted (λ (d : ℕ). how_many d (take i ns)) x k) in
    omega (arith, many-most x (take i ns), length-take-le i ns h)

-- ---- the flags of the verdicts
pub flag_at : (vs : List Verdict) (i : ℕ) → violates (get_or vs i no_verdict) ≡ get_or (map violates vs) i false
flag_at [] i = refl
flag_at (v ∷ vs) zero = refl
flag_at (v ∷ vs) (suc i) = flag_at vs i

-- ---- what judge gives
pub judge-as : (p : Policy) (many : List ℕ) {vs : List Verdict} {k n : ℕ} → vs ≡ seven_of (λ (d : ℕ). verdict_for p d (get_or many d 0))
    → k ≡ bits 0 (firsts 7 (map violates vs)) → ones k ≡ members (firsts 7 (map violates vs)) → n ≡ ones k
    → outcome_in (record { verdicts = vs; set = k; count = n }) ≡ outcome_by (seven_of (λ (d : ℕ). verdict_for p d (get_or many d 0)))
unfolding firsts
judge-as p many v b o c = rw (c, o, b, v)

-- ---- what tally answers: row i has the number d
pub number-at : {A : Type 0} (number : A → ℕ) (rows : List A) (i : ℕ) {x : A} {d : ℕ} → i < length rows → x ≡ get_or rows i x
    → d ≡ number x → d ≡ get_or (map number rows) i 0
number-at number rows i {x} h e q = q ∙ ap number e ∙ sym (get_or-map number rows i x 0 h)

module _ {A : Type 0} (number : A → ℕ) (rows : List A) (i : ℕ) where
  abbrev numbers : List ℕ
  numbers = map number rows

  -- a turn
  module _ {x : A} {d : ℕ} (h : i < length rows) (is : x ≡ get_or rows i x) (q : d ≡ number x) where
    inside : i < length numbers
    inside = rw (length-map rows number) h

    here : get_or numbers i 0 ≡ d
    here = sym (number-at number rows i h is q)

    pub tally-bad : 6 < d → first_past (map number rows) ≡ i + first_past (drop i (map number rows))
        → refused 15 (spot i) ≡ tallied (map number rows)
    unfolding tallied
    tally-bad e f =
        let z : first_past numbers ≡ i = omega (arith, f, past-here numbers i inside (omega (arith, here, e))) in
        rw (z, lt-ltb i (length numbers) inside)

    pub tally-most : {many : List ℕ} → d ≤ 6 → many ≡ counts (take i (map number rows)) → get_or many d 0 ≤ i
    tally-most e m = counts-most numbers i d (omega (arith, inside)) (omega arith) m

    pub tally-more : {many : List ℕ} → d ≤ 6 → many ≡ counts (take i (map number rows))
        → set many d (get_or many d 0 + 1) ≡ counts (take (i + 1) (map number rows))
    tally-more e m = rw (← here) (counts-next numbers i inside (omega (arith, here, e)) m)

    pub tally-on : d ≤ 6 → first_past (map number rows) ≡ i + first_past (drop i (map number rows))
        → first_past (map number rows) ≡ i + 1 + first_past (drop (i + 1) (map number rows))
    tally-on e f = omega (arith, f, past-on numbers i inside (omega (arith, here, e)))

  pub tally-good : {many : List ℕ} → length rows ≤ i → i ≤ length rows → many ≡ counts (take i (map number rows))
      → first_past (map number rows) ≡ i + first_past (drop i (map number rows)) → accepted many ≡ tallied (map number rows)
  unfolding tallied
  tally-good h k m f =
      let l = length-map rows number in
      let e : i ≡ length numbers = omega arith in
      let z : first_past numbers ≡ length numbers = omega (arith, e, f, past_end numbers i (omega arith)) in
      rw (z, le-ltb (length numbers) (length numbers) (omega arith), m, e, take-length numbers)

-- ---- what evaluate_rows answers
module _ {A : Type 0} (number : A → ℕ) (rows : List A) (n room : ℕ) (p : Policy) (is : room ≡ capacity_in 7 (length rows)) where
  abbrev ns : List ℕ
  ns = map number rows

  long-as : length ns ≡ length rows
  long-as = length-map rows number

  room-is : room ≡ min (length ns) (limit 7)
  unfolding capacity_of
  room-is = rw long-as (is ∙ ap (λ (k : ℕ). min k (limit 7)) (div-one (length rows)))

  pub room-short : room < n → refused 15 (spot room) ≡ evaluated (map number rows) n p
  unfolding evaluated domains_test follow
  room-short h = rw (← room-is, lt-ltb room n h)

  module _ (fits : n ≤ room) where
    pub room_fits : n ≤ length rows
    room_fits = omega (arith, room-is, long-as, min-le_left (length ns) (limit 7))

    by-tally : evaluated ns n p
        ≡ follow (tallied (take n ns)) (λ many. accepted (outcome_by (seven_of (λ d. verdict_for p d (get_or many d 0)))))
    unfolding evaluated domains_test follow tallied outcome
    by-tally = by (ltb (first_past (take n ns)) n) refl
      where
        long : length (take n ns) ≡ n
        long = length-take-le n ns (omega (arith, room_fits, long-as))

        by : (t : Bool) → ltb (first_past (take n ns)) n ≡ t → evaluated ns n p
            ≡ follow (tallied (take n ns)) (λ many. accepted (outcome_by (seven_of (λ d. verdict_for p d (get_or many d 0)))))
        by true e = rw (← room-is, le-ltb room n fits, e, long, e)
        by false e = rw (← room-is, le-ltb room n fits, e, long, e)

    pub rows-bad : {m : ℕ} {x : Place} → tallied (map number (take n rows)) ≡ refused m x → refused m x ≡ evaluated (map number rows) n p
    unfolding follow
    rows-bad e = rw (by-tally, take-map number n rows, e)

    pub rows-good : {many : List ℕ} {o : Outcome} → tallied (map number (take n rows)) ≡ accepted many
        → o ≡ outcome_by (seven_of (λ (d : ℕ). verdict_for p d (get_or many d 0))) → accepted o ≡ evaluated (map number rows) n p
    unfolding follow
    rows-good e q = rw (by-tally, take-map number n rows, e, q)
