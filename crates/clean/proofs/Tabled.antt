-- Rules 3, 4, 6 and 7 as tested on the rows that a plain read leaves are those of the derivation. Assumes nothing.
use Prim.Native.Nat.{ℕ, ◌+◌, ◌≤◌, ◌<◌}
use native.Mathlib.Omega.{arith}
use mathlib.Core.Path.{◌≡◌, refl, sym, ◌∙◌, ap, subst}
use mathlib.Core.Logic.{◌↔◌}
use mathlib.Core.Bool.{Bool, true, false}
use mathlib.Core.List.{List, [], ◌∷◌, map}
use lib.ListN.{length, take, drop}
use lib.Dec.{leb, ltb, eqb}
use borrow.Author.Tests.{leb-true, le-leb, ltb-true, ltb-false, lt-ltb, eqb-true, eqb-false, eq-eqb}
use Rattle.refusal.specs.Pick.{pick, both}
use Rattle.text.specs.Find.{same}
use Rattle.text.proofs.FindLaws.{same-is, same_self}
use Rattle.table.specs.Table.{range_of}
use Rattle.refusal.specs.Each.{Each, each_nil, each-cons}
use Rattle.wasm.specs.Shapes.{Section, Export}
use Rattle.conform.specs.Grammar.{SectionPlace}
use Rattle.conform.specs.Port.{ExportSaid, Held, SectionSaid, Framed, framed, InARow, AnyContent, AnySection, AnyModule}
use Rattle.conform.specs.Claims.{Pairwise, nil, cons, SectionHere, ExportHere, exports_or, exports_last, Rows}
use Rattle.conform.specs.Sound.{ExportOk}
use Rattle.wasm.specs.Module.{Parsed}
use Rattle.strict.specs.Rules.{ids_of, kinds_of, export_names, none_above, section_place, ordered_from, ordered, has, different}
use Rattle.clean.specs.Rules.{KnownId, InOrder, NotNamed, Different, KnownKind, OfExports, DifferentNames, KnownKinds, Rule}

-- ---- tests
unlike : true ≡ false → ⊥
unlike e = let z : ◌≡◌ {A = ℕ} 0 1 = cc in omega arith

both_is : (x y : Bool) → (both x y ≡ true) ↔ ((x ≡ true) × (y ≡ true))
both_is true y = (λ e. (refl, e), λ w. w.1)
both_is false y = (λ e. absurd (unlike (sym e)), λ w. w.0)

-- ---- rules 3 and 7: none is above n
module _ {X : Type 0} (f : X → ℕ) (n : ℕ) (P : X → Type 0) (to : (x : X) → f x ≤ n → P x) (from : (x : X) → P x → f x ≤ n) where
  none_above-each : (xs : List X) → (none_above n (map f xs) ≡ true) ↔ Each P xs
  unfolding none_above
  none_above-each [] = (λ e. each_nil, λ p. refl)
  none_above-each (x ∷ xs) =
      let i = none_above-each xs in
      let j = both_is (leb (f x) n) (none_above n (map f xs)) in
      (λ e. let w = j.0 e in each-cons (to x (leb-true (f x) n w.0)) (i.0 w.1), back i.1 j.1)
    where
      back : (Each P xs → none_above n (map f xs) ≡ true)
          → ((leb (f x) n ≡ true) × (none_above n (map f xs) ≡ true) → both (leb (f x) n) (none_above n (map f xs)) ≡ true)
          → Each P (x ∷ xs) → both (leb (f x) n) (none_above n (map f xs)) ≡ true
      back i j (each-cons p ps) = j (le-leb (f x) n (from x p), i ps)

pub known-ids : (vs : List SectionSaid) → (none_above 12 (map (λ (v : SectionSaid). v.id) vs) ≡ true) ↔ Each KnownId vs
unfolding KnownId
known-ids vs = none_above-each (λ (v : SectionSaid). v.id) 12 KnownId (λ v h. h) (λ v h. h) vs

known-kinds : (es : List ExportSaid) → (none_above 3 (map (λ (e : ExportSaid). e.kind) es) ≡ true) ↔ Each KnownKind es
unfolding KnownKind
known-kinds es = none_above-each (λ (e : ExportSaid). e.kind) 3 KnownKind (λ e h. h) (λ e h. h) es

-- ---- rule 4
place_is : {id place : ℕ} → SectionPlace id place → section_place id ≡ place
unfolding section_place
place_is (SectionPlace.up_to9 {id = id} a b) = rw (lt-ltb id 10 (omega arith))
place_is SectionPlace.datacountsec = refl
place_is SectionPlace.codesec = refl
place_is SectionPlace.datasec = refl

place_of : (id : ℕ) → id ≤ 12 → (id ≡ 0 → ⊥) → SectionPlace id (section_place id)
unfolding section_place
place_of id h n = by (ltb id 10) refl where
  at : {i k : ℕ} → SectionPlace k i → id ≡ k → SectionPlace id i
  at {i} p e = subst (λ (j : ℕ). SectionPlace j i) (sym e) p

  three : (x y : Bool) → eqb id 10 ≡ x → eqb id 11 ≡ y → 10 ≤ id → SectionPlace id (pick x 11 (pick y 12 (pick (eqb id 12) 10 13)))
  three true y e f k = at SectionPlace.codesec (eqb-true id 10 e)
  three false true e f k = at SectionPlace.datasec (eqb-true id 11 f)
  three false false e f k =
      let g : id ≡ 12 = omega (arith, eqb-false id 10 e, eqb-false id 11 f) in
      rw (eq-eqb id 12 g) (at SectionPlace.datacountsec g)

  by : (t : Bool) → ltb id 10 ≡ t → SectionPlace id (pick t id (pick (eqb id 10) 11 (pick (eqb id 11) 12 (pick (eqb id 12) 10 13))))
  by true t = SectionPlace.up_to9 {id = id} (omega (arith, n)) (omega (arith, ltb-true id 10 t))
  by false t = three (eqb id 10) (eqb id 11) refl refl (ltb-false id 10 t)

place-some : {id place : ℕ} → SectionPlace id place → 0 < place
place-some (SectionPlace.up_to9 a b) = omega arith
place-some SectionPlace.datacountsec = omega arith
place-some SectionPlace.codesec = omega arith
place-some SectionPlace.datasec = omega arith

no_place : (id : ℕ) → id ≡ 0 → section_place id ≡ 0
unfolding section_place
no_place id e = rw e

-- sections of known ids
pub in_order : (last : ℕ) (vs : List SectionSaid) → Each KnownId vs
    → (ordered_from last (map (λ (v : SectionSaid). v.id) vs) ≡ true) ↔ InOrder last vs
unfolding ordered_from KnownId
in_order last [] each_nil = (λ e. InOrder.end, λ o. refl)
in_order last (v ∷ vs) (each-cons h hs) =
    by (in_order last vs hs) (in_order (section_place v.id) vs hs) (eqb (section_place v.id) 0) refl
  where
    ids : List ℕ
    ids = map (λ (v : SectionSaid). v.id) vs

    by : ((ordered_from last ids ≡ true) ↔ InOrder last vs)
        → ((ordered_from (section_place v.id) ids ≡ true) ↔ InOrder (section_place v.id) vs)
        → (t : Bool) → eqb (section_place v.id) 0 ≡ t
        → (pick t (ordered_from last ids) (both (ltb last (section_place v.id)) (ordered_from (section_place v.id) ids)) ≡ true)
        ↔ InOrder last (v ∷ vs)
    by i j true t = (λ e. InOrder.custom (zeroth (eqb v.id 0) refl) (i.0 e), back)
      where
        zeroth : (x : Bool) → eqb v.id 0 ≡ x → v.id ≡ 0
        zeroth true x = eqb-true v.id 0 x
        zeroth false x =
            absurd (omega (arith, place-some (place_of v.id h (eqb-false v.id 0 x)), eqb-true (section_place v.id) 0 t))

        back : InOrder last (v ∷ vs) → ordered_from last ids ≡ true
        back (InOrder.custom q o) = i.1 o
        back (InOrder.then p k o) = absurd (omega (arith, place_is p, place-some p, eqb-true (section_place v.id) 0 t))
        back (InOrder.unknown k o) = absurd (omega arith)
    by i j false t =
        let w = both_is (ltb last (section_place v.id)) (ordered_from (section_place v.id) ids) in
        (λ e. let x = w.0 e in InOrder.then (place_of v.id h some) (ltb-true last (section_place v.id) x.0) (j.0 x.1), back)
      where
        some : v.id ≡ 0 → ⊥
        some q = eqb-false (section_place v.id) 0 t (no_place v.id q)

        back : InOrder last (v ∷ vs) → both (ltb last (section_place v.id)) (ordered_from (section_place v.id) ids) ≡ true
        back (InOrder.custom q o) = absurd (some q)
        back (InOrder.then {place = place} p k o) =
            let q : place ≡ section_place v.id = sym (place_is p) in
            (both_is (ltb last (section_place v.id)) (ordered_from (section_place v.id) ids)).1
            (lt-ltb last (section_place v.id) (omega arith), j.1 (subst (λ (n : ℕ). InOrder n vs) q o))
        back (InOrder.unknown k o) = absurd (omega arith)

-- ---- rule 6
not-had : (a : List ℕ) (es : List ExportSaid) → (has a (map (λ (e : ExportSaid). e.name) es) ≡ false) ↔ Each (NotNamed a) es
unfolding has NotNamed
not-had a [] = (λ e. each_nil, λ p. refl)
not-had a (e ∷ es) = by (not-had a es) (same a e.name) refl where
  names : List (List ℕ)
  names = map (λ (e : ExportSaid). e.name) es

  by : ((has a names ≡ false) ↔ Each (λ (e : ExportSaid). e.name ≡ a → ⊥) es) → (t : Bool) → same a e.name ≡ t
      → (pick t true (has a names) ≡ false) ↔ Each (λ (e : ExportSaid). e.name ≡ a → ⊥) (e ∷ es)
  by i true t = (λ q. absurd (unlike q), back)
    where
      back : Each (λ (e : ExportSaid). e.name ≡ a → ⊥) (e ∷ es) → true ≡ false
      back (each-cons p ps) = absurd (p (same-is a e.name t))
  by i false t = (λ q. each-cons other (i.0 q), back)
    where
      other : e.name ≡ a → ⊥
      other q =
          let y : same a e.name ≡ true = rw q (same_self a) in
          unlike (sym y ∙ t)

      back : Each (λ (e : ExportSaid). e.name ≡ a → ⊥) (e ∷ es) → has a names ≡ false
      back (each-cons p ps) = i.1 ps

all-different : (es : List ExportSaid) → (different (map (λ (e : ExportSaid). e.name) es) ≡ true) ↔ Different es
unfolding different
all-different [] = (λ e. Different.end, λ d. refl)
all-different (e ∷ es) =
    by (not-had e.name es) (all-different es) (has e.name (map (λ (e : ExportSaid). e.name) es)) refl
  where
    names : List (List ℕ)
    names = map (λ (e : ExportSaid). e.name) es

    by : ((has e.name names ≡ false) ↔ Each (NotNamed e.name) es) → ((different names ≡ true) ↔ Different es)
        → (t : Bool) → has e.name names ≡ t → (pick t false (different names) ≡ true) ↔ Different (e ∷ es)
    by i j true t = (λ q. absurd (unlike (sym q)), back)
      where
        back : Different (e ∷ es) → false ≡ true
        back (Different.then p d) = absurd (unlike (sym t ∙ i.1 p))
    by i j false t = (λ q. Different.then (i.0 t) (j.0 q), back)
      where
        back : Different (e ∷ es) → different names ≡ true
        back (Different.then p d) = j.1 d

-- ---- in order, there is one export section at most: what is asked of each is asked of the last
unfoldable Seventh : SectionSaid → Type 0
Seventh v = OfExports (λ es. v.id ≡ 7) v.holds

sevenths : {l r : List ℕ} {vs : List SectionSaid} → InARow (Framed AnySection) l vs r → Each Seventh vs
unfolding Seventh
sevenths InARow.done = each_nil
sevenths (InARow.then (framed n (AnySection.section c)) w) = each-cons (of c) (sevenths w)
  where
    of : {id : ℕ} {p : List ℕ} {c : Held} → AnyContent id p c → OfExports (λ es. id ≡ 7) c
    of (AnyContent.custom a h) = tt
    of (AnyContent.names a w) = tt
    of (AnyContent.imports w) = tt
    of (AnyContent.exports w) = refl
    of (AnyContent.unread a b c) = tt

seventh-place : {id place : ℕ} → SectionPlace id place → id ≡ 7 → place ≡ 7
unfolding section_place
seventh-place p e = sym (place_is p) ∙ rw e

module _ (P : List ExportSaid → Type 0) where
  unfoldable Asked : SectionSaid → Type 0
  Asked v = OfExports P v.holds

  -- a section that is not the seventh has no exports
  without : (v : SectionSaid) (xs : List ExportSaid) → Seventh v → (v.id ≡ 7 → ⊥) → (exports_or xs v.holds ≡ xs) × Asked v
  unfolding Seventh Asked
  without v xs s n = by v.holds s where
    by : (c : Held) → OfExports (λ es. v.id ≡ 7) c → (exports_or xs c ≡ xs) × OfExports P c
    by (Held.custom a) s = (refl, tt)
    by (Held.names vs) s = (refl, tt)
    by (Held.imports vs) s = (refl, tt)
    by (Held.exports vs) s = absurd (n s)
    by Held.unread s = (refl, tt)

  -- after an export section there is no other
  joined : (xs : List ExportSaid) (v : SectionSaid) (vs : List SectionSaid) → (exports_or xs v.holds ≡ xs) × Asked v
      → (exports_last xs vs ≡ xs) × Each Asked vs → (exports_last xs (v ∷ vs) ≡ xs) × Each Asked (v ∷ vs)
  unfolding exports_last
  joined xs v vs a b = (ap (λ (ys : List ExportSaid). exports_last ys vs) a.0 ∙ b.0, each-cons a.1 b.1)

  no-others : {last : ℕ} (xs : List ExportSaid) (vs : List SectionSaid) → 7 ≤ last → Each Seventh vs → InOrder last vs
      → (exports_last xs vs ≡ xs) × Each Asked vs
  unfolding exports_last
  no-others xs [] h each_nil o = (refl, each_nil)
  no-others xs (v ∷ vs) h (each-cons s ss) (InOrder.custom q o) =
      joined xs v vs (without v xs s (λ e. omega arith)) (no-others xs vs h ss o)
  no-others xs (v ∷ vs) h (each-cons s ss) (InOrder.then p k o) =
      joined xs v vs (without v xs s (λ e. let w = seventh-place p e in omega arith)) (no-others xs vs (omega arith) ss o)
  no-others xs (v ∷ vs) h (each-cons s ss) (InOrder.unknown k o) =
      joined xs v vs (without v xs s (λ e. omega arith)) (no-others xs vs h ss o)

  apart : {v : SectionSaid} {vs : List SectionSaid} → Each Asked (v ∷ vs) → Asked v × Each Asked vs
  apart (each-cons p ps) = (p, ps)

  -- what is asked of a section's exports is asked of what it leaves
  of-section : (v : SectionSaid) (xs : List ExportSaid) → P xs → Asked v ↔ P (exports_or xs v.holds)
  unfolding Asked
  of-section v xs p = by v.holds where
    by : (c : Held) → OfExports P c ↔ P (exports_or xs c)
    by (Held.custom a) = (λ u. p, λ u. tt)
    by (Held.names vs) = (λ u. p, λ u. tt)
    by (Held.imports vs) = (λ u. p, λ u. tt)
    by (Held.exports vs) = (λ u. u, λ u. u)
    by Held.unread = (λ u. p, λ u. tt)

  skip : (xs : List ExportSaid) (v : SectionSaid) (vs : List SectionSaid) → (exports_or xs v.holds ≡ xs) × Asked v
      → Each Asked vs ↔ P (exports_last xs vs) → Each Asked (v ∷ vs) ↔ P (exports_last xs (v ∷ vs))
  unfolding exports_last
  skip xs v vs a b =
      let e = ap (λ (ys : List ExportSaid). exports_last ys vs) a.0 in
      (λ q. subst P (sym e) (b.0 (apart q).1), λ q. each-cons a.1 (b.1 (subst P e q)))

  stop : (xs : List ExportSaid) (v : SectionSaid) (vs : List SectionSaid) → P xs
      → (exports_last (exports_or xs v.holds) vs ≡ exports_or xs v.holds) × Each Asked vs
      → Each Asked (v ∷ vs) ↔ P (exports_last xs (v ∷ vs))
  unfolding exports_last
  stop xs v vs p b =
      let o = of-section v xs p in
      (λ q. subst P (sym b.0) (o.0 (apart q).0), λ q. each-cons (o.1 (subst P b.0 q)) b.1)

  last-asked : {last : ℕ} (vs : List SectionSaid) → Each Seventh vs → InOrder last vs → (xs : List ExportSaid) → P xs
      → Each Asked vs ↔ P (exports_last xs vs)
  unfolding exports_last
  last-asked [] each_nil o xs p = (λ q. p, λ q. each_nil)
  last-asked (v ∷ vs) (each-cons s ss) (InOrder.custom q o) xs p =
      skip xs v vs (without v xs s (λ e. omega arith)) (last-asked vs ss o xs p)
  last-asked (v ∷ vs) (each-cons s ss) (InOrder.unknown q o) xs p =
      skip xs v vs (without v xs s (λ e. omega arith)) (last-asked vs ss o xs p)
  last-asked (v ∷ vs) (each-cons s ss) (InOrder.then {place = place} pl k o) xs p =
      by (eqb v.id 7) refl (last-asked vs ss o xs p) (λ h. no-others (exports_or xs v.holds) vs h ss o)
    where
      by : (t : Bool) → eqb v.id 7 ≡ t → Each Asked vs ↔ P (exports_last xs vs)
          → (7 ≤ place → (exports_last (exports_or xs v.holds) vs ≡ exports_or xs v.holds) × Each Asked vs)
          → Each Asked (v ∷ vs) ↔ P (exports_last xs (v ∷ vs))
      by true t i j = stop xs v vs p (j (let w = seventh-place pl (eqb-true v.id 7 t) in omega arith))
      by false t i j = skip xs v vs (without v xs s (eqb-false v.id 7 t)) i

-- ---- rows
ids-agree : {b : List ℕ} {rows : List Section} {vs : List SectionSaid} → Pairwise (SectionHere b) rows vs
    → map (λ (r : Section). r.id) rows ≡ map (λ (v : SectionSaid). v.id) vs
ids-agree nil = refl
ids-agree (cons {row = r} {v = v} {rows = rows} {vs = vs} h a) =
    ap (λ (i : ℕ). i ∷ map (λ (r : Section). r.id) rows) h.id-is ∙ ap (λ (is : List ℕ). v.id ∷ is) (ids-agree a)

kinds-agree : {b : List ℕ} {rows : List Export} {es : List ExportSaid} → Pairwise (ExportHere b) rows es
    → map (λ (r : Export). r.kind) rows ≡ map (λ (e : ExportSaid). e.kind) es
kinds-agree nil = refl
kinds-agree (cons {row = r} {v = v} {rows = rows} h a) =
    ap (λ (i : ℕ). i ∷ map (λ (r : Export). r.kind) rows) h.kind-is ∙ ap (λ (is : List ℕ). v.kind ∷ is) (kinds-agree a)

range-is : (b : List ℕ) (from len : ℕ) → from + len ≤ length b → range_of b from len ≡ take len (drop from b)
unfolding range_of
range-is b from len h = rw (le-leb (from + len) (length b) h)

names-agree : {b : List ℕ} {rows : List Export} {es : List ExportSaid} → Pairwise (ExportHere b) rows es → Each (ExportOk (length b)) rows
    → map (λ (r : Export). range_of b r.name.from r.name.len) rows ≡ map (λ (e : ExportSaid). e.name) es
names-agree nil each_nil = refl
names-agree {b} (cons {row = r} {v = v} {rows = rows} h a) (each-cons k ks) =
    ap (λ (i : List ℕ). i ∷ map (λ (r : Export). range_of b r.name.from r.name.len) rows)
    (range-is b r.name.from r.name.len k.name-in-file ∙ h.name-is)
    ∙ ap (λ (is : List (List ℕ)). v.name ∷ is) (names-agree a ks)

-- where the rows say what the sections do, the tests of the rows are the rules of the sections: each where those below it hold
module _ {b : List ℕ} {vs : List SectionSaid} (d : AnyModule b vs) (m : Parsed) (rows : Rows b m.tables vs)
    (ok : Each (ExportOk (length b)) m.tables.exports) where
  pub ids-tested : (none_above 12 (ids_of m) ≡ true) ↔ Rule d 3
  unfolding ids_of
  ids-tested = rw (ids-agree rows.sections-are) (known-ids vs)

  pub order-tested : Rule d 3 → (ordered (ids_of m) ≡ true) ↔ Rule d 4
  unfolding ids_of ordered
  order-tested h = rw (ids-agree rows.sections-are) (in_order 0 vs h)

  seven : Each Seventh vs
  seven = by d where
    by : {b : List ℕ} {vs : List SectionSaid} → AnyModule b vs → Each Seventh vs
    by (AnyModule.modul h w) = sevenths w

  pub names-tested : Rule d 4 → (different (export_names b m) ≡ true) ↔ Rule d 6
  unfolding export_names DifferentNames Asked
  names-tested o =
      let i = last-asked Different vs seven o [] Different.end in
      let j = all-different (exports_last [] vs) in
      rw (names-agree rows.exports-are ok) (λ e. i.1 (j.0 e), λ r. j.1 (i.0 r))

  pub kinds-tested : Rule d 4 → (none_above 3 (kinds_of m) ≡ true) ↔ Rule d 7
  unfolding kinds_of KnownKinds Asked
  kinds-tested o =
      let i = last-asked (Each KnownKind) vs seven o [] each_nil in
      let j = known-kinds (exports_last [] vs) in
      rw (kinds-agree rows.exports-are) (λ e. i.1 (j.0 e), λ r. j.1 (i.0 r))
