-- Where the plain reader reads, the second walk does, and ends where it ends: a law for each way in which outcomes are made, then one for
-- each definition. Assumes nothing.
use Prim.Native.Nat.{ℕ, zero, suc, ◌+◌, ◌-◌, ◌%◌}
use native.Mathlib.Omega.{arith}
use mathlib.Core.Path.{◌≡◌, refl, ◌∙◌, ap}
use mathlib.Core.Bool.{Bool, true, false}
use mathlib.Core.List.{List, [], ◌∷◌, ◌++◌}
use lib.ListN.{length, drop}
use lib.Dec.{eqb, ltb, leb}
use Rattle.refusal.specs.Pick.{pick}
use Rattle.refusal.specs.Said.{Said, accepted, refused, relocated, Got, got, onward, offset, spot, kind_at, Place}
use Rattle.refusal.specs.declared.Part.{Part}
use Rattle.refusal.proofs.Following.{never, read-on, relocated-got}
use Rattle.text.specs.Find.{same}
use Rattle.text.specs.Utf8.{up_to}
use Rattle.text.specs.Walk.{stop, go, walk}
use Rattle.table.specs.Shape.{capacity_in}
use Rattle.table.specs.Entries.{entries_from}
use Rattle.table.specs.Walking.{turn_of, walk_from}
use Rattle.leb.specs.Reads.{part_bytes, byte_at, u32_at, fixed_at, taken_at, counted_at, checked, name_at}
use Rattle.leb.proofs.Bounds.{take_in}
use Rattle.wasm.specs.Entry.{limits_at, func_at, table_at, memory_at, global_at, desc_at, import_at, export_at, symbol_at}
use Rattle.wasm.specs.Rows.{imports_of, exports_of, symbols_of}
use Rattle.wasm.specs.Custom.{Names, name_word, label_at, told_by, subsection_at, custom_at}
use Rattle.wasm.specs.Module.{Tables, Sizes, contents_at, add_section, section_at, magic, header_at}
use Rattle.wasm.specs.Shapes.{Symbol}
use Rattle.strict.specs.declared.again.Marks.{Marks}
use Rattle.strict.specs.Again.{with_number, with_flag, with_entries, number_marks, part_marks, limits_marks, table_marks, global_marks}
use Rattle.strict.specs.Again.{desc_marks, import_marks, export_marks, symbol_marks, entry_marks, run_from, run_marks, told_marks}
use Rattle.strict.specs.Again.{framed_marks, subsection_marks, custom_marks, list_marks, contents_marks, section_marks}

-- ---- what x reads, y does, and they end at one offset
pub record Sees {X : Type 0} (x : Said (Got X)) (y : Said (Got Marks)) : Type 0 where
  pub sees : (v : X) (d : ℕ) → x ≡ accepted (got v d) → (k : Marks) × (y ≡ accepted (got k d))

sees-done : {X : Type 0} (v : X) (k : Marks) (d : ℕ) → Sees (accepted (got v d)) (accepted (got k d))
sees-done v k d = record { sees = λ w e q. (k, ap (λ (i : ℕ). accepted (got k i)) (at q)) } where
  at : {w : _} {e : ℕ} → accepted (got v d) ≡ accepted (got w e) → d ≡ e
  at q = cc

sees-stop : {X : Type 0} (n : ℕ) (p : Place) (y : Said (Got Marks)) → Sees {X = X} (refused n p) y
sees-stop n p y = record { sees = λ v d q. absurd (never q) }

sees-pick : {X : Type 0} (t : Bool) {x x1 : Said (Got X)} {y y1 : Said (Got Marks)} → Sees x y → Sees x1 y1
    → Sees (pick t x x1) (pick t y y1)
sees-pick true p q = p
sees-pick false p q = q

-- one more may be refused on the left
sees-room : {X : Type 0} (t : Bool) (n : ℕ) (p : Place) {x : Said (Got X)} {y : Said (Got Marks)} → Sees x y
    → Sees (pick t x (refused n p)) y
sees-room true n p h = h
sees-room false n p h = sees-stop n p _

-- what is read after
onward-goes : {Z : Type 0} {y : Said (Got Z)} (g : Z → ℕ → Said (Got Marks)) {k : Z} {l : Marks} {c e : ℕ} → y ≡ accepted (got k c)
    → g k c ≡ accepted (got l e) → onward y g ≡ accepted (got l e)
unfolding onward
onward-goes g a b = rw a b

sees-onward : {X Y : Type 0} {x : Said (Got X)} {y : Said (Got Marks)} (f : X → ℕ → Said (Got Y)) (g : Marks → ℕ → Said (Got Marks))
    → Sees x y → ((v : X) (d : ℕ) (k : Marks) → Sees (f v d) (g k d)) → Sees (onward x f) (onward y g)
sees-onward {x = x} f g h on =
    record {
      sees = λ v d q.
          let o = read-on x f q in
          let s = h.sees o.what o.next o.first in
          let t = (on o.what o.next s.0).sees v d o.then in
          (t.0, onward-goes g s.1 t.1);
    }

-- both read the same first
sees-same : {Y Z : Type 0} (x : Said (Got Z)) (f : Z → ℕ → Said (Got Y)) (g : Z → ℕ → Said (Got Marks))
    → ((v : Z) (d : ℕ) → Sees (f v d) (g v d)) → Sees (onward x f) (onward x g)
unfolding onward
sees-same (accepted (got v d)) f g on = on v d
sees-same (refused n p) f g on = sees-stop n p _

-- the left only makes another value
sees-map : {X Y : Type 0} {x : Said (Got X)} {y : Said (Got Marks)} (f : X → Y) → Sees x y
    → Sees (onward x (λ v d. accepted (got (f v) d))) y
sees-map {Y = Y} {x = x} f h =
    record {
      sees = λ v d q.
          let o = read-on x (λ v d. accepted (got (f v) d)) q in
          let s = h.sees o.what o.next o.first in
          (s.0, s.1 ∙ ap (λ (i : ℕ). accepted (got s.0 i)) (at o.then));
    }
  where
    at : {w v : Y} {c e : ℕ} → accepted (got w c) ≡ accepted (got v e) → c ≡ e
    at e = cc

-- the left is told from where its whole starts
sees-moved : {X : Type 0} (by : ℕ) {x : Said (Got X)} {y : Said (Got Marks)} → Sees x y → Sees (relocated by x) y
sees-moved by {x} h = record { sees = λ v d q. h.sees v d (relocated-got by x q) }

-- ---- runs and walks
sees-run : {R : Type 0} (read : ℕ → Said (Got R)) (marks : ℕ → Marks → Said (Got Marks)) (tn room : ℕ)
    → ((at : ℕ) (m : Marks) → Sees (read at) (marks at m)) → (n at : ℕ) (rows : List R) (m : Marks)
    → Sees (entries_from read tn room n at rows) (run_from marks n at m)
unfolding entries_from run_from
sees-run read marks tn room h zero at rows m = sees-done rows m at
sees-run read marks tn room h (suc n) at rows m =
    sees-onward _ _ (h at m) (λ row next k. sees-room (ltb (length rows) room) 13 (spot tn)
    (sees-run read marks tn room h n next (rows ++ (row ∷ [])) k))

module _ {T : Type 0} (step : ℕ → T → Said (Got T)) (marks : ℕ → Marks → Said (Got Marks))
    (h : (at : ℕ) (t : T) (m : Marks) → Sees (step at t) (marks at m)) where
  abbrev walked : {U : Type 0} → (ℕ → U → Said (Got U)) → U → ℕ → ℕ → List ℕ → Said (Got U)
  walked f = walk (λ st i rest. turn_of i (f i st)) (λ st i. accepted (got st i))

  abbrev on : {U : Type 0} → (ℕ → U → Said (Got U)) → ℕ → List ℕ → Said (Got U) → Said (Got U)
  on f at l y = elim (turn_of at y) [ stop r ↦ r | go st k ↦ walked f st (suc at) k l ]

  sees-walk : (t : T) (m : Marks) (at k : ℕ) (l : List ℕ) → Sees (walked step t at k l) (walked marks m at k l)
  unfolding walk turn_of
  sees-walk t m at k [] = sees-done t m at
  sees-walk t m at (suc k) (x ∷ l) = sees-walk t m (suc at) k l
  sees-walk t m at zero (x ∷ l) = by (λ v n k. sees-walk v n (suc at) k l) (step at t) (marks at m) (h at t m) where
    by : ((v : T) (n : Marks) (k : ℕ) → Sees (walked step v (suc at) k l) (walked marks n (suc at) k l))
        → (x : Said (Got T)) (y : Said (Got Marks)) → Sees x y → Sees (on step at l x) (on marks at l y)
    by ih (accepted (got v c)) y s =
        let o = s.sees v c refl in
        record {
          sees = λ w d q. let r = (ih v o.0 (c - suc at)).sees w d q in (r.0, ap (on marks at l) o.1 ∙ r.1);
        }
    by ih (refused n p) y s = sees-stop n p _

  sees-from : (b : List ℕ) (at : ℕ) (t : T) (m : Marks) → Sees (walk_from step b at t) (walk_from marks b at m)
  unfolding walk_from
  sees-from b at t m = sees-walk t m at 0 (drop at b)

-- ---- numbers and names
sees-number : (s : List ℕ) (at : ℕ) (m : Marks) → Sees (u32_at s at) (number_marks s at m)
unfolding number_marks onward
sees-number s at m = record { sees = λ v d e. (with_number m (d - at), rw e) }

-- a name that was read is a range that was read
counted-too : (s : List ℕ) (at : ℕ) (p : Part) (d : ℕ) → name_at s at ≡ accepted (got p d) → counted_at s at ≡ accepted (got p d)
unfolding name_at checked
counted-too s at p d e =
    let o = read-on (counted_at s at)
    (λ p next. pick (eqb (up_to (part_bytes s p)) p.len) (accepted (got p next)) (refused 4 (offset p.from))) e in
    o.first ∙ by o.what o.next (eqb (up_to (part_bytes s o.what)) o.what.len) o.then
  where
    by : (q : Part) (c : ℕ) (t : Bool) → pick t (accepted (got q c)) (refused 4 (offset q.from)) ≡ accepted (got p d)
        → accepted (got q c) ≡ accepted (got p d)
    by q c true f = f
    by q c false f = absurd (never f)

sees-name : (s : List ℕ) (at : ℕ) (m : Marks) → Sees (name_at s at) (part_marks s at m)
unfolding part_marks onward
sees-name s at m = record { sees = λ p d e. let f = counted-too s at p d e in (with_number m (p.from - at), rw f) }

-- a name on the left, its range on the right
sees_named : {Y : Type 0} (s : List ℕ) (at : ℕ) (f : Part → ℕ → Said (Got Y)) (g : Part → ℕ → Said (Got Marks))
    → ((p : Part) (d : ℕ) → Sees (f p d) (g p d)) → Sees (onward (name_at s at) f) (onward (counted_at s at) g)
sees_named s at f g h =
    record {
      sees = λ v d q.
          let o = read-on (name_at s at) f q in
          let r = (h o.what o.next).sees v d o.then in
          (r.0, onward-goes g (counted-too s at o.what o.next o.first) r.1);
    }

-- ---- entries
sees-limits : (s : List ℕ) (at : ℕ) (m : Marks) → Sees (limits_at s at) (limits_marks s at m)
unfolding limits_at limits_marks
sees-limits s at m =
    sees-same (byte_at s at) _ _ (λ flag a.
    sees-onward _ _ (sees-number s a (with_flag m flag)) (λ least b k.
    sees-pick (eqb (flag % 2) 1) (sees-map _ (sees-number s b k)) (sees-done _ k b)))

sees-desc : (s : List ℕ) (kind i at : ℕ) (m : Marks) → Sees (desc_at s kind i at) (desc_marks s kind at m)
unfolding desc_at desc_marks func_at table_at memory_at global_at table_marks global_marks
sees-desc s kind i at m =
    sees-pick (eqb kind 0) (sees-map _ (sees-number s at m))
    (sees-pick (eqb kind 1) (sees-same (byte_at s at) _ _ (λ element a. sees-map _ (sees-limits s a m)))
    (sees-pick (eqb kind 2) (sees-map _ (sees-limits s at m))
    (sees-pick (eqb kind 3)
    (sees-same (byte_at s at) _ _ (λ type a. sees-same (byte_at s a) _ _ (λ mutable b. sees-done _ (with_flag m mutable) b)))
    (sees-stop 5 (kind_at kind i) _))))

sees-import : (s : List ℕ) (base at : ℕ) (m : Marks) → Sees (import_at s base at) (import_marks s at m)
unfolding import_at import_marks
sees-import s base at m =
    sees-onward _ _ (sees-name s at m) (λ p a k.
    sees-onward _ _ (sees-name s a k) (λ f b l.
    sees-same (byte_at s b) _ _ (λ kind d. sees-map _ (sees-desc s kind b d l))))

sees-export : (s : List ℕ) (base at : ℕ) (m : Marks) → Sees (export_at s base at) (export_marks s at m)
unfolding export_at export_marks
sees-export s base at m =
    sees-onward _ _ (sees-name s at m) (λ p a k. sees-same (byte_at s a) _ _ (λ kind b. sees-map _ (sees-number s b k)))

sees-symbol : (s : List ℕ) (base at : ℕ) (m : Marks) → Sees (symbol_at s base at) (symbol_marks s at m)
unfolding symbol_at symbol_marks
sees-symbol s base at m = sees-onward _ _ (sees-number s at m) (λ index a k. sees-map _ (sees-name s a k))

-- ---- runs of entries
sees-imports : (s : List ℕ) (base n : ℕ) (m : Marks) → Sees (imports_of s base n) (run_marks 2 s m)
unfolding imports_of run_marks entry_marks
sees-imports s base n m =
    sees-same (u32_at s 0) _ _ (λ count at.
    sees-run (import_at s base) (entry_marks 2 s) 2 (capacity_in 2 n) (sees-import s base) count at [] (with_number m at))

sees-exports : (s : List ℕ) (base n : ℕ) (m : Marks) → Sees (exports_of s base n) (run_marks 7 s m)
unfolding exports_of run_marks entry_marks
sees-exports s base n m =
    sees-same (u32_at s 0) _ _ (λ count at.
    sees-run (export_at s base) (entry_marks 7 s) 3 (capacity_in 3 n) (sees-export s base) count at [] (with_number m at))

sees-symbols : (s : List ℕ) (base n : ℕ) (rows : List Symbol) (m : Marks) → Sees (symbols_of s base n rows) (run_marks 1 s m)
unfolding symbols_of run_marks entry_marks
sees-symbols s base n rows m =
    sees-same (u32_at s 0) _ _ (λ count at.
    sees-run (symbol_at s base) (entry_marks 1 s) 4 (capacity_in 4 n) (sees-symbol s base) count at rows (with_number m at))

-- ---- custom sections
sees-told : (id : ℕ) (s : List ℕ) (base n : ℕ) (t : Names) (m : Marks) → Sees (told_by id s base n t) (told_marks id s m)
unfolding told_by told_marks label_at
sees-told id s base n t m =
    sees-pick (eqb id 0) (sees-map _ (sees-name s 0 m))
    (sees-pick (eqb id 1) (sees-map _ (sees-symbols s base n t.symbols m)) (sees-done t m 0))

sees-subsection : (s : List ℕ) (base n at : ℕ) (t : Names) (m : Marks) → Sees (subsection_at s base n at t) (subsection_marks s at m)
unfolding subsection_at subsection_marks framed_marks
sees-subsection s base n at t m =
    sees-same (byte_at s at) _ _ (λ id a.
    sees-same (counted_at s a) _ _ (λ p next.
    sees-onward _ _ (sees-moved p.from (sees-told id (part_bytes s p) (base + p.from) n t (with_number m (p.from - a)))) (λ u e k.
    sees-done u k next)))

sees-custom : (s : List ℕ) (base n : ℕ) (t : Names) (m : Marks) → Sees (custom_at s base n t) (custom_marks s m)
unfolding custom_at custom_marks
sees-custom s base n t m =
    sees_named s 0 _ _ (λ p at.
    sees-map _ (sees-pick (same name_word (part_bytes s p))
    (sees-from (subsection_at s base n) (subsection_marks s) (sees-subsection s base n) s at t (with_number m p.from))
    (sees-done t (with_number m p.from) at)))

-- ---- sections
sees-contents : (id : ℕ) (s : List ℕ) (base : ℕ) (z : Sizes) (t : Tables) (m : Marks)
    → Sees (contents_at id s base z t) (contents_marks id s m)
unfolding contents_at contents_marks list_marks
sees-contents id s base z t m =
    sees-pick (eqb id 0) (sees-map _ (sees-custom s base z.names t.names m))
    (sees-pick (eqb id 2) (sees-onward _ _ (sees-imports s base z.imports m) (λ rows e k. sees-done _ (with_entries k e (length s)) e))
    (sees-pick (eqb id 7) (sees-onward _ _ (sees-exports s base z.exports m) (λ rows e k. sees-done _ (with_entries k e (length s)) e))
    (sees-done _ m 0)))

pub sees-section : (b : List ℕ) (z : Sizes) (at : ℕ) (t : Tables) (m : Marks) → Sees (section_at b z at t) (section_marks b at m)
unfolding section_at section_marks framed_marks add_section
sees-section b z at t m =
    sees-same (byte_at b at) _ _ (λ id a.
    sees-same (counted_at b a) _ _ (λ p next.
    sees-onward _ _ (sees-moved p.from (sees-contents id (part_bytes b p) p.from z t (with_number m (p.from - a)))) (λ u e k.
    sees-room (ltb (length u.tables.sections) (capacity_in 1 z.sections)) 13 (spot 1) (sees-done _ k next))))

pub sees-sections : (b : List ℕ) (z : Sizes) (at : ℕ) (t : Tables) (m : Marks)
    → Sees (walk_from (section_at b z) b at t) (walk_from (section_marks b) b at m)
sees-sections b z at t m = sees-from (section_at b z) (section_marks b) (sees-section b z) b at t m

-- ---- the header ends at 8
fixed-next : (s : List ℕ) (at v d : ℕ) → fixed_at s at ≡ accepted (got v d) → d ≡ at + 4
unfolding fixed_at
fixed-next s at v d e = by _ (leb (at + 4) (length s)) e where
  by : (w : ℕ) (t : Bool) → pick t (accepted (got w (at + 4))) (refused 1 (offset at)) ≡ accepted (got v d) → d ≡ at + 4
  by w true f = cc
  by w false f = absurd (never f)

pub header-next : (b : List ℕ) (v c : ℕ) → header_at b ≡ accepted (got v c) → c ≡ 8
unfolding header_at
header-next b v c e =
    let o = read-on (taken_at b 0 4) _ e in
    let t = take_in b 0 4 o.what o.next o.first in
    by o.next t.next (same magic (part_bytes b o.what)) o.then
  where
    last : (w d : ℕ) (t : Bool) → pick t (refused 2 (offset 4)) (accepted (got w d)) ≡ accepted (got v c) → d ≡ c
    last w d true f = absurd (never f)
    last w d false f = cc

    by : (a : ℕ) → a ≡ 0 + 4 → (t : Bool)
        → pick t (onward (fixed_at b a) (λ v d. pick (eqb v 0) (refused 2 (offset 4)) (accepted (got v d)))) (refused 2 (offset 0))
        ≡ accepted (got v c)
        → c ≡ 8
    by a h true f =
        let o = read-on (fixed_at b a) (λ v d. pick (eqb v 0) (refused 2 (offset 4)) (accepted (got v d))) f in
        let k = fixed-next b a o.what o.next o.first in
        let l = last o.what o.next (eqb o.what 0) o.then in
        omega (arith, k, l, h)
    by a h false f = absurd (never f)
