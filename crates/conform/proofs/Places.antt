-- Every refusal of a module points into the file: an offset of it, or a byte that is no kind and its offset. Assumes nothing.
use Prim.Native.Nat.{ℕ, zero, suc, ◌+◌, ◌-◌, ◌≤◌, ◌<◌, ◌%◌, min}
use native.Mathlib.Nat.{min-eq_left}
use native.Mathlib.Omega.{arith}
use mathlib.Core.Path.{◌≡◌, refl, sym, ◌∙◌, ap, subst, subst₂}
use mathlib.Core.Bool.{Bool, true, false}
use mathlib.Core.List.{List, [], ◌∷◌, ◌++◌}
use lib.ListN.{length, get_or, drop, length-drop}
use lib.Seq.{get_or-take, get_or-drop}
use lib.Dec.{ltb, leb, eqb}
use borrow.Author.Tests.{le-ltb, leb-true, ltb-true, ltb-false, eqb-false}
use Rattle.refusal.specs.Pick.{pick, within}
use Rattle.refusal.specs.Sizes.{file_limit}
use Rattle.refusal.specs.Said.{Said, accepted, refused, Place, offset, spot, kind_at, moved_by, relocated, Got, got, onward}
use Rattle.refusal.specs.declared.Part.{Part}
use Rattle.refusal.proofs.Following.{never}
use Rattle.text.specs.Utf8.{up_to}
use Rattle.text.specs.Find.{same}
use Rattle.table.specs.Shape.{capacity_in}
use Rattle.table.specs.Entries.{entries_from}
use Rattle.table.specs.Walking.{walk_from}
use Rattle.table.proofs.Walking.{from_end, from-stop, from-go}
use Rattle.leb.specs.Groups.{Out, value, ends, overlong, oversize, grown, spent, u_n}
use Rattle.leb.specs.Reads.{part, part_bytes, byte_at, fixed_at, taken_at, told_at, uleb_at, narrowed, u32_at, counted_at, checked, name_at}
use Rattle.leb.proofs.Bounds.{uleb-in, u32-in, take_in, counted-in}
use Rattle.wasm.specs.Entry.{limits_at, func_at, table_at, memory_at, global_at, desc_at, import_at, export_at, symbol_at}
use Rattle.wasm.specs.Rows.{imports_of, exports_of, symbols_of}
use Rattle.wasm.specs.Custom.{Names, label_at, told_by, subsection_at, name_word, custom_at}
use Rattle.wasm.specs.Module.{Tables, Sizes, contents_at, add_section, section_at, magic, header_at, no_tables, Parsed, module_at}
use Rattle.conform.specs.Places.{PlacesInFile, KindThere, with_offset, OnlyOffsets, TablesFew, start_added, SectionPlace, SubsectionPlace}
use Rattle.conform.proofs.Parts.{part_length}
use Rattle.conform.proofs.Sections.{took, took-sub}

-- an offset of s or its end; a table or 0; a byte of s that is no kind, at its offset: each with its numbers
abbrev Placed : List ℕ → ℕ → Place → Type 0
Placed s n (offset p) = (with_offset n ≡ true) × (p ≤ length s)
Placed s n (spot p) = (within 13 14 n ≡ true) × (p ≤ 4)
Placed s n (kind_at k o) = (n ≡ 5) × (o < length s) × (get_or s o 0 ≡ k) × (3 < k)

-- what x refuses is placed in s
abbrev Stops : List ℕ → {X : Type 0} → Said X → Type 0
Stops s x = (n : ℕ) (p : Place) → x ≡ refused n p → Placed s n p

-- and what it reads ends in s
record Well (s : List ℕ) {X : Type 0} (x : Said (Got X)) : Type 0 where
  stop-in : Stops s x
  next-in : (v : X) (d : ℕ) → x ≡ accepted (got v d) → d ≤ length s

module _ (s : List ℕ) where
  stops_at : {X : Type 0} (n : ℕ) (p : Place) → Placed s n p → Stops s {X = X} (refused n p)
  stops_at n p h m q e = let u : n ≡ m = cc in let w : p ≡ q = cc in subst₂ (λ (i : ℕ) (j : Place). Placed s i j) u w h

  stopped : {X : Type 0} {x : Said X} → Stops s x → (n : ℕ) (p : Place) → x ≡ refused n p → Placed s n p
  stopped h = h

  stops-not : {X : Type 0} (v : X) → Stops s (accepted v)
  stops-not v n p e = absurd (never (sym e))

  stops-pick : {X : Type 0} (b : Bool) (x y : Said X) → Stops s x → Stops s y → Stops s (pick b x y)
  stops-pick true x y p q = p
  stops-pick false x y p q = q

  stops-onward : {X T : Type 0} (x : Said (Got X)) (k : X → ℕ → Said T) → Stops s x
      → ((v : X) (d : ℕ) → x ≡ accepted (got v d) → Stops s (k v d)) → Stops s (onward x k)
  unfolding onward
  stops-onward {X} {T} x k g h = by x refl where
    by : (y : Said (Got X)) → x ≡ y → (n : ℕ) (p : Place) → onward y k ≡ refused n p → Placed s n p
    by (accepted (got v d)) e n p f = h v d e n p f
    by (refused m q) e n p f = stops_at {X = T} m q (g m q e) n p f

  well-stop : {X : Type 0} (n : ℕ) (p : Place) → Placed s n p → Well s {X = X} (refused n p)
  well-stop n p h = record { stop-in = stops_at n p h; next-in = λ v d e. absurd (never e) }

  well-done : {X : Type 0} (v : X) (d : ℕ) → d ≤ length s → Well s (accepted (got v d))
  well-done v d h = record { stop-in = stops-not (got v d); next-in = λ w c e. let k : d ≡ c = cc in omega (arith, k) }

  well-pick : {X : Type 0} (b : Bool) (x y : Said (Got X)) → Well s x → Well s y → Well s (pick b x y)
  well-pick true x y p q = p
  well-pick false x y p q = q

  -- whatever is read of x, k of it is well
  well-after : {X T : Type 0} (x : Said (Got X)) (k : X → ℕ → Said (Got T)) → Stops s x
      → ((v : X) (d : ℕ) → x ≡ accepted (got v d) → Well s (k v d)) → Well s (onward x k)
  unfolding onward
  well-after {X} x k g h = by x refl where
    by : (y : Said (Got X)) → x ≡ y → Well s (onward y k)
    by (accepted (got v d)) e = h v d e
    by (refused m q) e = well-stop m q (g m q e)

  well-onward : {X T : Type 0} (x : Said (Got X)) (k : X → ℕ → Said (Got T)) → Well s x
      → ((v : X) (d : ℕ) → x ≡ accepted (got v d) → d ≤ length s → Well s (k v d)) → Well s (onward x k)
  well-onward x k g h = well-after x k g.stop-in (λ v d e. h v d e (g.next-in v d e))

-- ---- numbers
abbrev OutIn : List ℕ → Out ℕ → Type 0
OutIn l (value v k) = Unit {0}
OutIn l (ends k) = k ≤ length l
OutIn l overlong = Unit {0}
OutIn l oversize = Unit {0}

out-pick : (l : List ℕ) (b : Bool) (x y : Out ℕ) → OutIn l x → OutIn l y → OutIn l (pick b x y)
out-pick l true x y p q = p
out-pick l false x y p q = q

out-grown : (l : List ℕ) (n : ℕ) (f : ℕ → ℕ) (o : Out ℕ) → OutIn l o → OutIn (n ∷ l) (grown f 1 o)
unfolding grown
out-grown l n f (value v k) h = tt
out-grown l n f (ends k) h = omega (arith, h)
out-grown l n f overlong h = tt
out-grown l n f oversize h = tt

out-spent : (l : List ℕ) → OutIn l (spent l)
unfolding spent
out-spent [] = omega arith
out-spent (n ∷ l) = tt

outs : (N : ℕ) (l : List ℕ) → OutIn l (u_n N l)
unfolding u_n
outs N [] = omega arith
outs N (n ∷ l) =
    out-pick (n ∷ l) (ltb n 128) _ _ (out-pick (n ∷ l) (ltb n _) (value n 1) oversize tt tt)
    (out-pick (n ∷ l) (ltb 7 N) _ _ (out-grown l n _ _ (outs (N - 7) l))
    (out-pick (n ∷ l) (ltb (n - 128) _) _ oversize (out-grown l n _ _ (out-spent l)) tt))

module _ (s : List ℕ) where
  byte-well : (at : ℕ) → at ≤ length s → Well s (byte_at s at)
  unfolding byte_at
  byte-well at h = by (ltb at (length s)) refl where
    by : (b : Bool) → ltb at (length s) ≡ b → Well s (pick b (accepted (got (get_or s at 0) (at + 1))) (refused 1 (offset at)))
    by true t = well-done s _ (at + 1) (omega (arith, ltb-true at (length s) t))
    by false t = well-stop s 1 (offset at) (refl, h)

  told-stops : (at : ℕ) → at ≤ length s → (o : Out ℕ) → OutIn (drop at s) o → Stops s (told_at at o)
  unfolding told_at
  told-stops at h (value v k) i = stops-not s (got v (at + k))
  told-stops at h (ends k) i = stops_at s 1 (offset (at + k)) (refl, omega (arith, i, length-drop at s))
  told-stops at h overlong i = stops_at s 17 (offset at) (refl, h)
  told-stops at h oversize i = stops_at s 18 (offset at) (refl, h)

  uleb-stops : (at : ℕ) → at ≤ length s → Stops s (uleb_at s at)
  unfolding uleb_at
  uleb-stops at h = told-stops at h (u_n 64 (drop at s)) (outs 64 (drop at s))

  uleb-well : (at : ℕ) → at ≤ length s → Well s (uleb_at s at)
  uleb-well at h = record { stop-in = uleb-stops at h; next-in = λ v d e. (uleb-in s at v d e).in-s }

  u32-well : (at : ℕ) → at ≤ length s → Well s (u32_at s at)
  unfolding u32_at narrowed
  u32-well at h =
      well-onward s (uleb_at s at) _ (uleb-well at h) (λ v d e k.
      well-pick s (leb v 4294967295) _ _ (well-done s v d k) (well-stop s 19 (offset d) (refl, k)))

  take-well : (at n : ℕ) → length s ≤ file_limit → n < 4294967296 → at ≤ length s → Well s (taken_at s at n)
  unfolding taken_at
  take-well at n size small h =
      rw (le-ltb (length s) at h, le-ltb (18446744073709551615 - at) n (omega arith)) (by (leb (at + n) (length s)) refl)
    where
      by : (b : Bool) → leb (at + n) (length s) ≡ b → Well s (pick b (accepted (got (part at n) (at + n))) (refused 1 (offset at)))
      by true t = well-done s _ (at + n) (leb-true (at + n) (length s) t)
      by false t = well-stop s 1 (offset at) (refl, h)

  fixed-well : (at : ℕ) → at ≤ length s → Well s (fixed_at s at)
  unfolding fixed_at
  fixed-well at h = by _ (leb (at + 4) (length s)) refl where
    by : (v : ℕ) (b : Bool) → leb (at + 4) (length s) ≡ b → Well s (pick b (accepted (got v (at + 4))) (refused 1 (offset at)))
    by v true t = well-done s v (at + 4) (leb-true (at + 4) (length s) t)
    by v false t = well-stop s 1 (offset at) (refl, h)

-- ---- entries of s
past : (k n : ℕ) → n ≤ k → (k ≡ n → ⊥) → n + 1 ≤ k
past k n h d = omega arith

zero-le : (k : ℕ) → 0 ≤ k
zero-le k = omega arith

past_three : (k : ℕ) → (k ≡ 0 → ⊥) → (k ≡ 1 → ⊥) → (k ≡ 2 → ⊥) → (k ≡ 3 → ⊥) → 3 < k
past_three k a b c d = past k 3 (past k 2 (past k 1 (past k 0 (zero-le k) a) b) c) d

module _ (s : List ℕ) (size : length s ≤ file_limit) where
  counted-well : (at : ℕ) → at ≤ length s → Well s (counted_at s at)
  unfolding counted_at
  counted-well at h =
      well-onward s (u32_at s at) _ (u32-well s at h) (λ v d e k. take-well s d v size (u32-in s at v d e).1 k)

  name-well : (at : ℕ) → at ≤ length s → Well s (name_at s at)
  unfolding name_at checked
  name-well at h =
      well-onward s (counted_at s at) _ (counted-well at h) (λ p d e k.
      let w = counted-in s at p d e in
      well-pick s (eqb (up_to (part_bytes s p)) p.len) _ _ (well-done s p d k)
      (well-stop s 4 (offset p.from) (refl, omega (arith, w.end, w.in-s))))

  limits-well : (at : ℕ) → at ≤ length s → Well s (limits_at s at)
  unfolding limits_at
  limits-well at h =
      well-onward s (byte_at s at) _ (byte-well s at h) (λ flag a e1 h1.
      well-onward s (u32_at s a) _ (u32-well s a h1) (λ low b e2 h2.
      well-pick s (eqb (flag % 2) 1) _ _
      (well-onward s (u32_at s b) _ (u32-well s b h2) (λ high d e3 h3. well-done s _ d h3)) (well-done s _ b h2)))

  -- any other kind: the byte at k
  desc-well : (kind k at : ℕ) → k < length s → get_or s k 0 ≡ kind → at ≤ length s → Well s (desc_at s kind k at)
  unfolding desc_at func_at table_at memory_at global_at
  desc-well kind k at i is h = zero? (eqb kind 0) refl where
    three? : (b : Bool) → eqb kind 3 ≡ b → (eqb kind 0 ≡ false) → (eqb kind 1 ≡ false) → (eqb kind 2 ≡ false)
        → Well s (pick b (global_at s at) (refused 5 (kind_at kind k)))
    three? true t z o w = well-onward s (byte_at s at) _ (byte-well s at h) (λ type a e1 h1.
        well-onward s (byte_at s a) _ (byte-well s a h1) (λ mutable b e2 h2. well-done s _ b h2))
    three? false t z o w =
        well-stop s 5 (kind_at kind k)
        (refl, i, is, past_three kind (eqb-false kind 0 z) (eqb-false kind 1 o) (eqb-false kind 2 w) (eqb-false kind 3 t))

    two? : (b : Bool) → eqb kind 2 ≡ b → (eqb kind 0 ≡ false) → (eqb kind 1 ≡ false)
        → Well s (pick b (memory_at s at) (pick (eqb kind 3) (global_at s at) (refused 5 (kind_at kind k))))
    two? true t z o = well-onward s (limits_at s at) _ (limits-well at h) (λ l a e1 h1. well-done s _ a h1)
    two? false t z o = three? (eqb kind 3) refl z o t

    one? : (b : Bool) → eqb kind 1 ≡ b → (eqb kind 0 ≡ false)
        → Well s (pick b (table_at s at)
        (pick (eqb kind 2) (memory_at s at) (pick (eqb kind 3) (global_at s at) (refused 5 (kind_at kind k)))))
    one? true t z = well-onward s (byte_at s at) _ (byte-well s at h) (λ element a e1 h1.
        well-onward s (limits_at s a) _ (limits-well a h1) (λ l b e2 h2. well-done s _ b h2))
    one? false t z = two? (eqb kind 2) refl z t

    zero? : (b : Bool) → eqb kind 0 ≡ b
        → Well s (pick b (func_at s at) (pick (eqb kind 1) (table_at s at) (pick (eqb kind 2) (memory_at s at)
        (pick (eqb kind 3) (global_at s at) (refused 5 (kind_at kind k))))))
    zero? true t = well-onward s (u32_at s at) _ (u32-well s at h) (λ index a e1 h1. well-done s _ a h1)
    zero? false t = one? (eqb kind 1) refl t

  -- the byte that was read is the byte there
  byte-is : (at v d : ℕ) → byte_at s at ≡ accepted (got v d) → (at < length s) × (get_or s at 0 ≡ v)
  unfolding byte_at
  byte-is at v d e = by (ltb at (length s)) refl e where
    by : (b : Bool) → ltb at (length s) ≡ b → pick b (accepted (got (get_or s at 0) (at + 1))) (refused 1 (offset at)) ≡ accepted (got v d)
        → (at < length s) × (get_or s at 0 ≡ v)
    by true t f = (ltb-true at (length s) t, cc)
    by false t f = absurd (never f)

  module _ (base : ℕ) where
    import-well : (at : ℕ) → at ≤ length s → Well s (import_at s base at)
    unfolding import_at
    import-well at h =
        well-onward s (name_at s at) _ (name-well at h) (λ m a e1 h1.
        well-onward s (name_at s a) _ (name-well a h1) (λ f b e2 h2.
        well-onward s (byte_at s b) _ (byte-well s b h2) (λ kind d e3 h3.
        let w = byte-is b kind d e3 in
        well-onward s (desc_at s kind b d) _ (desc-well kind b d w.0 w.1 h3) (λ desc e e4 h4. well-done s _ e h4))))

    export-well : (at : ℕ) → at ≤ length s → Well s (export_at s base at)
    unfolding export_at
    export-well at h =
        well-onward s (name_at s at) _ (name-well at h) (λ p a e1 h1.
        well-onward s (byte_at s a) _ (byte-well s a h1) (λ kind b e2 h2.
        well-onward s (u32_at s b) _ (u32-well s b h2) (λ index d e3 h3. well-done s _ d h3)))

    symbol-well : (at : ℕ) → at ≤ length s → Well s (symbol_at s base at)
    unfolding symbol_at
    symbol-well at h =
        well-onward s (u32_at s at) _ (u32-well s at h) (λ index a e1 h1.
        well-onward s (name_at s a) _ (name-well a h1) (λ p b e2 h2. well-done s _ b h2))

-- a run of entries
module _ (s : List ℕ) {E : Type 0} (read : ℕ → Said (Got E)) (good : (at : ℕ) → at ≤ length s → Well s (read at)) (tn room : ℕ)
    (few : tn ≤ 4) where
  entries-well : (n at : ℕ) (rows : List E) → at ≤ length s → Well s (entries_from read tn room n at rows)
  unfolding entries_from
  entries-well zero at rows h = well-done s rows at h
  entries-well (suc n) at rows h =
      well-onward s (read at) _ (good at h) (λ v d e k.
      well-pick s (ltb (length rows) room) _ _ (entries-well n d (rows ++ (v ∷ [])) k) (well-stop s 13 (spot tn) (refl, few)))

  run-well : (rows : List E) → Well s (onward (u32_at s 0) (λ n at. entries_from read tn room n at rows))
  run-well rows = well-onward s (u32_at s 0) _ (u32-well s 0 (omega arith)) (λ n at e k. entries-well n at rows k)

-- ---- a part of b, told from where b starts
module _ (b : List ℕ) (size : length b ≤ file_limit) (p : Part) (whole : p.from + p.len ≤ length b) where
  part_small : length (part_bytes b p) ≤ file_limit
  part_small = omega (arith, part_length b p)

  placed-moved : (n : ℕ) (q : Place) → Placed (part_bytes b p) n q → Placed b n (moved_by p.from q)
  placed-moved n (offset i) h = (h.0, omega (arith, h.1, part_length b p))
  placed-moved n (spot i) h = h
  placed-moved n (kind_at k o) h =
      let l : o < p.len = omega (arith, h.1, part_length b p) in
      let m : min (p.from + o) 18446744073709551615 ≡ p.from + o = min-eq_left (omega arith) in
      rw m (
        h.0,
        omega arith,
        sym (get_or-drop p.from b o 0) ∙ sym (get_or-take p.len (drop p.from b) o 0 l) ∙ h.2,
        h.3,
      )

  stops-moved : {X : Type 0} (x : Said X) → Stops (part_bytes b p) x → Stops b (relocated p.from x)
  unfolding relocated
  stops-moved (accepted v) h n q e = absurd (never (sym e))
  stops-moved {X} (refused m k) h n q e = let g = placed-moved m k (h m k refl) in
      let u : m ≡ n = cc in let w : moved_by p.from k ≡ q = cc in subst₂ (λ (i : ℕ) (j : Place). Placed b i j) u w g

-- ---- things that follow one another
module _ {T : Type 0} (step : ℕ → T → Said (Got T)) (b : List ℕ)
    (ahead : (i : ℕ) (t u : T) (d : ℕ) → step i t ≡ accepted (got u d) → (i < d) × (d ≤ length b))
    (good : (i : ℕ) (t : T) → i ≤ length b → Well b (step i t)) where
  walk-well : (n at : ℕ) (t : T) → length b - at ≤ n → at ≤ length b → Well b (walk_from step b at t)
  walk-well zero at t h k = subst (λ (x : Said (Got T)). Well b x) (sym (from_end step b at t (omega arith))) (well-done b t at k)
  walk-well (suc n) at t h k = by (λ d v. walk-well n d v) (ltb at (length b)) refl where
    go : ((d : ℕ) (v : T) → length b - d ≤ n → d ≤ length b → Well b (walk_from step b d v)) → at < length b
        → (y : Said (Got T)) → step at t ≡ y → Well b (walk_from step b at t)
    go ih i (accepted (got v d)) f =
        let a = ahead at t v d f in
        subst (λ (x : Said (Got T)). Well b x) (sym (from-go step b at t v d f a.0 a.1)) (ih d v (omega (arith, a.0)) a.1)
    go ih i (refused m p) f =
        subst (λ (x : Said (Got T)). Well b x) (sym (from-stop step b at t m p i f))
        (well-stop b m p (stopped b (good at t k).stop-in m p f))

    by : ((d : ℕ) (v : T) → length b - d ≤ n → d ≤ length b → Well b (walk_from step b d v)) → (x : Bool) → ltb at (length b) ≡ x
        → Well b (walk_from step b at t)
    by ih true x = go ih (ltb-true at (length b) x) (step at t) refl
    by ih false x =
        subst (λ (x : Said (Got T)). Well b x) (sym (from_end step b at t (ltb-false at (length b) x))) (well-done b t at k)

  from-well : (at : ℕ) (t : T) → at ≤ length b → Well b (walk_from step b at t)
  from-well at t k = walk-well (length b - at) at t (omega arith) k

-- ---- custom sections
module _ (s : List ℕ) (size : length s ≤ file_limit) (base n : ℕ) where
  told-well : (id : ℕ) (t : Names) → Well s (told_by id s base n t)
  unfolding told_by label_at symbols_of
  told-well id t =
      well-pick s (eqb id 0) _ _ (well-onward s (name_at s 0) _ (name-well s size 0 (omega arith)) (λ p e q k. well-done s _ e k))
      (well-pick s (eqb id 1) _ _
      (well-onward s _ _ (run-well s (symbol_at s base) (symbol-well s size base) 4 _ (omega arith) t.symbols) (λ rows e q k. well-done s _ e k))
      (well-done s t 0 (omega arith)))

module _ (s : List ℕ) (size : length s ≤ file_limit) (base n : ℕ) where
  sub-well : (at : ℕ) (t : Names) → at ≤ length s → Well s (subsection_at s base n at t)
  unfolding subsection_at
  sub-well at t h =
      well-onward s (byte_at s at) _ (byte-well s at h) (λ id a e1 h1.
      well-onward s (counted_at s a) _ (counted-well s size a h1) (λ p d e2 h2.
      let w = counted-in s a p d e2 in
      let i : p.from + p.len ≤ length s = omega (arith, w.end, w.in-s) in
      well-after s (relocated p.from (told_by id (part_bytes s p) (base + p.from) n t)) _
      (stops-moved s size p i _ (told-well (part_bytes s p) (part_small s size p i) (base + p.from) n id t).stop-in)
      (λ u e q. well-done s u d h2)))

  custom-well : (t : Names) → Well s (custom_at s base n t)
  unfolding custom_at
  custom-well t =
      well-onward s (name_at s 0) _ (name-well s size 0 (omega arith)) (λ p at e1 h1.
      well-onward s _ _
      (well-pick s (same name_word (part_bytes s p)) _ _
      (from-well (subsection_at s base n) s
      (λ i t u d q. let k = took-sub s base n i t u d q in (omega (arith, k.past, k.ends), k.in-s)) sub-well at t h1)
      (well-done s t at h1)) (λ u e q k. well-done s _ e k))

-- ---- sections
module _ (s : List ℕ) (size : length s ≤ file_limit) (base : ℕ) (z : Sizes) where
  contents-well : (id : ℕ) (t : Tables) → Well s (contents_at id s base z t)
  unfolding contents_at imports_of exports_of
  contents-well id t =
      well-pick s (eqb id 0) _ _ (well-onward s _ _ (custom-well s size base z.names t.names) (λ u e q k. well-done s _ e k))
      (well-pick s (eqb id 2) _ _
      (well-onward s _ _ (run-well s (import_at s base) (import-well s size base) 2 _ (omega arith) []) (λ rows e q k. well-done s _ e k))
      (well-pick s (eqb id 7) _ _
      (well-onward s _ _ (run-well s (export_at s base) (export-well s size base) 3 _ (omega arith) []) (λ rows e q k. well-done s _ e k))
      (well-done s _ 0 (omega arith))))

module _ (b : List ℕ) (size : length b ≤ file_limit) (z : Sizes) where
  section-well : (at : ℕ) (t : Tables) → at ≤ length b → Well b (section_at b z at t)
  unfolding section_at add_section
  section-well at t h =
      well-onward b (byte_at b at) _ (byte-well b at h) (λ id a e1 h1.
      well-onward b (counted_at b a) _ (counted-well b size a h1) (λ p d e2 h2.
      let w = counted-in b a p d e2 in
      let i : p.from + p.len ≤ length b = omega (arith, w.end, w.in-s) in
      well-after b (relocated p.from (contents_at id (part_bytes b p) p.from z t)) _
      (stops-moved b size p i _ (contents-well (part_bytes b p) (part_small b size p i) p.from z id t).stop-in)
      (λ u e q. well-pick b (ltb (length u.tables.sections) (capacity_in 1 z.sections)) _ _ (well-done b _ d h2)
      (well-stop b 13 (spot 1) (refl, omega arith)))))

  header-well : Well b (header_at b)
  unfolding header_at
  header-well =
      well-onward b (taken_at b 0 4) _ (take-well b 0 4 size (omega arith) (omega arith)) (λ p c e1 h1.
      let w = take_in b 0 4 p c e1 in
      well-pick b (same magic (part_bytes b p)) _ _
      (well-onward b (fixed_at b c) _ (fixed-well b c h1) (λ v d e2 h2.
      well-pick b (eqb v 0) _ _ (well-stop b 2 (offset 4) (refl, omega (arith, w.in-s))) (well-done b v d h2)))
      (well-stop b 2 (offset 0) (refl, omega arith)))

  file-stops : Stops b {X = Parsed} (onward (header_at b) (λ v c. onward (walk_from (section_at b z) b c no_tables) (λ t d.
      accepted (record { version = v; tables = t }))))
  file-stops =
      stops-onward b (header_at b) _ header-well.stop-in (λ v c e1.
      stops-onward b (walk_from (section_at b z) b c no_tables) _
      (from-well (section_at b z) b (λ i t u d q. let k = took b z i t u d q in (omega (arith, k.past, k.ends), k.in_b))
      section-well c no_tables (header-well.next-in v c e1)).stop-in
      (λ t d e2. stops-not b _))

placed : (b : List ℕ) (z : Sizes) → Stops b (module_at b z)
unfolding module_at
placed b z n p e = by (ltb file_limit (length b)) refl e where
  by : (x : Bool) → ltb file_limit (length b) ≡ x
      → pick {A = Said Parsed} x (refused 14 (spot 0)) (onward (header_at b) (λ v c. onward (walk_from (section_at b z) b c no_tables) (λ t d.
      accepted (record { version = v; tables = t })))) ≡ refused n p → Placed b n p
  by true t f = stops_at b 14 (spot 0) (refl, omega arith) n p f
  by false t f = file-stops b (ltb-false file_limit (length b) t) z n p f

pub places-in-file : PlacesInFile
places-in-file b z n p e = (placed b z n (offset p) e).1

pub kind-there : KindThere
kind-there b z n k o bytes e =
    let h = placed b z n (kind_at k o) e in
    (h.1, h.2, h.3, subst (λ (x : ℕ). x < 256) h.2 (bytes o))

pub only-offsets : OnlyOffsets
only-offsets b z n (offset p) e = (placed b z n (offset p) e).0
only-offsets b z n (spot p) e = (placed b z n (spot p) e).0
only-offsets b z n (kind_at k o) e = (placed b z n (kind_at k o) e).0

pub tables-few : TablesFew
tables-few b z n p e = (placed b z n (spot p) e).1

-- ---- a start that is added: no sum leaves 64 bits
module _ (b : List ℕ) (size : length b ≤ file_limit) (p : Part) (whole : p.from + p.len ≤ length b) where
  plainly : (n : ℕ) (q : Place) → Placed (part_bytes b p) n q → moved_by p.from q ≡ start_added p.from q
  plainly n (offset i) h =
      ap offset (min-eq_left (omega (arith, h.1, part_length b p)))
  plainly n (spot i) h = refl
  plainly n (kind_at k o) h =
      ap (kind_at k) (min-eq_left (omega (arith, h.1, part_length b p)))

pub section-place : SectionPlace
unfolding section_at onward relocated
section-place b z at id a d n q t p size one two refuses =
    let w = counted-in b a p d two in
    let i : p.from + p.len ≤ length b = omega (arith, w.end, w.in-s) in
    let h = (contents-well (part_bytes b p) (part_small b size p i) p.from z id t).stop-in n q refuses in
    rw (one, two, refuses, plainly b size p i n q h)

pub subsection-place : SubsectionPlace
unfolding subsection_at onward relocated
subsection-place s base cells at id a d n q t p size one two refuses =
    let w = counted-in s a p d two in
    let i : p.from + p.len ≤ length s = omega (arith, w.end, w.in-s) in
    let h = (told-well (part_bytes s p) (part_small s size p i) (base + p.from) cells id t).stop-in n q refuses in
    rw (one, two, refuses, plainly s size p i n q h)
