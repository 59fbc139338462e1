-- Entries: what is read is what the port's grammar derives, with the values that the rows hold. The other direction of Conform.antt.
-- Assumes nothing.
use Prim.Native.Nat.{ℕ, zero, suc, ◌+◌, ◌%◌, ◌≤◌, ◌<◌}
use native.Mathlib.Numerals.{add-one}
use native.Mathlib.Omega.{arith}
use mathlib.Core.Path.{◌≡◌, refl, sym, ◌∙◌, ap, subst}
use mathlib.Core.Bool.{Bool, true, false}
use mathlib.Core.List.{List, [], ◌∷◌, ◌++◌, append_assoc, append-nil}
use lib.ListN.{length, get_or, drop, length-drop, take-append-drop}
use lib.Seq.{drop-cons, drop-drop, length-take-le}
use lib.Dec.{ltb, eqb}
use borrow.Author.Tests.{ltb-true, eqb-true, eqb-false}
use Rattle.std.specs.Prelude.{Some, None}
use Rattle.refusal.specs.Pick.{pick}
use Rattle.refusal.specs.Said.{Said, accepted, refused, Got, got, onward, offset, spot}
use Rattle.refusal.specs.declared.Part.{Part}
use Rattle.refusal.proofs.Following.{never, read-on}
use Rattle.table.specs.Entries.{entries_from}
use Rattle.leb.specs.Reads.{part_bytes, byte_at, u32_at, counted_at, name_at}
use Rattle.leb.proofs.Beyond.{u32-only}
use Rattle.leb.proofs.Bounds.{take_in}
use Rattle.leb.proofs.Names.{name-only}
use Rattle.wasm.specs.Shapes.{Limits, Desc, Import, Export, Symbol}
use Rattle.wasm.specs.Entry.{limits_at, func_at, table_at, memory_at, global_at, desc_at, import_at, export_at, symbol_at}
use Rattle.conform.specs.Grammar.{Many, none, more}
use Rattle.conform.specs.Port.{Number, number, Named, named, Counted, counted, AnyLimits, even, odd, AnyDesc, function, tables}
use Rattle.conform.specs.Port.{memories}
use Rattle.conform.specs.Port.{globals, AnyImport, imported, AnyExport, exported, AnyAssoc, assoc}
use Rattle.conform.specs.Claims.{Pairwise, nil, cons}
use Rattle.conform.proofs.Walks.{same-got}
use Rattle.conform.proofs.Conform.{ImportRow, ExportRow, FunctionRow}

-- a test that was passed or not
pub either : {T : Type 0} (k n : ℕ) (x y : Said T) (t : T) (C : Type 0) → pick (eqb k n) x y ≡ accepted t
    → (k ≡ n → x ≡ accepted t → C) → ((k ≡ n → ⊥) → y ≡ accepted t → C) → C
either k n x y t C e one other = by (eqb k n) refl e where
  by : (b : Bool) → eqb k n ≡ b → pick b x y ≡ accepted t → C
  by true b f = one (eqb-true k n b) f
  by false b f = other (eqb-false k n b) f

module _ (s : List ℕ) (size : length s < 18446744073709551616) where
  -- ---- bytes, numbers, ranges
  pub only-byte : (at x d : ℕ) → byte_at s at ≡ accepted (got x d) → drop at s ≡ x ∷ drop d s
  unfolding byte_at
  only-byte at x d e = by (ltb at (length s)) refl e where
    by : (t : Bool) → ltb at (length s) ≡ t → pick t (accepted (got (get_or s at 0) (at + 1))) (refused 1 (offset at)) ≡ accepted (got x d)
        → drop at s ≡ x ∷ drop d s
    by true t f =
        let v : get_or s at 0 ≡ x = cc in
        let n : at + 1 ≡ d = cc in
        drop-cons s at 0 (ltb-true at (length s) t) ∙ ap (λ (k : ℕ). get_or s at 0 ∷ drop k s) (sym (add-one at) ∙ n)
        ∙ ap (λ (k : ℕ). k ∷ drop d s) v
    by false t f = absurd (never f)

  -- a number that was read
  pub only-u32 : (at v d : ℕ) → u32_at s at ≡ accepted (got v d) → Number (drop at s) v (drop d s)
  only-u32 at v d e =
      let o = u32-only s at v d e in
      subst (Number (drop at s) v) (drop-drop o.0 at s ∙ ap (λ (k : ℕ). drop k s) (sym o.3)) (number o.1 o.2)

  other-end : (l : List ℕ) {v w a c : ℕ} → v ≡ w → a ≡ c → Number l v (drop a s) → Number l w (drop c s)
  other-end l {v} {w} {a} {c} e f u = subst (λ (x : ℕ). Number l x (drop c s)) e (subst (λ (x : ℕ). Number l v (drop x s)) f u)

  -- a range that lies in s, and what comes after it
  split : (p : Part) → p.from + p.len ≤ length s
      → (length (part_bytes s p) ≡ p.len) × (drop p.from s ≡ part_bytes s p ++ drop (p.from + p.len) s)
  split p h = (
    length-take-le p.len (drop p.from s) (omega (arith, length-drop p.from s)),
    sym (take-append-drop p.len (drop p.from s)) ∙ ap (λ (l : List ℕ). part_bytes s p ++ l) (drop-drop p.len p.from s),
  )

  sized : (at : ℕ) (p : Part) (d : ℕ) → p.from + p.len ≡ d → d ≤ length s → Number (drop at s) p.len (drop p.from s)
      → Number (drop at s) (length (part_bytes s p)) (part_bytes s p ++ drop d s)
  sized at p d e h u =
      let w = split p (omega (arith, e)) in
      rw w.0 (subst (Number (drop at s) p.len) (w.1 ∙ ap (λ (k : ℕ). part_bytes s p ++ drop k s) e) u)

  -- a size and bytes that were read
  pub only-counted : (at : ℕ) (p : Part) (d : ℕ) → counted_at s at ≡ accepted (got p d)
      → Number (drop at s) (length (part_bytes s p)) (part_bytes s p ++ drop d s)
  unfolding counted_at
  only-counted at p d e =
      let o = read-on (u32_at s at) _ e in
      let t = take_in s o.next o.what p d o.then in
      let u = only-u32 at o.what o.next o.first in
      sized at p d (omega (arith, t.start, t.size, t.next)) (omega (arith, t.next, t.in-s))
      (other-end (drop at s) (sym t.size) (sym t.start) u)

  -- a name that was read lies in s
  pub only-name : (at : ℕ) (p : Part) (d : ℕ) → name_at s at ≡ accepted (got p d)
      → Named (drop at s) (part_bytes s p) (drop d s) × (p.from + p.len ≤ length s)
  only-name at p d e =
      let o = name-only s at p d e in
      let u : Number (drop at s) p.len (drop p.from s) =
      subst (Number (drop at s) p.len) (drop-drop o.count at s ∙ ap (λ (k : ℕ). drop k s) (sym o.start))
      (number o.counted o.small) in
      (named (sized at p d (sym o.next) o.whole u) o.utf8, omega (arith, o.next, o.whole))

  -- ---- limits and descriptors
  pub only-limits : (at : ℕ) (m : Limits) (d : ℕ) → limits_at s at ≡ accepted (got m d) → AnyLimits (drop at s) m (drop d s)
  unfolding limits_at
  only-limits at m d e =
      let x = read-on (byte_at s at) _ e in
      let y = read-on (u32_at s x.next) _ x.then in
      let u = only-u32 x.next y.what y.next y.first in
      subst (λ (l : List ℕ). AnyLimits l m (drop d s)) (sym (only-byte at x.what x.next x.first))
      (either (x.what % 2) 1 _ _ (got m d) _ y.then
      (λ h f.
      let w = read-on (u32_at s y.next) _ f in
      bounded x.what y.what w.what w.next h w.then u (only-u32 y.next w.what w.next w.first))
      (λ h f. unbounded x.what y.what y.next h f u))
    where
      low : (f : ℕ) → (f % 2 ≡ 1 → ⊥) → f % 2 ≡ 0
      low f h = omega (arith, h)

      bounded : {l k : List ℕ} (f n v c : ℕ) → f % 2 ≡ 1
          → accepted (got (record { flag = f; least = n; most = Some v }) c) ≡ accepted (got m d)
          → Number l n k → Number k v (drop c s) → AnyLimits (f ∷ l) m (drop d s)
      bounded {l} {k} f n v c h g u w =
          let q = same-got g in
          subst (λ (i : Limits). AnyLimits (f ∷ l) i (drop d s)) q.0 (odd h u (other-end k refl q.1 w))

      unbounded : {l : List ℕ} (f n c : ℕ) → (f % 2 ≡ 1 → ⊥)
          → accepted (got (record { flag = f; least = n; most = None }) c) ≡ accepted (got m d)
          → Number l n (drop c s) → AnyLimits (f ∷ l) m (drop d s)
      unbounded {l} f n c h g u =
          let q = same-got g in
          subst (λ (i : Limits). AnyLimits (f ∷ l) i (drop d s)) q.0
          (even (low f h) (other-end l refl q.1 u))

  only-func : (at : ℕ) (m : Desc) (d : ℕ) → func_at s at ≡ accepted (got m d) → AnyDesc 0 (drop at s) m (drop d s)
  unfolding func_at
  only-func at m d e =
      let x = read-on (u32_at s at) _ e in
      let f = same-got x.then in
      let q = f.0 in
      let r = f.1 in
      subst (λ (i : Desc). AnyDesc 0 (drop at s) i (drop d s)) q
      (function (other-end (drop at s) refl r (only-u32 at x.what x.next x.first)))

  only-table : (at : ℕ) (m : Desc) (d : ℕ) → table_at s at ≡ accepted (got m d) → AnyDesc 1 (drop at s) m (drop d s)
  unfolding table_at
  only-table at m d e =
      let x = read-on (byte_at s at) _ e in
      let y = read-on (limits_at s x.next) _ x.then in
      let f = same-got y.then in
      let q = f.0 in
      let r = f.1 in
      let w =
      subst (λ (k : ℕ). AnyLimits (drop x.next s) y.what (drop k s)) r (only-limits x.next y.what y.next y.first) in
      subst (λ (l : List ℕ). AnyDesc 1 l m (drop d s)) (sym (only-byte at x.what x.next x.first))
      (subst (λ (i : Desc). AnyDesc 1 (x.what ∷ drop x.next s) i (drop d s)) q (tables w))

  only-memory : (at : ℕ) (m : Desc) (d : ℕ) → memory_at s at ≡ accepted (got m d) → AnyDesc 2 (drop at s) m (drop d s)
  unfolding memory_at
  only-memory at m d e =
      let y = read-on (limits_at s at) _ e in
      let f = same-got y.then in
      let q = f.0 in
      let r = f.1 in
      let w = subst (λ (k : ℕ). AnyLimits (drop at s) y.what (drop k s)) r (only-limits at y.what y.next y.first) in
      subst (λ (i : Desc). AnyDesc 2 (drop at s) i (drop d s)) q (memories w)

  only-global : (at : ℕ) (m : Desc) (d : ℕ) → global_at s at ≡ accepted (got m d) → AnyDesc 3 (drop at s) m (drop d s)
  unfolding global_at
  only-global at m d e =
      let x = read-on (byte_at s at) _ e in
      let y = read-on (byte_at s x.next) _ x.then in
      let f = same-got y.then in
      let q = f.0 in
      let r = f.1 in
      let l : drop at s ≡ x.what ∷ y.what ∷ drop d s =
      only-byte at x.what x.next x.first
      ∙ ap (λ (k : List ℕ). x.what ∷ k) (only-byte x.next y.what y.next y.first ∙ ap (λ (k : ℕ). y.what ∷ drop k s) r) in
      subst (λ (k : List ℕ). AnyDesc 3 k m (drop d s)) (sym l)
      (subst (λ (i : Desc). AnyDesc 3 (x.what ∷ y.what ∷ drop d s) i (drop d s)) q globals)

  -- a descriptor that was read
  pub only-desc : (kind i at : ℕ) (m : Desc) (d : ℕ) → desc_at s kind i at ≡ accepted (got m d)
      → AnyDesc kind (drop at s) m (drop d s)
  unfolding desc_at
  only-desc kind i at m d e =
      either kind 0 _ _ (got m d) _ e (λ h f. is 0 h (only-func at m d f)) (λ h f.
      either kind 1 _ _ (got m d) _ f (λ h f. is 1 h (only-table at m d f)) (λ h f.
      either kind 2 _ _ (got m d) _ f (λ h f. is 2 h (only-memory at m d f)) (λ h f.
      either kind 3 _ _ (got m d) _ f (λ h f. is 3 h (only-global at m d f)) (λ h f. absurd (never f)))))
    where
      is : (n : ℕ) → kind ≡ n → AnyDesc n (drop at s) m (drop d s) → AnyDesc kind (drop at s) m (drop d s)
      is n h w = subst (λ (k : ℕ). AnyDesc k (drop at s) m (drop d s)) (sym h) w

  -- ---- entries: a value that the grammar derives, and the row agrees
  pub record Found {X E : Type 0} (P : List ℕ → X → List ℕ → Type 0) (R : E → X → Type 0) (at : ℕ) (row : E) (d : ℕ) : Type 0 where
    pub value : X
    pub derives : P (drop at s) value (drop d s)
    pub agrees : R row value

  -- an import that was read
  pub only-import : (base at : ℕ) (row : Import) (d : ℕ) → import_at s base at ≡ accepted (got row d)
      → Found AnyImport (ImportRow s size base) at row d
  unfolding import_at
  only-import base at row d e =
      let m = read-on (name_at s at) _ e in
      let f = read-on (name_at s m.next) _ m.then in
      let k = read-on (byte_at s f.next) _ f.then in
      let c = read-on (desc_at s k.what f.next k.next) _ k.then in
      let g = same-got c.then in
      let r = g.1 in
      let p = only-name at m.what m.next m.first in
      let q = only-name m.next f.what f.next f.first in
      let b = only-byte f.next k.what k.next k.first in
      let w = only-desc k.what f.next k.next c.what c.next c.first in
      record {
        value = record { from = part_bytes s m.what; name = part_bytes s f.what; kind = k.what; desc = c.what };
        derives = imported p.0 (subst (Named (drop m.next s) (part_bytes s f.what)) b q.0)
            (subst (λ (i : ℕ). AnyDesc k.what (drop k.next s) c.what (drop i s)) r w);
        agrees = record {
          first = m.what;
          second = f.what;
          row_is = sym g.0;
          module-is = refl;
          field_is = refl;
          first-in = p.1;
          second-in = q.1;
        };
      }

  -- an export that was read
  pub only-export : (base at : ℕ) (row : Export) (d : ℕ) → export_at s base at ≡ accepted (got row d)
      → Found AnyExport (ExportRow s size base) at row d
  unfolding export_at
  only-export base at row d e =
      let m = read-on (name_at s at) _ e in
      let k = read-on (byte_at s m.next) _ m.then in
      let c = read-on (u32_at s k.next) _ k.then in
      let g = same-got c.then in
      let r = g.1 in
      let p = only-name at m.what m.next m.first in
      let b = only-byte m.next k.what k.next k.first in
      record {
        value = record { name = part_bytes s m.what; kind = k.what; index = c.what };
        derives = exported (subst (Named (drop at s) (part_bytes s m.what)) b p.0)
            (other-end (drop k.next s) refl r (only-u32 k.next c.what c.next c.first));
        agrees = record { first = m.what; row_is = sym g.0; name-is = refl; first-in = p.1 };
      }

  -- a function name that was read
  pub only-function : (base at : ℕ) (row : Symbol) (d : ℕ) → symbol_at s base at ≡ accepted (got row d)
      → Found AnyAssoc (FunctionRow s size base) at row d
  unfolding symbol_at
  only-function base at row d e =
      let c = read-on (u32_at s at) _ e in
      let m = read-on (name_at s c.next) _ c.then in
      let g = same-got m.then in
      let r = g.1 in
      let p = only-name c.next m.what m.next m.first in
      record {
        value = record { index = c.what; name = part_bytes s m.what };
        derives = assoc (only-u32 at c.what c.next c.first)
            (subst (λ (i : ℕ). Named (drop c.next s) (part_bytes s m.what) (drop i s)) r p.0);
        agrees = record { first = m.what; row_is = sym g.0; name-is = refl; first-in = p.1 };
      }

  -- ---- runs of them
  module _ {X E : Type 0} (P : List ℕ → X → List ℕ → Type 0) (R : E → X → Type 0) (read : ℕ → Said (Got E))
      (only : (at : ℕ) (row : E) (d : ℕ) → read at ≡ accepted (got row d) → Found P R at row d) (tn room : ℕ) where
    record Ran (n at : ℕ) (rows all : List E) (d : ℕ) : Type 0 where
      new : List E
      is : all ≡ rows ++ new
      values : List X
      derives : Many P n (drop at s) values (drop d s)
      agree : Pairwise R new values

    only-entries : (n at : ℕ) (rows all : List E) (d : ℕ) → entries_from read tn room n at rows ≡ accepted (got all d)
        → Ran n at rows all d
    unfolding entries_from
    only-entries zero at rows all d e =
        let k = same-got e in
        record {
          new = [];
          is = sym k.0 ∙ sym (append-nil rows);
          values = [];
          derives = subst (λ (i : ℕ). Many P 0 (drop at s) [] (drop i s)) k.1 none;
          agree = nil;
        }
    only-entries (suc n) at rows all d e =
        let o = read-on (read at) _ e in
        by o.what o.next (only at o.what o.next o.first) (ltb (length rows) room) o.then
        (only-entries n o.next (rows ++ (o.what ∷ [])) all d)
      where
        by : (v : E) (c : ℕ) → Found P R at v c → (t : Bool)
            → pick t (entries_from read tn room n c (rows ++ (v ∷ []))) (refused 13 (spot tn)) ≡ accepted (got all d)
            → (entries_from read tn room n c (rows ++ (v ∷ [])) ≡ accepted (got all d) → Ran n c (rows ++ (v ∷ [])) all d)
            → Ran (suc n) at rows all d
        by v c f true g ih =
            let i = ih g in
            record {
              new = v ∷ i.new;
              is = i.is ∙ append_assoc rows (v ∷ []) i.new;
              values = f.value ∷ i.values;
              derives = more f.derives i.derives;
              agree = cons f.agrees i.agree;
            }
        by v c f false g ih = absurd (never g)

    -- a count and so many, at the start of s
    pub record OnlyRun (rows all : List E) (d : ℕ) : Type 0 where
      pub new : List E
      pub is : all ≡ rows ++ new
      pub values : List X
      pub derives : Counted P s values (drop d s)
      pub agree : Pairwise R new values

    pub only-run : (rows all : List E) (d : ℕ) → onward (u32_at s 0) (λ n at. entries_from read tn room n at rows) ≡ accepted (got all d)
        → OnlyRun rows all d
    only-run rows all d e =
        let o = read-on (u32_at s 0) _ e in
        let i = only-entries o.what o.next rows all d o.then in
        record {
          new = i.new;
          is = i.is;
          values = i.values;
          derives = counted (only-u32 0 o.what o.next o.first) i.derives;
          agree = i.agree;
        }
