-- Bytes after those that are read change nothing of what is accepted: reader by reader. Assumes nothing.
use Prim.Native.Nat.{ℕ, zero, suc, ◌+◌, ◌-◌, ◌%◌, ◌≤◌}
use native.Mathlib.Omega.{arith}
use mathlib.Core.Path.{◌≡◌, refl, sym, ◌∙◌, ap, subst}
use mathlib.Core.Bool.{Bool, true, false}
use mathlib.Core.List.{List, [], ◌∷◌, ◌++◌}
use lib.ListN.{length, get_or, take, drop, length-append, length-drop, get_or-append}
use lib.Seq.{take-append-le, drop-append-le}
use lib.Dec.{ltb, leb, eqb}
use borrow.Author.Tests.{lt-ltb, le-ltb, le-leb, ltb-true, ltb-false, leb-true}
use Rattle.refusal.specs.Pick.{pick}
use Rattle.refusal.specs.Said.{Said, accepted, refused, Got, got, onward, offset, kind_at}
use Rattle.refusal.specs.declared.Part.{Part}
use Rattle.refusal.proofs.Following.{read-on}
use Rattle.table.specs.Entries.{entries_from}
use Rattle.table.proofs.Larger.{Sure, spare, Any, accepts-too, sure-accepts, sure-same, sure-pick, sure-onward}
use Rattle.leb.specs.Grammar.{U, last_u, more_u}
use Rattle.leb.specs.Reads.{part, part_bytes, byte_at, u32_at, taken_at, counted_at, checked, name_at}
use Rattle.leb.proofs.Beyond.{u32-long, u32-only}
use Rattle.leb.proofs.Bounds.{u-takes, counted-in}
use Rattle.wasm.specs.Entry.{limits_at, func_at, table_at, memory_at, global_at, desc_at, import_at, export_at, symbol_at}
use Rattle.wasm.specs.Rows.{imports_of, exports_of, symbols_of}
use Rattle.wasm.specs.Custom.{Names, label_at, told_by}
use Rattle.conform.specs.Beyond.{UnusedBytes}

-- a number is a number whatever comes after it
u-append : {N v k : ℕ} {l : List ℕ} (m : List ℕ) → U N l v k → U N (l ++ m) v k
u-append m (last_u a b) = last_u a b
u-append m (more_u a b r) = more_u a b (u-append m r)

-- a run of entries, read in two ways
module _ {R : Type 0} (read read1 : ℕ → Said (Got R)) (each : (at : ℕ) → Sure Any (read at) (read1 at)) (tn room : ℕ) where
  more-entries : (n at : ℕ) (rows : List R) → Sure Any (entries_from read tn room n at rows) (entries_from read1 tn room n at rows)
  unfolding entries_from
  more-entries zero at rows = sure-same _
  more-entries (suc n) at rows =
      sure-onward (read at) (read1 at) _ _ (each at) (λ row next.
      sure-pick (ltb (length rows) room) _ _ _ _ (more-entries n next (rows ++ (row ∷ []))) (sure-same _))

module _ (s more : List ℕ) where
  longer : length s ≤ length (s ++ more)
  longer = omega (arith, length-append s more)

  more_byte : (at : ℕ) → Sure Any (byte_at s at) (byte_at (s ++ more) at)
  unfolding byte_at
  more_byte at = by (ltb at (length s)) refl where
    by : (t : Bool) → ltb at (length s) ≡ t
        → Sure Any (pick t (accepted (got (get_or s at 0) (at + 1))) (refused 1 (offset at)))
        (pick (ltb at (length (s ++ more))) (accepted (got (get_or (s ++ more) at 0) (at + 1))) (refused 1 (offset at)))
    by true t =
        let h = ltb-true at (length s) t in
        rw (lt-ltb at (length (s ++ more)) (omega (arith, h, longer)), get_or-append s more 0 at h) (sure-same _)
    by false t = spare 1 (offset at) tt refl

  more-u32 : (at : ℕ) → Sure Any (u32_at s at) (u32_at (s ++ more) at)
  more-u32 at = sure-accepts (u32_at s at) (u32_at (s ++ more) at) by where
    by : (t : Got ℕ) → u32_at s at ≡ accepted t → u32_at (s ++ more) at ≡ accepted t
    by (got v d) e =
        let o = u32-only s at v d e in
        let k = u-takes o.1 in
        let h : at ≤ length s = omega (arith, k.0, k.1, length-drop at s) in
        let u = subst (λ (l : List ℕ). U 64 l v o.0) (sym (drop-append-le at s more h)) (u-append more o.1) in
        u32-long (s ++ more) at v o.0 u o.2 ∙ ap (λ (i : ℕ). accepted (got v i)) (sym o.3)

  more-take : (at n : ℕ) → Sure Any (taken_at s at n) (taken_at (s ++ more) at n)
  unfolding taken_at
  more-take at n = one (ltb (length s) at) refl where
    two : (t : Bool) → leb (at + n) (length s) ≡ t
        → Sure Any (pick t (accepted (got (part at n) (at + n))) (refused 1 (offset at)))
        (pick (leb (at + n) (length (s ++ more))) (accepted (got (part at n) (at + n))) (refused 1 (offset at)))
    two true t = rw (le-leb (at + n) (length (s ++ more)) (omega (arith, leb-true (at + n) (length s) t, longer))) (sure-same _)
    two false t = spare 1 (offset at) tt refl

    one : (t : Bool) → ltb (length s) at ≡ t
        → Sure Any
        (pick t (refused 1 (offset at))
        (pick (ltb (18446744073709551615 - at) n) (refused 5 (kind_at at at))
        (pick (leb (at + n) (length s)) (accepted (got (part at n) (at + n))) (refused 1 (offset at)))))
        (taken_at (s ++ more) at n)
    one true t = spare 1 (offset at) tt refl
    one false t =
        rw (le-ltb (length (s ++ more)) at (omega (arith, ltb-false (length s) at t, longer)))
        (sure-pick (ltb (18446744073709551615 - at) n) _ _ _ _ (sure-same _) (two (leb (at + n) (length s)) refl))

  more-counted : (at : ℕ) → Sure Any (counted_at s at) (counted_at (s ++ more) at)
  unfolding counted_at
  more-counted at = sure-onward _ _ _ _ (more-u32 at) (λ n next. more-take next n)

  -- a range of s is the same range of s and more
  same_bytes : (p : Part) → p.from + p.len ≤ length s → part_bytes (s ++ more) p ≡ part_bytes s p
  same_bytes p h =
      let f : p.from ≤ length s = omega arith in
      let w : p.len ≤ length (drop p.from s) = omega (arith, length-drop p.from s) in
      ap (take p.len) (drop-append-le p.from s more f) ∙ take-append-le p.len (drop p.from s) more w

  more-name : (at : ℕ) → Sure Any (name_at s at) (name_at (s ++ more) at)
  unfolding name_at onward checked
  more-name at =
      sure-accepts (name_at s at) (name_at (s ++ more) at) (λ t e.
      let f = read-on (counted_at s at) (checked s) e in
      let w = counted-in s at f.what f.next f.first in
      let q = same_bytes f.what (omega (arith, w.end, w.in-s)) in
      rw (accepts-too (more-counted at) (got f.what f.next) f.first, q) f.then)

  more-limits : (at : ℕ) → Sure Any (limits_at s at) (limits_at (s ++ more) at)
  unfolding limits_at
  more-limits at =
      sure-onward _ _ _ _ (more_byte at) (λ flag a.
      sure-onward _ _ _ _ (more-u32 a) (λ low c.
      sure-pick (eqb (flag % 2) 1) _ _ _ _ (sure-onward _ _ _ _ (more-u32 c) (λ high d. sure-same _)) (sure-same _)))

  more-desc : (kind i at : ℕ) → Sure Any (desc_at s kind i at) (desc_at (s ++ more) kind i at)
  unfolding desc_at func_at table_at memory_at global_at
  more-desc kind i at =
      sure-pick (eqb kind 0) _ _ _ _ (sure-onward _ _ _ _ (more-u32 at) (λ index a. sure-same _))
      (sure-pick (eqb kind 1) _ _ _ _
      (sure-onward _ _ _ _ (more_byte at) (λ element a. sure-onward _ _ _ _ (more-limits a) (λ l c. sure-same _)))
      (sure-pick (eqb kind 2) _ _ _ _ (sure-onward _ _ _ _ (more-limits at) (λ l a. sure-same _))
      (sure-pick (eqb kind 3) _ _ _ _
      (sure-onward _ _ _ _ (more_byte at) (λ type a. sure-onward _ _ _ _ (more_byte a) (λ mutable c. sure-same _)))
      (sure-same _))))

  module _ (base : ℕ) where
    more-import : (at : ℕ) → Sure Any (import_at s base at) (import_at (s ++ more) base at)
    unfolding import_at
    more-import at =
        sure-onward _ _ _ _ (more-name at) (λ m a.
        sure-onward _ _ _ _ (more-name a) (λ f c.
        sure-onward _ _ _ _ (more_byte c) (λ kind d.
        sure-onward _ _ _ _ (more-desc kind c d) (λ desc e. sure-same _))))

    more-export : (at : ℕ) → Sure Any (export_at s base at) (export_at (s ++ more) base at)
    unfolding export_at
    more-export at =
        sure-onward _ _ _ _ (more-name at) (λ p a.
        sure-onward _ _ _ _ (more_byte a) (λ kind c.
        sure-onward _ _ _ _ (more-u32 c) (λ index d. sure-same _)))

    more-symbol : (at : ℕ) → Sure Any (symbol_at s base at) (symbol_at (s ++ more) base at)
    unfolding symbol_at
    more-symbol at =
        sure-onward _ _ _ _ (more-u32 at) (λ index a. sure-onward _ _ _ _ (more-name a) (λ p c. sure-same _))

    module _ (n : ℕ) where
      more-imports : Sure Any (imports_of s base n) (imports_of (s ++ more) base n)
      unfolding imports_of
      more-imports = sure-onward _ _ _ _ (more-u32 0) (λ count at. more-entries _ _ more-import 2 _ count at [])

      more-exports : Sure Any (exports_of s base n) (exports_of (s ++ more) base n)
      unfolding exports_of
      more-exports = sure-onward _ _ _ _ (more-u32 0) (λ count at. more-entries _ _ more-export 3 _ count at [])

      more-told : (id : ℕ) (t : Names) → Sure Any (told_by id s base n t) (told_by id (s ++ more) base n t)
      unfolding told_by label_at symbols_of
      more-told id t =
          sure-pick (eqb id 0) _ _ _ _ (sure-onward _ _ _ _ (more-name 0) (λ p e. sure-same _))
          (sure-pick (eqb id 1) _ _ _ _
          (sure-onward _ _ _ _
          (sure-onward _ _ _ _ (more-u32 0) (λ count at. more-entries _ _ more-symbol 4 _ count at t.symbols)) (λ rows e. sure-same _))
          (sure-same _))

-- contents with bytes after the last entry are accepted with the same entries
pub unused-bytes : (s more : List ℕ) (base n : ℕ) → UnusedBytes s more base n
unused-bytes s more base n =
    record {
      imports = λ rows d e. accepts-too (more-imports s more base n) (got rows d) e;
      exports = λ rows d e. accepts-too (more-exports s more base n) (got rows d) e;
      names = λ id t u d e. accepts-too (more-told s more base n id t) (got u d) e;
    }
