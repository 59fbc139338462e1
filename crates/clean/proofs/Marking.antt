-- The second walk over what the port's grammar derives: it is accepted, ends where the derivation does, and marks rules 2 and 8 as the
-- derivation has them. Numbers, entries, runs of entries. Assumes nothing.
use Prim.Native.Nat.{ℕ, ◌+◌, ◌-◌, ◌^◌, ◌≤◌, ◌<◌}
use native.Mathlib.Omega.{arith}
use mathlib.Core.Path.{◌≡◌, refl, sym, ◌∙◌, ap, subst}
use mathlib.Core.Logic.{◌↔◌}
use mathlib.Core.List.{List, [], ◌∷◌, ◌++◌}
use lib.ListN.{length, drop}
use lib.Seq.{drop-drop}
use Rattle.refusal.specs.Said.{Said, accepted, Got, got, onward}
use Rattle.refusal.proofs.Following.{read-on}
use Rattle.refusal.specs.Each.{Each, each_nil, each-cons}
use Rattle.leb.specs.Grammar.{U}
use Rattle.leb.specs.Reads.{part, u32_at, counted_at}
use Rattle.leb.proofs.Beyond.{u32-long}
use Rattle.leb.proofs.Bounds.{u32-in, byte-in, take_in}
use Rattle.wasm.specs.Shapes.{Limits, Desc, func, table_desc, memory, global}
use Rattle.conform.specs.Grammar.{Many, none, more, FunctionOf}
use Rattle.conform.specs.Port.{Number, number, Named, named, Counted, counted, AnyLimits, even, odd, AnyDesc, ImportSaid, AnyImport}
use Rattle.conform.specs.Port.{imported, ExportSaid, AnyExport, exported, AnyAssoc, assoc}
use Rattle.conform.proofs.Walks.{same-got}
use Rattle.conform.proofs.Conform.{byte_reads, PartStands, part-reads}
use Rattle.strict.specs.Shapes.{Marks}
use Rattle.strict.specs.Again.{with_number, with_flag, number_marks, part_marks, limits_marks, table_marks, global_marks, desc_marks, import_marks}
use Rattle.strict.specs.Again.{export_marks, symbol_marks, entry_marks, run_from, run_marks}
use Rattle.clean.specs.Rules.{EveryMany, taken, ShortNumber, ShortName, ShortLimits, ShortDesc, ShortImport, ShortExport}
use Rattle.clean.specs.Rules.{ShortImports, ShortExports, ShortAssocs, ShortAssoc, PlainDesc, PlainImport}
use Rattle.clean.proofs.Judging.{Judged, nothing, after, as_said, shortens, plains, itself, right, left, no_more, three}

module _ (s : List ℕ) (size : length s < 2 ^ 64) where
  -- a part of the walk that leaves r, with marks that add A, U and P to m
  pub record Marked (x : Said (Got Marks)) (m : Marks) (A U P : Type 0) (r : List ℕ) : Type 0 where
    pub marks : Marks
    pub next : ℕ
    pub is : x ≡ accepted (got marks next)
    pub rest : drop next s ≡ r
    pub in-s : next ≤ length s
    pub judged : Judged m marks A U P

  pub as-marked : {x : Said (Got Marks)} {m : Marks} {A U P B W Q : Type 0} {r : List ℕ} → Marked x m A U P r → A ↔ B → U ↔ W → P ↔ Q
      → Marked x m B W Q r
  as-marked o a u p =
      record { marks = o.marks; next = o.next; is = o.is; rest = o.rest; in-s = o.in-s; judged = as_said o.judged a u p }

  -- ---- numbers, and ranges that they count
  number-reads : {l r : List ℕ} {v : ℕ} (at : ℕ) → drop at s ≡ l → (n : Number l v r)
      → (u32_at s at ≡ accepted (got v (at + taken n))) × (drop (at + taken n) s ≡ r)
  number-reads {v = v} at e (number {k = k} d h) =
      (u32-long s at v k (subst (λ (x : List ℕ). U 64 x v k) (sym e) d) h, sym (drop-drop k at s) ∙ ap (drop k) e)

  number-marks : {l r : List ℕ} {v : ℕ} (at : ℕ) (m : Marks) → drop at s ≡ l → (n : Number l v r)
      → Marked (number_marks s at m) m (ShortNumber n) (Unit {0}) (Unit {0}) r
  unfolding number_marks onward
  number-marks {v = v} at m e n =
      let q = number-reads at e n in
      let c : at + taken n - at ≡ taken n = omega arith in
      record {
        marks = with_number m (taken n);
        next = at + taken n;
        is = rw (q.0, c);
        rest = q.1;
        in-s = (u32-in s at v (at + taken n) q.0).0.in-s;
        judged = shortens m (taken n);
      }

  -- where what a number counts starts
  pub part-starts : {l p r : List ℕ} (at : ℕ) → drop at s ≡ l → (n : Number l (length p) (p ++ r)) (g : PartStands s size at p r)
      → g.start - at ≡ taken n
  unfolding counted_at
  part-starts {p = p} at e n g =
      let o = read-on (u32_at s at) _ g.is in
      let w = same-got (sym o.first ∙ (number-reads at e n).0) in
      let t = take_in s o.next o.what (part g.start (length p)) (g.start + length p) o.then in
      omega (arith, t.start, w.1)

  part-marks : {l r : List ℕ} (p : List ℕ) (at : ℕ) (m : Marks) → drop at s ≡ l → (n : Number l (length p) (p ++ r))
      → Marked (part_marks s at m) m (ShortNumber n) (Unit {0}) (Unit {0}) r
  unfolding part_marks onward
  part-marks {l} {r} p at m e n =
      let g = part-reads s size at l p r e n in
      let c = part-starts at e n g in
      record {
        marks = with_number m (taken n);
        next = g.start + length p;
        is = rw (g.is, c);
        rest = g.rest;
        in-s = g.inside;
        judged = shortens m (taken n);
      }

  pub name-marks : {l b r : List ℕ} (at : ℕ) (m : Marks) → drop at s ≡ l → (n : Named l b r)
      → Marked (part_marks s at m) m (ShortName n) (Unit {0}) (Unit {0}) r
  name-marks {b = b} at m e (named n u) = part-marks b at m e n

  -- ---- entries
  limits-marks : {l r : List ℕ} {v : Limits} (at : ℕ) (m : Marks) → drop at s ≡ l → (x : AnyLimits l v r)
      → Marked (limits_marks s at m) m (ShortLimits x) (Unit {0}) (v.flag ≤ 1) r
  unfolding limits_marks onward
  limits-marks at m e (even {l = l} {f = f} h u) =
      let b = byte_reads s size at f l e in
      let g = number-marks (at + 1) (with_flag m f) b.1 u in
      record {
        marks = g.marks;
        next = g.next;
        is = rw (b.0, g.is, h);
        rest = g.rest;
        in-s = g.in-s;
        judged = as_said (after (plains m f) g.judged) right no_more left;
      }
  limits-marks at m e (odd {l = l} {f = f} h u w) =
      let b = byte_reads s size at f l e in
      let g = number-marks (at + 1) (with_flag m f) b.1 u in
      let o = number-marks g.next g.marks g.rest w in
      record {
        marks = o.marks;
        next = o.next;
        is = rw (b.0, g.is, h, o.is);
        rest = o.rest;
        in-s = o.in-s;
        judged = as_said (after (as_said (after (plains m f) g.judged) right no_more left) o.judged) itself no_more left;
      }

  -- a descriptor's flag, or mutability, is what rule 8 asks of it
  plain-func : {x : ℕ} → Unit {0} ↔ PlainDesc (func x)
  plain-func = (λ u. PlainDesc.function, λ p. tt)

  plain-table : {e : ℕ} {v : Limits} → (v.flag ≤ 1) ↔ PlainDesc (table_desc e v)
  plain-table = (λ h. PlainDesc.tables h, back)
    where
      back : {e : ℕ} {v : Limits} → PlainDesc (table_desc e v) → v.flag ≤ 1
      back (PlainDesc.tables h) = h

  plain-memory : {v : Limits} → (v.flag ≤ 1) ↔ PlainDesc (memory v)
  plain-memory = (λ h. PlainDesc.memories h, back)
    where
      back : {v : Limits} → PlainDesc (memory v) → v.flag ≤ 1
      back (PlainDesc.memories h) = h

  plain-global : {t m : ℕ} → (m ≤ 1) ↔ PlainDesc (global t m)
  plain-global = (λ h. PlainDesc.globals h, back)
    where
      back : {t m : ℕ} → PlainDesc (global t m) → m ≤ 1
      back (PlainDesc.globals h) = h

  desc-marks : {kind : ℕ} {l r : List ℕ} {d : Desc} (at : ℕ) (m : Marks) → drop at s ≡ l → (x : AnyDesc kind l d r)
      → Marked (desc_marks s kind at m) m (ShortDesc x) (Unit {0}) (PlainDesc d) r
  unfolding desc_marks table_marks global_marks onward
  desc-marks at m e (AnyDesc.function n) = as-marked (number-marks at m e n) itself itself plain-func
  desc-marks at m e (AnyDesc.tables {l = l} {e = t} w) =
      let b = byte_reads s size at t l e in
      let g = limits-marks (at + 1) m b.1 w in
      record {
        marks = g.marks;
        next = g.next;
        is = rw (b.0, g.is);
        rest = g.rest;
        in-s = g.in-s;
        judged = as_said g.judged itself itself plain-table;
      }
  desc-marks at m e (AnyDesc.memories w) = as-marked (limits-marks at m e w) itself itself plain-memory
  desc-marks at m e (AnyDesc.globals {r = r} {t = t} {m = x}) =
      let b = byte_reads s size at t (x ∷ r) e in
      let c = byte_reads s size (at + 1) x r b.1 in
      record {
        marks = with_flag m x;
        next = at + 1 + 1;
        is = rw (b.0, c.0);
        rest = c.1;
        in-s = (byte-in s (at + 1) x (at + 1 + 1) c.0).in-s;
        judged = as_said (plains m x) itself itself plain-global;
      }

  import-marks : {l r : List ℕ} {v : ImportSaid} (at : ℕ) (m : Marks) → drop at s ≡ l → (x : AnyImport l v r)
      → Marked (import_marks s at m) m (ShortImport x) (Unit {0}) (PlainImport v) r
  unfolding import_marks onward PlainImport
  import-marks at m e (imported {k = k} {kind = kind} a b d) =
      let x = name-marks at m e a in
      let y = name-marks x.next x.marks x.rest b in
      let z = byte_reads s size y.next kind k y.rest in
      let o = desc-marks (y.next + 1) y.marks z.1 d in
      let j = as_said (after y.judged o.judged) itself no_more right in
      record {
        marks = o.marks;
        next = o.next;
        is = rw (x.is, y.is, z.0, o.is);
        rest = o.rest;
        in-s = o.in-s;
        judged = as_said (after x.judged j) three no_more right;
      }

  export-marks : {l r : List ℕ} {v : ExportSaid} (at : ℕ) (m : Marks) → drop at s ≡ l → (x : AnyExport l v r)
      → Marked (export_marks s at m) m (ShortExport x) (Unit {0}) (Unit {0}) r
  unfolding export_marks onward
  export-marks at m e (exported {m = l} {kind = kind} a n) =
      let x = name-marks at m e a in
      let z = byte_reads s size x.next kind l x.rest in
      let o = number-marks (x.next + 1) x.marks z.1 n in
      record {
        marks = o.marks;
        next = o.next;
        is = rw (x.is, z.0, o.is);
        rest = o.rest;
        in-s = o.in-s;
        judged = as_said (after x.judged o.judged) itself no_more no_more;
      }

  symbol-marks : {l r : List ℕ} {v : FunctionOf} (at : ℕ) (m : Marks) → drop at s ≡ l → (x : AnyAssoc l v r)
      → Marked (symbol_marks s at m) m (ShortAssoc x) (Unit {0}) (Unit {0}) r
  unfolding symbol_marks onward
  symbol-marks at m e (assoc n a) =
      let x = number-marks at m e n in
      let o = name-marks x.next x.marks x.rest a in
      record {
        marks = o.marks;
        next = o.next;
        is = rw (x.is, o.is);
        rest = o.rest;
        in-s = o.in-s;
        judged = as_said (after x.judged o.judged) itself no_more no_more;
      }

  -- ---- runs of entries
  module _ {X : Type 0} {B : List ℕ → X → List ℕ → Type 0} (Q : (l r : List ℕ) (v : X) → B l v r → Type 0) (P : X → Type 0)
      (read : ℕ → Marks → Said (Got Marks))
      (one : (at : ℕ) (m : Marks) (l r : List ℕ) (v : X) → drop at s ≡ l → (x : B l v r)
      → Marked (read at m) m (Q l r v x) (Unit {0}) (P v) r)
    where
      many-marks : {n : ℕ} {l r : List ℕ} {vs : List X} (at : ℕ) (m : Marks) → drop at s ≡ l → at ≤ length s → (w : Many B n l vs r)
          → Marked (run_from read n at m) m (EveryMany Q w) (Unit {0}) (Each P vs) r
      unfolding run_from EveryMany onward
      many-marks at m e h none =
          record {
            marks = m;
            next = at;
            is = refl;
            rest = e;
            in-s = h;
            judged = as_said (nothing m) itself itself (λ u. each_nil, λ p. tt);
          }
      many-marks at m e h (more {l = l} {m = j} {v = v} x w) =
          let a = one at m l j v e x in
          let b = many-marks a.next a.marks a.rest a.in-s w in
          record {
            marks = b.marks;
            next = b.next;
            is = rw (a.is, b.is);
            rest = b.rest;
            in-s = b.in-s;
            judged = as_said (after a.judged b.judged) itself no_more (λ u. each-cons u.0 u.1, apart);
          }
        where
          apart : {v : X} {vs : List X} → Each P (v ∷ vs) → P v × Each P vs
          apart (each-cons p ps) = (p, ps)

      -- a count, then so many, at the start of s
      counted-marks : {m r : List ℕ} {n : ℕ} {vs : List X} (k : Marks) (u : Number s n m) (w : Many B n m vs r)
          → Marked (onward (u32_at s 0) (λ count at. run_from read count at (with_number k at))) k (ShortNumber u × EveryMany Q w) (Unit {0})
          (Each P vs) r
      unfolding onward
      counted-marks {n = n} k u w =
          let q = number-reads 0 refl u in
          let z : 0 + taken u ≡ taken u = omega arith in
          let o = many-marks (0 + taken u) (with_number k (0 + taken u)) q.1 (u32-in s 0 n (0 + taken u) q.0).0.in-s w in
          let j : Judged k (with_number k (0 + taken u)) (ShortNumber u) (Unit {0}) (Unit {0}) =
          subst (λ (i : ℕ). Judged k (with_number k i) (ShortNumber u) (Unit {0}) (Unit {0})) (sym z) (shortens k (taken u)) in
          record {
            marks = o.marks;
            next = o.next;
            is = rw q.0 o.is;
            rest = o.rest;
            in-s = o.in-s;
            judged = as_said (after j o.judged) itself no_more right;
          }

  always : {X : Type 0} {vs : List X} → Each (λ (v : X). Unit {0}) vs ↔ Unit {0}
  always {X} {vs} = (λ p. tt, λ u. all vs)
    where
      all : (vs : List X) → Each (λ (v : X). Unit {0}) vs
      all [] = each_nil
      all (v ∷ vs) = each-cons tt (all vs)

  pub imports-marks : {r : List ℕ} {vs : List ImportSaid} (k : Marks) (w : Counted AnyImport s vs r)
      → Marked (run_marks 2 s k) k (ShortImports w) (Unit {0}) (Each PlainImport vs) r
  unfolding run_marks entry_marks
  imports-marks k (counted n w) =
      counted-marks (λ l r v x. ShortImport x) PlainImport (entry_marks 2 s) (λ at m l r v e x. import-marks at m e x) k n w

  pub exports-marks : {r : List ℕ} {vs : List ExportSaid} (k : Marks) (w : Counted AnyExport s vs r)
      → Marked (run_marks 7 s k) k (ShortExports w) (Unit {0}) (Unit {0}) r
  unfolding run_marks entry_marks
  exports-marks k (counted n w) =
      as-marked (counted-marks (λ l r v x. ShortExport x) (λ v. Unit {0}) (entry_marks 7 s) (λ at m l r v e x. export-marks at m e x) k n w)
      itself itself always

  pub assocs-marks : {r : List ℕ} {vs : List FunctionOf} (k : Marks) (w : Counted AnyAssoc s vs r)
      → Marked (run_marks 1 s k) k (ShortAssocs w) (Unit {0}) (Unit {0}) r
  unfolding run_marks entry_marks
  assocs-marks k (counted n w) =
      as-marked (counted-marks (λ l r v x. ShortAssoc x) (λ v. Unit {0}) (entry_marks 1 s) (λ at m l r v e x. symbol-marks at m e x) k n w)
      itself itself always
