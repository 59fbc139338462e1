-- The parts that a line gives: each is trimmed, within its line and outside its comment. Assumes nothing.
use Rattle.std.specs.Prelude.{Some, None}
use Rattle.std.proofs.lemmas.Option.{same_Some, none-some}
use mathlib.Core.Path.{◌≡◌, refl, sym, ap, ◌∙◌, subst}
use mathlib.Core.Bool.{Bool, true, false, false≢true}
use mathlib.Core.List.{List, [], ◌∷◌}
use Prim.Native.Nat.{ℕ, zero, suc, ◌+◌, ◌-◌, ◌≤◌, ◌<◌}
use native.Mathlib.Omega.{arith}
use lib.Dec.{eqb, ltb}
use lib.ListN.{length, take, drop, length-take, length-drop}
use lib.Seq.{take-take}
use borrow.Author.Tests.{ltb-true, ltb-false, eq-eqb}
use Rattle.refusal.specs.Pick.{pick}
use Rattle.refusal.specs.declared.Part.{Part}
use Rattle.text.specs.Find.{seek, begins, same, index_of, index_of2}
use Rattle.text.specs.Lines.{line_len, end_by, cr_before}
use Rattle.text.specs.Trim.{trim_start, trim_end, trim_of}
use Rattle.text.proofs.Laws.{both_one, both-two}
use Rattle.text.proofs.CharLaws.{end-long, start-long}
use Rattle.text.proofs.LineLaws.{line-bounds}
use Rattle.text.proofs.TrimLaws.{trim-twice}
use Rattle.text.specs.Piece.{Piece, first, beyond, trim, shorn, bytes_between, piece}
use Rattle.text.proofs.PieceLaws.{piece-long, first_piece, beyond-piece, trim-bytes, shorn-le, begins-le}
use Rattle.wit.specs.Line.{package_w, world_w, import_w, export_w, lone, part_of, unbraced, boundary, reference_of}
use Rattle.wit.specs.Line.{manifest_worded, manifest_core, manifest_spoken, manifest_directive}
use Rattle.wit.specs.Manifest.{line_piece}
use Rattle.wit.specs.Sound.{bytes_in, Clean, MarkClean}
use Rattle.wit.specs.declared.line.Directive.{Directive}
use Rattle.wit.specs.declared.line.Directive.TheVariants.{Blank, Package, World, Close, Refer, Brace, Other}
use Rattle.wit.proofs.LineLaws.{boundary-le, pair-le}

-- ---- a word that does not occur
-- the test of a picked place: not here, and not further on
not-here : (t : Bool) (k n : ℕ) → pick t 0 (suc k) ≡ suc n → (t ≡ false) × (k ≡ n)
not-here true k n e = absurd (omega arith)
not-here false k n e = (refl, omega arith)

absent-drop : (p : List ℕ → Bool) (n : ℕ) (l : List ℕ) → seek p l ≡ length l → seek p (drop n l) ≡ length (drop n l)
unfolding seek
absent-drop p zero l e = e
absent-drop p (suc n) [] e = e
absent-drop p (suc n) (x ∷ l) e = absent-drop p n l (not-here (p (x ∷ l)) (seek p l) (length l) e).1

-- a text of which a part begins so begins so
begins-more : (w : List ℕ) (n : ℕ) (l : List ℕ) → begins w (take n l) ≡ true → begins w l ≡ true
unfolding begins
begins-more [] n l e = refl
begins-more (c ∷ w) zero l e = absurd (false≢true e)
begins-more (c ∷ w) (suc n) [] e = absurd (false≢true e)
begins-more (c ∷ w) (suc n) (x ∷ l) e =
    rw (both_one (eqb x c) (begins w (take n l)) e) (begins-more w n l (both-two (eqb x c) (begins w (take n l)) e))

-- so where the whole does not begin so, a part that has a first byte does not
begins-less : (w : List ℕ) (n x : ℕ) (l : List ℕ) → begins w (x ∷ l) ≡ false → begins w (x ∷ take n l) ≡ false
begins-less w n x l e = by (begins w (x ∷ take n l)) refl where
  by : (t : Bool) → begins w (x ∷ take n l) ≡ t → t ≡ false
  by true q = absurd (false≢true (sym e ∙ begins-more w (suc n) (x ∷ l) q))
  by false q = refl

module _ (w : List ℕ) where
  absent-take : (n : ℕ) (l : List ℕ) → seek (begins w) l ≡ length l → seek (begins w) (take n l) ≡ length (take n l)
  unfolding seek
  absent-take zero l e = refl
  absent-take (suc n) [] e = refl
  absent-take (suc n) (x ∷ l) e =
      let q = not-here (begins w (x ∷ l)) (seek (begins w) l) (length l) e in
      rw (begins-less w n x l q.0) (ap suc (absent-take n l q.1))

  -- before the first place there is none
  absent-before : (l : List ℕ) → seek (begins w) (take (seek (begins w) l) l) ≡ length (take (seek (begins w) l) l)
  unfolding seek
  absent-before [] = refl
  absent-before (x ∷ l) = by (absent-before l) (begins w (x ∷ l)) refl where
    by : seek (begins w) (take (seek (begins w) l) l) ≡ length (take (seek (begins w) l) l) → (t : Bool) → begins w (x ∷ l) ≡ t
        → seek (begins w) (take (pick t 0 (suc (seek (begins w) l))) (x ∷ l))
        ≡ length (take (pick t 0 (suc (seek (begins w) l))) (x ∷ l))
    by ih true q = refl
    by ih false q = rw (begins-less w (seek (begins w) l) x l q) (ap suc ih)

-- ---- a piece of the text that holds no LF and no `//`
pub record Sub (s : List ℕ) (p : Piece) : Type 0 where
  pub from : ℕ
  pub past : ℕ
  pub low : from ≤ past
  pub high : past ≤ length s
  pub is : p ≡ piece s from past
  pub no_line : index_of 10 p.bytes ≡ length p.bytes
  pub no-comment : index_of2 47 47 p.bytes ≡ length p.bytes

module _ {s : List ℕ} {p : Piece} (h : Sub s p) where
  long : length p.bytes ≡ h.past - h.from
  long = ap (λ (q : Piece). length q.bytes) h.is ∙ piece-long s h.from h.past h.high

  sub-first : (n : ℕ) → n ≤ length p.bytes → Sub s (first n p)
  unfolding index_of index_of2
  sub-first n k =
      record {
        from = h.from;
        past = h.from + n;
        low = omega arith;
        high = omega (arith, long, h.low, h.high);
        is = ap (first n) h.is ∙ first_piece s h.from h.past n (omega (arith, long));
        no_line = absent-take (10 ∷ []) n p.bytes h.no_line;
        no-comment = absent-take (47 ∷ 47 ∷ []) n p.bytes h.no-comment;
      }

  sub-beyond : (n : ℕ) → n ≤ length p.bytes → Sub s (beyond n p)
  unfolding index_of index_of2
  sub-beyond n k =
      record {
        from = h.from + n;
        past = h.past;
        low = omega (arith, long, h.low);
        high = h.high;
        is = ap (beyond n) h.is ∙ beyond-piece s h.from h.past n;
        no_line = absent-drop (begins (10 ∷ [])) n p.bytes h.no_line;
        no-comment = absent-drop (begins (47 ∷ 47 ∷ [])) n p.bytes h.no-comment;
      }

  -- where it stands
  standing : bytes_in s (part_of p) ≡ p.bytes
  standing =
      ap (λ (q : Piece). bytes_in s (part_of q)) h.is
      ∙ ap (λ (n : ℕ). take n (drop h.from s)) (piece-long s h.from h.past h.high)
      ∙ ap (λ (q : Piece). q.bytes) (sym h.is)

  part_in : p.at + length p.bytes ≤ length s
  part_in = omega (arith, long, ap (λ (q : Piece). q.at) h.is, h.low, h.high)

sub-trim : {s : List ℕ} {p : Piece} → Sub s p → Sub s (trim p)
unfolding trim
sub-trim {s} {p} h =
    let a = sub-beyond h (trim_start p.bytes) (start-long p.bytes) in
    sub-first a (trim_end (drop (trim_start p.bytes) p.bytes)) (end-long (drop (trim_start p.bytes) p.bytes))

-- trimmed, it is a clean range
clean : {s : List ℕ} {p : Piece} → Sub s p → trim_of p.bytes ≡ p.bytes → Clean s (part_of p)
clean {s} {p} h e =
    record {
      in-text = part_in h;
      trimmed = subst (λ (b : List ℕ). trim_of b ≡ b) (sym (standing h)) e;
      no_line = subst (λ (b : List ℕ). index_of 10 b ≡ length b) (sym (standing h)) h.no_line;
      no-comment = subst (λ (b : List ℕ). index_of2 47 47 b ≡ length b) (sym (standing h)) h.no-comment;
    }

clean-trim : {s : List ℕ} {p : Piece} → Sub s p → Clean s (part_of (trim p))
clean-trim {s} {p} h =
    clean (sub-trim h) (ap trim_of (trim-bytes p) ∙ trim-twice p.bytes ∙ sym (trim-bytes p))

-- ---- what a line says
abbrev pub AllClean : List ℕ → Directive → Type 0
AllClean s Blank = Unit {0}
AllClean s (Package p) = Clean s p
AllClean s (World p) = Clean s p
AllClean s Close = Unit {0}
AllClean s (Refer export path signature) = Clean s path × MarkClean s signature
AllClean s Brace = Unit {0}
AllClean s Other = Unit {0}

choose : (s : List ℕ) (t : Bool) (a b : Directive) → (t ≡ true → AllClean s a) → AllClean s b → AllClean s (pick t a b)
choose s true a b f g = f refl
choose s false a b f g = g

pub mark_set : {s : List ℕ} {p : Part} → Clean s p → MarkClean s (Some p)
mark_set {s} {p} c = record { present = λ q e. subst (Clean s) (same_Some p q e) c }

pub mark-none : {s : List ℕ} → MarkClean s None
mark-none = record { present = λ p e. absurd (none-some p e) }

module _ (s : List ℕ) (p : Piece) (h : Sub s p) where
  unbraced-sub : Sub s (unbraced p)
  unfolding unbraced
  unbraced-sub = sub-trim (sub-first h (shorn 123 p.bytes) (shorn-le 123 p.bytes))

  unbraced-clean : Clean s (part_of (unbraced p))
  unfolding unbraced
  unbraced-clean = clean-trim (sub-first h (shorn 123 p.bytes) (shorn-le 123 p.bytes))

reference-clean : (s : List ℕ) (export : Bool) (p : Piece) → Sub s p → AllClean s (reference_of export (unbraced p))
unfolding reference_of
reference-clean s export p h =
    let r = unbraced p in
    let u = unbraced-sub s p h in
    let n = boundary r.bytes in
    choose s (ltb n (length r.bytes)) _ _
    (λ e. (
      clean-trim (sub-first u n (boundary-le r.bytes)),
      mark_set (clean-trim (sub-beyond u (n + 1) (omega (arith, ltb-true n (length r.bytes) e)))),
    ))
    (unbraced-clean s p h, mark-none)

worded-clean : (s : List ℕ) (c : Piece) → Sub s c → AllClean s (manifest_worded c)
unfolding manifest_worded
worded-clean s c h =
    let word : (w : List ℕ) → begins w c.bytes ≡ true → Sub s (beyond (length w) c) =
    λ w e. sub-beyond h (length w) (begins-le w c.bytes e) in
    choose s (begins package_w c.bytes) _ _ (λ e. clean-trim (word package_w e))
    (choose s (begins world_w c.bytes) _ _ (λ e. unbraced-clean s _ (word world_w e))
    (choose s (same (lone 125) c.bytes) _ _ (λ e. tt)
    (choose s (begins import_w c.bytes) _ _ (λ e. reference-clean s false _ (sub-trim (word import_w e)))
    (choose s (begins export_w c.bytes) _ _ (λ e. reference-clean s true _ (sub-trim (word export_w e)))
    (choose s (same (lone 123) c.bytes) _ _ (λ e. tt) tt)))))

-- ---- a line of the text: its bytes up to LF, then up to `//`
line-take : (r : List ℕ) → line_len r ≤ index_of 10 r
unfolding line_len
line-take r = by (cr_before r (index_of 10 r)) where
  by : (t : Bool) → end_by t (index_of 10 r) ≤ index_of 10 r
  by true = omega arith
  by false = omega arith

no-line-in : (r : List ℕ) → index_of 10 (take (line_len r) r) ≡ length (take (line_len r) r)
unfolding index_of
no-line-in r =
    subst (λ (l : List ℕ). seek (begins (10 ∷ [])) l ≡ length l) (take-take (line_len r) (seek (begins (10 ∷ [])) r) r (line-take r))
    (absent-take (10 ∷ []) (line_len r) (take (seek (begins (10 ∷ [])) r) r) (absent-before (10 ∷ []) r))

uncommented : (s : List ℕ) (at : ℕ) → at < length s
    → Sub s (first (index_of2 47 47 (line_piece s at).bytes) (line_piece s at))
unfolding index_of2 index_of
uncommented s at h =
    let r = drop at s in
    let b = line-bounds s at h in
    let z : at + line_len r - at ≡ line_len r = omega arith in
    let l = piece-long s at (at + line_len r) b.len in
    let m = seek (begins (47 ∷ 47 ∷ [])) (line_piece s at).bytes in
    let k = pair-le 47 47 (line_piece s at).bytes in
    let n : index_of 10 (line_piece s at).bytes ≡ length (line_piece s at).bytes = rw z (no-line-in r) in
    record {
      from = at;
      past = at + m;
      low = omega arith;
      high = omega (arith, b.len, l, k);
      is = first_piece s at (at + line_len r) m (omega (arith, l, k));
      no_line = absent-take (10 ∷ []) m (line_piece s at).bytes n;
      no-comment = absent-before (47 ∷ 47 ∷ []) (line_piece s at).bytes;
    }

-- past the text nothing is said
nothing_said : (s : List ℕ) (at : ℕ) → length s ≤ at → length (manifest_core (line_piece s at)).bytes ≡ 0
unfolding manifest_core trim
nothing_said s at h =
    let b = bytes_between s at (at + line_len (drop at s)) in
    let c = take (index_of2 47 47 b) b in
    let d = drop (trim_start c) c in
    omega (
      arith,
      length-take (trim_end d) d,
      length-drop (trim_start c) c,
      length-take (index_of2 47 47 b) b,
      length-take (at + line_len (drop at s) - at) (drop at s),
      length-drop at s,
    )

core-sub : (s : List ℕ) (at : ℕ) → at < length s → Sub s (manifest_core (line_piece s at))
unfolding manifest_core
core-sub s at h = sub-trim (uncommented s at h)

pub directive-clean : (s : List ℕ) (at : ℕ) → AllClean s (manifest_directive (line_piece s at))
unfolding manifest_directive manifest_spoken
directive-clean s at = by (ltb at (length s)) refl where
  by : (t : Bool) → ltb at (length s) ≡ t
      → AllClean s (pick (eqb (length (manifest_core (line_piece s at)).bytes) 0) Blank (manifest_worded (manifest_core (line_piece s at))))
  by true e = choose s (eqb (length (manifest_core (line_piece s at)).bytes) 0) _ _ (λ q. tt)
      (worded-clean s _ (core-sub s at (ltb-true at (length s) e)))
  by false e =
      rw (eq-eqb (length (manifest_core (line_piece s at)).bytes) 0 (nothing_said s at (ltb-false at (length s) e))) tt
