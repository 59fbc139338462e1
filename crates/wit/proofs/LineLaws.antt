-- What a line says, from what the code's calls found. Assumes nothing.
use Rattle.std.specs.Prelude.{Some, None}
use Rattle.std.specs.Char.{is_ascii_whitespace}
use Rattle.std.specs.List.{starts_with}
use Rattle.std.specs.Cmp.Lexicographic.{pointwise}
use Rattle.std.proofs.lemmas.Bool.Decides.{nat_tests}
use mathlib.Core.Path.{◌≡◌, refl, sym, ap, ◌∙◌}
use mathlib.Core.Bool.{Bool, true, false, ◌&&◌}
use mathlib.Core.List.{List, [], ◌∷◌}
use Prim.Native.Nat.{ℕ, suc, ◌+◌, ◌-◌, ◌≤◌, ◌<◌}
use native.Mathlib.Omega.{arith}
use lib.Dec.{eqb, ltb}
use lib.ListN.{length, get_or, drop}
use borrow.Author.Tests.{eq-eqb, ne_eqb, lt-ltb, le-ltb}
use Rattle.refusal.specs.Pick.{pick, both}
use Rattle.refusal.specs.declared.Part.{Part}
use Rattle.text.specs.Find.{seek, begins, same, index_of2}
use Rattle.text.proofs.Laws.{left-next, left-none}
use Rattle.text.specs.Piece.{Piece, first, beyond, trim, shorn, bytes_between, piece, TrimTo}
use Rattle.text.proofs.PieceLaws.{piece-long, first_piece, beyond-piece, shorn-le, begins-le}
use Rattle.wit.specs.Line.{package_w, world_w, import_w, export_w, lone, part_of, unbraced, is_space, ends, splits}
use Rattle.wit.specs.Line.{boundary, reference_of, manifest_worded, manifest_core, manifest_spoken, manifest_directive}
use Rattle.wit.specs.declared.line.Directive.TheVariants.{Blank, Package, World, Close, Refer, Brace, Other}

-- ---- where a signature is split off
space-is : (b : ℕ) → is_ascii_whitespace b ≡ is_space b
unfolding is_space
space-is b = grind (arith, nat_tests)

module _ (s : List ℕ) (i : ℕ) (h : i < length s) where
  pub splits-other : (get_or s i 0 ≡ 58 → ⊥) → false ≡ splits (drop i s)
  unfolding splits
  splits-other e = rw (left-next s i h, ne_eqb _ _ e)

  pub splits-next : get_or s i 0 ≡ 58 → i + 1 < length s → is_ascii_whitespace (get_or s (i + 1) 0) ≡ splits (drop i s)
  unfolding splits ends
  splits-next e k = space-is (get_or s (i + 1) 0) ∙ sym (rw (left-next s i h, eq-eqb _ _ e, left-next s (i + 1) k))

  pub splits_last : get_or s i 0 ≡ 58 → length s ≤ i + 1 → true ≡ splits (drop i s)
  unfolding splits ends
  splits_last e k = rw (left-next s i h, eq-eqb _ _ e, left-none s (i + 1) k)

-- a place is within the text, or at its end
seek-le : (p : List ℕ → Bool) (s : List ℕ) → seek p s ≤ length s
unfolding seek
seek-le p [] = omega arith
seek-le p (x ∷ s) = by (p (x ∷ s)) (seek-le p s) where
  by : (t : Bool) → seek p s ≤ length s → pick t 0 (suc (seek p s)) ≤ suc (length s)
  by true h = omega arith
  by false h = omega arith

pub boundary-le : (s : List ℕ) → boundary s ≤ length s
unfolding boundary
boundary-le s = seek-le splits s

pub pair-le : (a b : ℕ) (s : List ℕ) → index_of2 a b s ≤ length s
unfolding index_of2
pair-le a b s = seek-le (begins (a ∷ b ∷ [])) s

-- ---- the library's comparisons, by the words of the specs
both-is : (a b : Bool) → (a && b) ≡ both a b
both-is true b = refl
both-is false b = refl

turned : (x y : ℕ) → eqb x y ≡ eqb y x
turned x y = grind (arith, nat_tests)

starts-begins : (w s : List ℕ) → starts_with eqb s w ≡ begins w s
unfolding begins
starts-begins [] s = refl
starts-begins (c ∷ w) [] = refl
starts-begins (c ∷ w) (x ∷ s) = rw (turned c x, starts-begins w s) (both-is (eqb x c) (begins w s))

equal-same : (w s : List ℕ) → pointwise eqb s w ≡ same w s
unfolding same
equal-same [] [] = refl
equal-same [] (x ∷ s) = refl
equal-same (c ∷ w) [] = refl
equal-same (c ∷ w) (x ∷ s) = rw (equal-same w s) (both-is (eqb x c) (same w s))

pub starts-as : (w s : List ℕ) {r t : Bool} → r ≡ starts_with eqb s w → r ≡ t → begins w s ≡ t
starts-as w s e q = sym (starts-begins w s) ∙ sym e ∙ q

pub equal-as : (w s : List ℕ) {v : List ℕ} {r t : Bool} → v ≡ w → r ≡ pointwise eqb s v → r ≡ t → same w s ≡ t
equal-as w s i e q = sym (equal-same w s) ∙ ap (pointwise eqb s) (sym i) ∙ sym e ∙ q

module _ (s : List ℕ) (a e : ℕ) where
  -- ---- ranges
  pub part-piece : e ≤ length s → ◌≡◌ {A = Part} (record { from = a; len = e - a }) (part_of (piece s a e))
  part-piece l = rw (piece-long s a e l)

  pub part-trim : (f g : ℕ) → TrimTo s a e f g → e ≤ length s
      → ◌≡◌ {A = Part} (record { from = f; len = g - f }) (part_of (trim (piece s a e)))
  part-trim f g t l =
      let n = piece-long s f g (omega (arith, t.high)) in
      let q : ◌≡◌ {A = Part} (record { from = f; len = g - f }) (part_of (piece s f g)) = rw n in
      q ∙ ap part_of (sym t.same)

  -- ---- without the braces
  pub unbraced-is : (n : ℕ) → e ≤ length s → n ≡ shorn 123 (bytes_between s a e)
      → (n ≤ e - a) × (unbraced (piece s a e) ≡ trim (piece s a (a + n)))
  unfolding unbraced
  unbraced-is n l q =
      let b : n ≤ e - a = omega (arith, q, shorn-le 123 (bytes_between s a e), piece-long s a e l) in
      (b, ap (λ (m : ℕ). trim (first m (piece s a e))) (sym q) ∙ ap trim (first_piece s a e n b))

  pub bare-is : (f w g b c : ℕ) → TrimTo s a e f w → unbraced (piece s f w) ≡ trim (piece s f g) → TrimTo s f g b c
      → unbraced (trim (piece s a e)) ≡ piece s b c
  bare-is f w g b c t u v = ap unbraced t.same ∙ u ∙ v.same

  -- ---- a reference
  module _ (i : ℕ) (l : e ≤ length s) (q : i ≡ boundary (bytes_between s a e)) (out : Bool) where
    pub split-far : a + i < e → (p r : Part) → p ≡ part_of (trim (piece s a (a + i))) → r ≡ part_of (trim (piece s (a + i + 1) e))
        → Refer out p (Some r) ≡ reference_of out (piece s a e)
    unfolding reference_of
    split-far h p r u v =
        let n = piece-long s a e l in
        let c : ltb (boundary (bytes_between s a e)) (length (bytes_between s a e)) ≡ true =
        lt-ltb (boundary (bytes_between s a e)) (length (bytes_between s a e)) (omega arith) in
        let z : a + (i + 1) ≡ a + i + 1 = omega arith in
        let x : p ≡ part_of (trim (first (boundary (bytes_between s a e)) (piece s a e))) =
        u ∙ ap (λ (k : Piece). part_of (trim k)) (sym (first_piece s a e i (omega arith)))
        ∙ ap (λ (m : ℕ). part_of (trim (first m (piece s a e)))) q in
        let y : r ≡ part_of (trim (beyond (boundary (bytes_between s a e) + 1) (piece s a e))) =
        v ∙ ap (λ (m : ℕ). part_of (trim (piece s m e))) (sym z)
        ∙ ap (λ (k : Piece). part_of (trim k)) (sym (beyond-piece s a e (i + 1)))
        ∙ ap (λ (m : ℕ). part_of (trim (beyond (m + 1) (piece s a e)))) q in
        rw (c, x, y)

    pub split-none : e ≤ a + i → Refer out (record { from = a; len = e - a }) None ≡ reference_of out (piece s a e)
    unfolding reference_of
    split-none h =
        let n = piece-long s a e l in
        let c : ltb (boundary (bytes_between s a e)) (length (bytes_between s a e)) ≡ false =
        le-ltb (boundary (bytes_between s a e)) (length (bytes_between s a e)) (omega arith) in
        rw (c, n)

  -- ---- the words
  pub word_fits : (w : List ℕ) → e ≤ length s → begins w (bytes_between s a e) ≡ true → length w ≤ e - a
  word_fits w l q = omega (arith, begins-le w (bytes_between s a e) q, piece-long s a e l)

  pub worded-package : (r : Part) → begins package_w (bytes_between s a e) ≡ true → r ≡ part_of (trim (piece s (a + 8) e))
      → Package r ≡ manifest_worded (piece s a e)
  unfolding manifest_worded
  worded-package r p q = rw (p, q) (ap (λ (x : Piece). Package (part_of (trim x))) (sym (beyond-piece s a e 8)))

  module _ (p : begins package_w (bytes_between s a e) ≡ false) where
    pub worded-world : (r : Part) (m : ℕ) → begins world_w (bytes_between s a e) ≡ true
        → unbraced (piece s (a + 6) e) ≡ trim (piece s (a + 6) m) → r ≡ part_of (trim (piece s (a + 6) m))
        → World r ≡ manifest_worded (piece s a e)
    unfolding manifest_worded
    worded-world r m w u q =
        rw (p, w, q) (ap (λ (x : Piece). World (part_of x)) (sym u)
        ∙ ap (λ (x : Piece). World (part_of (unbraced x))) (sym (beyond-piece s a e 6)))

    module _ (w : begins world_w (bytes_between s a e) ≡ false) where
      pub worded-close : same (lone 125) (bytes_between s a e) ≡ true → Close ≡ manifest_worded (piece s a e)
      unfolding manifest_worded
      worded-close c = rw (p, w, c)

      module _ (c : same (lone 125) (bytes_between s a e) ≡ false) where
        pub worded-import : begins import_w (bytes_between s a e) ≡ true
            → reference_of false (unbraced (trim (piece s (a + 7) e))) ≡ manifest_worded (piece s a e)
        unfolding manifest_worded
        worded-import i = rw (p, w, c, i) (ap (λ (x : Piece). reference_of false (unbraced (trim x))) (sym (beyond-piece s a e 7)))

        module _ (i : begins import_w (bytes_between s a e) ≡ false) where
          pub worded-export : begins export_w (bytes_between s a e) ≡ true
              → reference_of true (unbraced (trim (piece s (a + 7) e))) ≡ manifest_worded (piece s a e)
          unfolding manifest_worded
          worded-export o =
              rw (p, w, c, i, o) (ap (λ (x : Piece). reference_of true (unbraced (trim x))) (sym (beyond-piece s a e 7)))

          pub worded-brace : begins export_w (bytes_between s a e) ≡ false → same (lone 123) (bytes_between s a e) ≡ true
              → Brace ≡ manifest_worded (piece s a e)
          unfolding manifest_worded
          worded-brace o b = rw (p, w, c, i, o, b)

          pub worded-other : begins export_w (bytes_between s a e) ≡ false → same (lone 123) (bytes_between s a e) ≡ false
              → Other ≡ manifest_worded (piece s a e)
          unfolding manifest_worded
          worded-other o b = rw (p, w, c, i, o, b)

  -- ---- the line
  module _ (i f g : ℕ) (l : e ≤ length s) (q : i ≡ index_of2 47 47 (bytes_between s a e)) (t : TrimTo s a (a + i) f g) where
    comment-fits : i ≤ e - a
    comment-fits = omega (arith, q, pair-le 47 47 (bytes_between s a e), piece-long s a e l)

    core_is : manifest_core (piece s a e) ≡ piece s f g
    unfolding manifest_core
    core_is =
        let u : first (index_of2 47 47 (bytes_between s a e)) (piece s a e)
        ≡ piece s a (a + i) = ap (λ (m : ℕ). first m (piece s a e)) (sym q)
        ∙ first_piece s a e i comment-fits in
        ap trim u ∙ t.same

    long : a ≤ e → length (bytes_between s f g) ≡ g - f
    long j = piece-long s f g (omega (arith, t.high, comment-fits))

    pub directive-some : a ≤ e → f < g → manifest_worded (piece s f g) ≡ manifest_directive (piece s a e)
    unfolding manifest_directive manifest_spoken
    directive-some j k =
        let c : eqb (length (bytes_between s f g)) 0 ≡ false = ne_eqb (length (bytes_between s f g)) 0 (λ z. omega (arith, long j)) in
        sym (ap manifest_spoken core_is ∙ rw c)

    pub directive-none : a ≤ e → g ≤ f → Blank ≡ manifest_directive (piece s a e)
    unfolding manifest_directive manifest_spoken
    directive-none j k =
        let c : eqb (length (bytes_between s f g)) 0 ≡ true = eq-eqb (length (bytes_between s f g)) 0 (omega (arith, long j)) in
        sym (ap manifest_spoken core_is ∙ rw c)
