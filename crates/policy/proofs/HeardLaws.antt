-- What a line says, from what the code's calls found. Assumes nothing.
use mathlib.Core.Path.{◌≡◌, refl, sym, ap, ◌∙◌}
use mathlib.Core.Bool.{Bool, true, false}
use mathlib.Core.List.{List}
use Prim.Native.Nat.{ℕ, ◌+◌, ◌-◌, ◌≤◌, ◌<◌}
use native.Mathlib.Omega.{arith}
use lib.Dec.{eqb, ltb}
use lib.ListN.{length}
use lib.Seq.{length-take-le}
use borrow.Author.Tests.{eq-eqb, ne_eqb, lt-ltb, le-ltb, ltb-true, ltb-false}
use Rattle.refusal.specs.Pick.{pick}
use Rattle.text.specs.Find.{index_of, begins, same}
use Rattle.text.proofs.FindLaws.{index-le}
use Rattle.domains.specs.Domain.{Perhaps, nothing, just, domain_of}
use Rattle.text.specs.Piece.{Piece, first, beyond, trim, shorn, bytes_between, piece, TrimTo}
use Rattle.policy.specs.Piece.{until, past_byte, unquoted_end, bare, quotes}
use Rattle.policy.specs.Directive.{policy_w, default_w, allow_w, deny_w, allow, deny, blank, called, defaulted, plain_by, listed_by}
use Rattle.policy.specs.Directive.{rule_directive, policy_worded, policy_spoken, policy_core, policy_directive}
use Rattle.policy.specs.Heard.{part_of, ranged, named}
use Rattle.policy.specs.Reader.{slot, stance_of}
use Rattle.policy.specs.declared.Stance.{Stance}
use Rattle.refusal.specs.Said.{Place, accepted, refused, spot}
use Rattle.refusal.specs.declared.Part.{Part}
use Rattle.refusal.proofs.Following.{never, one_value}
use Rattle.text.proofs.PieceLaws.{shorn-le, begins-le, piece-long, first_piece, beyond-piece}
use Rattle.policy.specs.declared.reader.Heard.TheVariants as h

module _ (s : List ℕ) (a e : ℕ) where
  pub trim-is-bytes : (f g : ℕ) → TrimTo s a e f g → (trim (piece s a e)).bytes ≡ bytes_between s f g
  trim-is-bytes f g t = ap (λ (p : Piece). p.bytes) t.same

  closed-called : (p : Piece) → part_of (unquoted_end p) ≡ record { from = p.at; len = shorn 34 p.bytes }
  closed-called p = rw (length-take-le (shorn 34 p.bytes) p.bytes (shorn-le 34 p.bytes))

  pub called_is : (f g m n : ℕ) → TrimTo s a e f g → m ≡ quotes (bytes_between s f g) → n ≡ shorn 34 (bytes_between s (f + m) g)
      → ◌≡◌ {A = Part} (record { from = f + m; len = n }) (part_of (bare (trim (piece s a e))))
  unfolding bare
  called_is f g m n t p q =
      let x : beyond (quotes (bytes_between s f g)) (piece s f g)
      ≡ piece s (f + m) g = rw p (beyond-piece s f g (quotes (bytes_between s f g))) in
      let y : part_of (unquoted_end (beyond (quotes (trim (piece s a e)).bytes) (trim (piece s a e)))) ≡ part_of
      (unquoted_end (beyond (quotes (bytes_between s f g)) (piece s f g))) =
      ap (λ (p : Piece). part_of (unquoted_end (beyond (quotes p.bytes) p))) t.same in
      sym (y ∙ ap (λ (p : Piece). part_of (unquoted_end p)) x ∙ closed-called (piece s (f + m) g)
      ∙ ap {B = Part} (λ (k : ℕ). record { from = f + m; len = k }) (sym q))

  -- ---- a default
  module _ (line f g : ℕ) (t : TrimTo s a e f g) where
    pub preset-allow : same allow (bytes_between s f g) ≡ true
        → accepted (h.Preset true) ≡ ranged line (defaulted (trim (piece s a e)).bytes)
    unfolding defaulted
    preset-allow p = rw (trim-is-bytes f g t, p)

    pub preset-deny : same allow (bytes_between s f g) ≡ false → same deny (bytes_between s f g) ≡ true
        → accepted (h.Preset false) ≡ ranged line (defaulted (trim (piece s a e)).bytes)
    unfolding defaulted
    preset-deny p q = rw (trim-is-bytes f g t, p, q)

    pub preset-bad : same allow (bytes_between s f g) ≡ false → same deny (bytes_between s f g) ≡ false
        → refused 7 (spot line) ≡ ranged line (defaulted (trim (piece s a e)).bytes)
    unfolding defaulted
    preset-bad p q = rw (trim-is-bytes f g t, p, q)

  -- ---- a rule
  module _ (i : ℕ) (k : a ≤ e) (l : e ≤ length s) (q : i ≡ index_of 58 (bytes_between s a e)) where
    ruled-far : (t : Bool) → a + i < e → rule_directive t (piece s a e) ≡ listed_by t (domain_of (trim (piece s a (a + i))).bytes)
        (piece s (a + i + 1) e)
    unfolding rule_directive
    ruled-far t b =
        let n = piece-long s a e l in
        let u : until 58 (piece s a e) ≡ piece s a (a + i) = ap (λ (m : ℕ). first m (piece s a e)) (sym q)
        ∙ first_piece s a e i (omega arith) in
        let z : a + (i + 1) ≡ a + i + 1 = omega arith in
        let v : past_byte 58 (piece s a e) ≡ piece s (a + i + 1) e = ap (λ (m : ℕ). beyond (m + 1) (piece s a e)) (sym q)
        ∙ beyond-piece s a e (i + 1) ∙ ap (λ (m : ℕ). piece s m e) z in
        let c : ltb (index_of 58 (bytes_between s a e)) (length (bytes_between s a e)) ≡ true =
        lt-ltb (index_of 58 (bytes_between s a e)) (length (bytes_between s a e)) (omega arith) in
        ap (λ (x : Bool). pick x (listed_by t (domain_of (trim (until 58 (piece s a e))).bytes) (past_byte 58 (piece s a e)))
        (plain_by t (domain_of (trim (piece s a e)).bytes))) c
        ∙ ap (λ (p : Piece). listed_by t (domain_of (trim p).bytes) (past_byte 58 (piece s a e))) u
        ∙ ap (λ (p : Piece). listed_by t (domain_of (trim (piece s a (a + i))).bytes) p) v

    ruled-near : (t : Bool) → e ≤ a + i → rule_directive t (piece s a e) ≡ plain_by t (domain_of (trim (piece s a e)).bytes)
    unfolding rule_directive
    ruled-near t b =
        let n = piece-long s a e l in
        let c : ltb (index_of 58 (bytes_between s a e)) (length (bytes_between s a e)) ≡ false =
        le-ltb (index_of 58 (bytes_between s a e)) (length (bytes_between s a e)) (omega arith) in
        ap (λ (x : Bool). pick x (listed_by t (domain_of (trim (until 58 (piece s a e))).bytes) (past_byte 58 (piece s a e)))
        (plain_by t (domain_of (trim (piece s a e)).bytes))) c

  module _ (line : ℕ) (t : Bool) where
    listed-wrong : (d : Perhaps) (p : Piece) {m : ℕ} {x : Place} → named line d ≡ refused m x → refused m x ≡ ranged line (listed_by t d p)
    unfolding listed_by
    listed-wrong nothing p q = cc
    listed-wrong (just d) p q = absurd (never (sym q))

    plain-wrong : (d : Perhaps) {m : ℕ} {x : Place} → named line d ≡ refused m x → refused m x ≡ ranged line (plain_by t d)
    unfolding plain_by
    plain-wrong nothing q = cc
    plain-wrong (just d) q = absurd (never (sym q))

    listed-right : (d : Perhaps) (p : Piece) {n b len : ℕ} {x : Stance} → x ≡ stance_of t → b ≡ p.at → len ≡ length p.bytes
        → named line d ≡ accepted n → accepted (h.Ruled n (slot x b len)) ≡ ranged line (listed_by t d p)
    unfolding listed_by
    listed-right nothing p x b l q = absurd (never q)
    listed-right (just d) p x b l q = let z = one_value q in rw (x, b, l, z)

    plain-right : (d : Perhaps) {n : ℕ} {x : Stance} → x ≡ stance_of t → named line d ≡ accepted n
        → accepted (h.Ruled n (slot x 0 0)) ≡ ranged line (plain_by t d)
    unfolding plain_by
    plain-right nothing x q = absurd (never q)
    plain-right (just d) x q = let z = one_value q in rw (x, z)

  -- ---- a rule, by what its domain is: c is where its `:` stands, or its end
  module _ (c : ℕ) (k : a ≤ e) (l : e ≤ length s) (q : c ≡ a + index_of 58 (bytes_between s a e)) where
    at-most : a + index_of 58 (bytes_between s a e) ≤ e
    at-most = omega (arith, index-le 58 (bytes_between s a e), piece-long s a e l)

    abbrev pub domain : Perhaps
    domain = domain_of (trim (piece s a c)).bytes

    far : (t : Bool) → c < e → rule_directive t (piece s a e) ≡ listed_by t domain (piece s (c + 1) e)
    far t b =
        let i = index_of 58 (bytes_between s a e) in
        ruled-far i k l refl t (omega arith) ∙ rw q

    near : (t : Bool) → e ≤ c → rule_directive t (piece s a e) ≡ plain_by t domain
    near t b =
        let i = index_of 58 (bytes_between s a e) in
        let z : c ≡ e = omega (arith, at-most) in
        ruled-near i k l refl t (omega arith) ∙ rw z

    module _ (line : ℕ) (t : Bool) where
      pub ruled-wrong : {m : ℕ} {x : Place} → named line domain ≡ refused m x → refused m x ≡ ranged line (rule_directive t (piece s a e))
      ruled-wrong {m} {x} n = by (ltb c e) refl
        where
          by : (r : Bool) → ltb c e ≡ r → refused m x ≡ ranged line (rule_directive t (piece s a e))
          by true r = listed-wrong line t domain (piece s (c + 1) e) n ∙ sym (ap (ranged line) (far t (ltb-true c e r)))
          by false r = plain-wrong line t domain n ∙ sym (ap (ranged line) (near t (ltb-false c e r)))

      pub ruled-listed : {n : ℕ} {x : Stance} → c < e → x ≡ stance_of t → named line domain ≡ accepted n
          → accepted (h.Ruled n (slot x (c + 1) (e - (c + 1)))) ≡ ranged line (rule_directive t (piece s a e))
      ruled-listed b x n =
          listed-right line t domain (piece s (c + 1) e) x refl (sym (piece-long s (c + 1) e l)) n ∙ sym (ap (ranged line) (far t b))

      pub ruled-plain : {n : ℕ} {x : Stance} → e ≤ c → x ≡ stance_of t → named line domain ≡ accepted n
          → accepted (h.Ruled n (slot x 0 0)) ≡ ranged line (rule_directive t (piece s a e))
      ruled-plain b x n = plain-right line t domain x n ∙ sym (ap (ranged line) (near t b))

  -- ---- the words
  pub word_fits : (w : List ℕ) → e ≤ length s → begins w (bytes_between s a e) ≡ true → length w ≤ e - a
  word_fits w l q = omega (arith, begins-le w (bytes_between s a e) q, piece-long s a e l)

  module _ (line : ℕ) (p : begins policy_w (bytes_between s a e) ≡ false) where
    module _ (q : begins default_w (bytes_between s a e) ≡ false) where
      pub worded-allow : begins allow_w (bytes_between s a e) ≡ true
          → ranged line (policy_worded (piece s a e)) ≡ ranged line (rule_directive true (piece s (a + 6) e))
      unfolding policy_worded
      worded-allow r = rw (p, q, r) (ap (λ (x : Piece). ranged line (rule_directive true x)) (beyond-piece s a e 6))

      pub worded-deny : begins allow_w (bytes_between s a e) ≡ false → begins deny_w (bytes_between s a e) ≡ true
          → ranged line (policy_worded (piece s a e)) ≡ ranged line (rule_directive false (piece s (a + 5) e))
      unfolding policy_worded
      worded-deny r o = rw (p, q, r, o) (ap (λ (x : Piece). ranged line (rule_directive false x)) (beyond-piece s a e 5))

      pub worded-wrong : begins allow_w (bytes_between s a e) ≡ false → begins deny_w (bytes_between s a e) ≡ false
          → ranged line (policy_worded (piece s a e)) ≡ refused 6 (spot line)
      unfolding policy_worded
      worded-wrong r o = rw (p, q, r, o)

    pub worded-default : begins default_w (bytes_between s a e) ≡ true
        → ranged line (policy_worded (piece s a e)) ≡ ranged line (defaulted (trim (piece s (a + 8) e)).bytes)
    unfolding policy_worded
    worded-default q = rw (p, q) (ap (λ (x : Piece). ranged line (defaulted (trim x).bytes)) (beyond-piece s a e 8))

  pub worded-name : (line : ℕ) → begins policy_w (bytes_between s a e) ≡ true
      → ranged line (policy_worded (piece s a e)) ≡ accepted (h.Called (part_of (bare (trim (piece s (a + 7) e)))))
  unfolding policy_worded
  worded-name line p = rw p (ap (λ (x : Piece). ranged line (called (bare (trim x)))) (beyond-piece s a e 7))

  -- ---- the line
  module _ (i f g : ℕ) (l : e ≤ length s) (q : i ≡ index_of 35 (bytes_between s a e)) (t : TrimTo s a (a + i) f g) where
    core_is : policy_core (piece s a e) ≡ piece s f g
    unfolding policy_core
    core_is =
        let n = piece-long s a e l in
        let b = index-le 35 (bytes_between s a e) in
        let u : until 35 (piece s a e) ≡ piece s a (a + i) = ap (λ (m : ℕ). first m (piece s a e)) (sym q)
        ∙ first_piece s a e i (omega arith) in
        ap trim u ∙ t.same

    hash-fits : i ≤ e - a
    hash-fits = omega (arith, q, index-le 35 (bytes_between s a e), piece-long s a e l)

    pub directive-some : a ≤ e → f < g → policy_directive (piece s a e) ≡ policy_worded (piece s f g)
    unfolding policy_directive policy_spoken
    directive-some j k =
        let n = piece-long s f g (omega (arith, t.high, hash-fits)) in
        let c : eqb (length (bytes_between s f g)) 0 ≡ false = ne_eqb (length (bytes_between s f g)) 0 (λ z. omega arith) in
        ap policy_spoken core_is ∙ rw c

    pub directive-none : a ≤ e → g ≤ f → policy_directive (piece s a e) ≡ blank
    unfolding policy_directive policy_spoken
    directive-none j k =
        let n = piece-long s f g (omega (arith, t.high, hash-fits)) in
        let c : eqb (length (bytes_between s f g)) 0 ≡ true = eq-eqb (length (bytes_between s f g)) 0 (omega arith) in
        ap policy_spoken core_is ∙ rw c
