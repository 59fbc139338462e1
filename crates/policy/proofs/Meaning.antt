-- The ranges that the port's reader keeps hold what the text's meaning says. Assumes nothing.
use mathlib.Core.Path.{◌≡◌, refl, sym, ap, ◌∙◌}
use mathlib.Core.Bool.{Bool, true, false}
use mathlib.Core.List.{List, [], ◌∷◌, ◌++◌, map, append-nil, append_assoc}
use Prim.Native.Nat.{ℕ, zero, suc, ◌+◌, ◌≤◌, ◌<◌}
use native.Mathlib.Omega.{arith}
use native.Mathlib.Nat.{not-suc-le-zero}
use lib.Dec.{eqb, ltb}
use lib.ListN.{length, take, drop, set, length-append, take-append-drop}
use lib.Seq.{length-take-le, take_at, drop_at}
use borrow.Author.Tests.{ltb-true}
use Rattle.refusal.specs.Pick.{pick}
use Rattle.refusal.specs.Said.{Said, accepted, refused, follow}
use Rattle.text.specs.Find.{index_of, begins, same}
use Rattle.text.specs.Chars.{chars_from, chars}
use Rattle.text.specs.Trim.{start_len, end_len, trim_start, trim_end, trim_of}
use Rattle.text.specs.Lines.{line_len, line_step}
use Rattle.text.proofs.CharLaws.{start-long}
use Rattle.text.proofs.LineLaws.{line-bounds}
use Rattle.domains.specs.Domain.{Perhaps, nothing, just, domain_of}
use Rattle.text.specs.Piece.{fore, Piece, first, beyond, trim, shorn}
use Rattle.policy.specs.Piece.{until, past_byte, bare, quotes, lines_from, lines_of}
use Rattle.policy.specs.Directive.{policy_w, default_w, allow_w, deny_w, allow, deny, Directive, blank, wrong, called, preset, plain}
use Rattle.policy.specs.Directive.{listed, defaulted, plain_by, listed_by, rule_directive, policy_worded, policy_spoken}
use Rattle.policy.specs.Directive.{policy_core, policy_directive, fault}
use Rattle.policy.specs.Reader.{run, read_with, slot, stance_of, zero_policy, obey, read_policy}
use Rattle.policy.specs.View.{RuleView, ruling, PolicyView, split, commas, full, tokens, no_name, first_view, heed, meaning}
use Rattle.policy.specs.View.{range, rule_of}
use Rattle.policy.specs.declared.Slot.{Slot}
use Rattle.policy.specs.declared.Policy.{Policy}
use Rattle.text.specs.Whole.{whole_text}
use Rattle.policy.proofs.Quotes.{quotes-le}
use Rattle.text.proofs.PieceLaws.{begins-le}
use Rattle.policy.proofs.Lines.{step_less, EachPiece, none, more, lines_next}

-- what a policy says, over its own list of rules
unfoldable pub view : List ℕ → Policy → PolicyView
view s v =
    record {
      name = pick v.named (range s v.start v.size) no_name;
      permit = v.permit;
      rules = map (rule_of s) v.rules;
    }

-- ---- a piece that stands in the text where it says
pub record PartOf (s : List ℕ) (p : Piece) : Type 0 where
  pub fore : List ℕ
  pub aft : List ℕ
  pub same : s ≡ fore ++ (p.bytes ++ aft)
  pub place : length fore ≡ p.at

pub part-range : (s : List ℕ) (p : Piece) → PartOf s p → range s p.at (length p.bytes) ≡ p.bytes
part-range s p q = rw q.same
    (rw (drop_at q.fore (p.bytes ++ q.aft) p.at q.place) (take_at p.bytes q.aft (length p.bytes) refl))

part-first : (s : List ℕ) (n : ℕ) (p : Piece) → PartOf s p → PartOf s (first n p)
part-first s n p q =
    let b = p.bytes in
    let e : b ++ q.aft ≡ take n b ++ (drop n b ++ q.aft) = rw (← append_assoc (take n b) (drop n b) q.aft, take-append-drop n b) in
    record { fore = q.fore; aft = drop n b ++ q.aft; same = q.same ∙ ap (λ (l : List ℕ). q.fore ++ l) e; place = q.place }

part-beyond : (s : List ℕ) (n : ℕ) (p : Piece) → n ≤ length p.bytes → PartOf s p → PartOf s (beyond n p)
part-beyond s n p h q =
    let b = p.bytes in
    let e : b ++ q.aft ≡ take n b ++ (drop n b ++ q.aft) = rw (← append_assoc (take n b) (drop n b) q.aft, take-append-drop n b) in
    record {
      fore = q.fore ++ take n b;
      aft = q.aft;
      same = q.same ∙ ap (λ (l : List ℕ). q.fore ++ l) e
          ∙ sym (append_assoc q.fore (take n b) (drop n b ++ q.aft));
      place =
          omega (arith, q.place, length-append q.fore (take n b), length-take-le n b h);
    }

part-trim : (s : List ℕ) (p : Piece) → PartOf s p → PartOf s (trim p)
unfolding trim
part-trim s p q =
    part-first s (trim_end (fore p).bytes) (fore p) (part-beyond s (trim_start p.bytes) p (start-long p.bytes) q)

part-bare : (s : List ℕ) (p : Piece) → PartOf s p → PartOf s (bare p)
unfolding bare
part-bare s p q =
    let b = beyond (quotes p.bytes) p in
    part-first s (shorn 34 b.bytes) b (part-beyond s (quotes p.bytes) p (quotes-le p.bytes) q)

-- ---- a directive's pieces
pub data Within (s : List ℕ) : Directive → Type 0 where
  w-blank : Within s blank
  w-wrong : {k : ℕ} → Within s (wrong k)
  w-called : {p : Piece} → PartOf s p → Within s (called p)
  w-preset : {t : Bool} → Within s (preset t)
  w-plain : {t : Bool} {d : ℕ} → Within s (plain t d)
  w-listed : {t : Bool} {d : ℕ} {p : Piece} → PartOf s p → Within s (listed t d p)

module _ (s : List ℕ) where
  choose : (t : Bool) (a b : Directive) → (t ≡ true → Within s a) → (t ≡ false → Within s b) → Within s (pick t a b)
  choose true a b f g = f refl
  choose false a b f g = g refl

  plain_in : (t : Bool) (d : Perhaps) → Within s (plain_by t d)
  unfolding plain_by
  plain_in t nothing = w-wrong
  plain_in t (just d) = w-plain

  listed_in : (t : Bool) (d : Perhaps) (p : Piece) → PartOf s p → Within s (listed_by t d p)
  unfolding listed_by
  listed_in t nothing p q = w-wrong
  listed_in t (just d) p q = w-listed q

  ruled-in : (t : Bool) (b : Piece) → PartOf s b → Within s (rule_directive t b)
  unfolding rule_directive
  ruled-in t b q =
      let i = index_of 58 b.bytes in
      choose (ltb i (length b.bytes)) _ _
      (λ e. listed_in t (domain_of (trim (until 58 b)).bytes) (past_byte 58 b)
      (part-beyond s (i + 1) b (omega (arith, ltb-true i (length b.bytes) e)) q))
      (λ e. plain_in t (domain_of (trim b).bytes))

  defaulted-in : (l : List ℕ) → Within s (defaulted l)
  unfolding defaulted
  defaulted-in l = choose (same allow l) _ _ (λ e. w-preset) (λ e. choose (same deny l) _ _ (λ e. w-preset) (λ e. w-wrong))

  worded-in : (c : Piece) → PartOf s c → Within s (policy_worded c)
  unfolding policy_worded
  worded-in c q =
      choose (begins policy_w c.bytes) _ _
      (λ e. w-called (part-bare s (trim (beyond 7 c)) (part-trim s (beyond 7 c) (part-beyond s 7 c (begins-le policy_w c.bytes e) q))))
      (λ e. choose (begins default_w c.bytes) _ _
      (λ e. defaulted-in (trim (beyond 8 c)).bytes)
      (λ e. choose (begins allow_w c.bytes) _ _
      (λ e. ruled-in true (beyond 6 c) (part-beyond s 6 c (begins-le allow_w c.bytes e) q))
      (λ e. choose (begins deny_w c.bytes) _ _
      (λ e. ruled-in false (beyond 5 c) (part-beyond s 5 c (begins-le deny_w c.bytes e) q))
      (λ e. w-wrong))))

  pub directive-in : (p : Piece) → PartOf s p → Within s (policy_directive p)
  unfolding policy_directive policy_spoken policy_core
  directive-in p q =
      choose (eqb (length (policy_core p).bytes) 0) _ _ (λ e. w-blank)
      (λ e. worded-in (policy_core p) (part-trim s (until 35 p) (part-first s (index_of 35 p.bytes) p q)))

  -- ---- the lines
  part-line : (at : ℕ) (r : List ℕ) → PartOf s (record { at = at; bytes = r })
      → (0 < length r → EachPiece (PartOf s) (lines_from (at + line_step r) 0 (drop (line_step r) r)))
      → EachPiece (PartOf s) (lines_from at 0 r)
  part-line at [] q ih = unfold lines_from in none
  part-line at (x ∷ r) q ih = rw (lines_next at (x ∷ r) (omega arith))
      (more (part-first s (line_len (x ∷ r)) (record { at = at; bytes = x ∷ r }) q) (ih (omega arith)))

  part_step : (at : ℕ) (r : List ℕ) → 0 < length r → PartOf s (record { at = at; bytes = r })
      → PartOf s (record { at = at + line_step r; bytes = drop (line_step r) r })
  part_step at r k q = let b = line-bounds r 0 k in part-beyond s (line_step r) (record { at = at; bytes = r }) (omega (arith, b.next)) q

  part_none : (at : ℕ) (r : List ℕ) → length r ≤ 0 → EachPiece (PartOf s) (lines_from at 0 r)
  unfolding lines_from
  part_none at [] h = none
  part_none at (x ∷ r) h = absurd (not-suc-le-zero h)

  part-lines : (n at : ℕ) (r : List ℕ) → length r ≤ n → PartOf s (record { at = at; bytes = r }) → EachPiece (PartOf s) (lines_from at 0 r)
  part-lines zero at r h q = part_none at r h
  part-lines (suc n) at r h q =
      part-line at r q (λ k. part-lines n (at + line_step r) (drop (line_step r) r) (step_less n r h k) (part_step at r k q))

  pub lines-in : EachPiece (PartOf s) (lines_of s)
  unfolding lines_of
  lines-in = part-lines (length s) 0 s (omega arith) (record { fore = []; aft = []; same = sym (append-nil s); place = refl })

  -- ---- the policy's view
  map-set : (f : Slot → RuleView) (l : List Slot) (i : ℕ) (a : Slot) → map f (set l i a) ≡ set (map f l) i (f a)
  map-set f [] i a = refl
  map-set f (x ∷ l) zero a = refl
  map-set f (x ∷ l) (suc i) a = ap (λ (m : List RuleView). f x ∷ m) (map-set f l i a)

  slot-rule : (t : Bool) (a n : ℕ) → rule_of s (slot (stance_of t) a n) ≡ ruling t (tokens (range s a n))
  unfolding rule_of stance_of
  slot-rule true a n = refl
  slot-rule false a n = refl

  no-tokens : tokens [] ≡ []
  unfolding tokens commas split full trim_of trim_start trim_end start_len end_len chars chars_from
  no-tokens = refl

  obey-view : (d : Directive) (v : Policy) → Within s d → view s (obey d v) ≡ heed d (view s v)
  unfolding obey heed view
  obey-view blank v w = refl
  obey-view (wrong k) v w = refl
  obey-view (called p) v (w-called q) = rw (part-range s p q)
  obey-view (preset t) v w = refl
  obey-view (plain t d) v w = rw (map-set (rule_of s) v.rules d (slot (stance_of t) 0 0), slot-rule t 0 0, no-tokens)
  obey-view (listed t d p) v (w-listed q) =
      rw (
        map-set (rule_of s) v.rules d (slot (stance_of t) p.at (length p.bytes)),
        slot-rule t p.at (length p.bytes),
        part-range s p q,
      )

module _ {A B : Type 0} (f : A → B) where
  abbrev pub map_said : Said A → Said B
  map_said (accepted a) = accepted (f a)
  map_said (refused k n) = refused k n

module _ (s : List ℕ) where
  run-view : (n : ℕ) (v : Policy) (ps : List Piece) → EachPiece (PartOf s) ps
      → map_said (view s) (run obey n v ps) ≡ run heed n (view s v) ps
  unfolding run
  run-view n v [] none = refl
  run-view n v (p ∷ ps) (more q qs) = by (fault (policy_directive p)) refl (run-view (n + 1) (obey (policy_directive p) v) ps qs)
    where
      by : (k : ℕ) → fault (policy_directive p) ≡ k → map_said (view s) (run obey (n + 1) (obey (policy_directive p) v) ps) ≡ run heed (n + 1)
          (view s (obey (policy_directive p) v)) ps
          → map_said (view s) (run obey n v (p ∷ ps)) ≡ run heed n (view s v) (p ∷ ps)
      by zero e ih = rw (e, run) (ih ∙ rw (obey-view s (policy_directive p) v (directive-in s p q)))
      by (suc k) e ih = rw (e, run)

  zero-view : view s zero_policy ≡ first_view
  unfolding view zero_policy first_view rule_of
  zero-view = refl

  -- what the port's policy says is what the text means
  pub policy-means : map_said (view s) (read_policy s) ≡ meaning s
  unfolding read_policy meaning read_with follow
  policy-means = by (whole_text s)
    where
      by : (x : Said (Unit {0}))
          → map_said (view s) (follow x (λ ok. run obey 1 zero_policy (lines_of s))) ≡ follow x (λ ok. run heed 1 first_view (lines_of s))
      by (accepted ok) = run-view 1 zero_policy (lines_of s) (lines-in s) ∙ rw zero-view
      by (refused k n) = refl
