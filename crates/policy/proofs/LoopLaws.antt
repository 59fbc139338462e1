-- The loop over the lines. Assumes nothing.
use Rattle.refusal.proofs.Following.{never, one_value}
use mathlib.Core.Path.{◌≡◌, refl, sym, ap, ◌∙◌}
use mathlib.Core.Bool.{Bool, true, false}
use mathlib.Core.List.{List, ◌∷◌}
use Prim.Native.Nat.{ℕ, zero, suc, ◌+◌, ◌-◌, ◌≤◌, ◌<◌}
use native.Mathlib.Omega.{arith}
use lib.Dec.{eqb, ltb}
use lib.ListN.{length, drop, length-drop}
use lib.Seq.{drop-drop}
use Rattle.refusal.specs.Pick.{pick}
use Rattle.refusal.specs.Said.{Said, Place, accepted, refused, spot}
use Rattle.text.specs.Find.{index_of, begins, same}
use Rattle.text.specs.Lines.{line_len, line_step}
use Rattle.text.proofs.Laws.{left-none}
use Rattle.policy.specs.Reader.{run, obey}
use Rattle.domains.specs.Domain.{Perhaps, nothing, just, domain_of}
use Rattle.text.specs.Piece.{Piece, beyond, trim, piece}
use Rattle.policy.specs.Piece.{until, past_byte, bare, lines_from}
use Rattle.policy.specs.Directive.{policy_w, default_w, allow_w, deny_w, allow, deny, Directive, blank, wrong, called, preset, plain}
use Rattle.policy.specs.Directive.{listed, defaulted, plain_by, listed_by, rule_directive, policy_worded, policy_spoken}
use Rattle.policy.specs.Directive.{policy_core, policy_directive, fault}
use Rattle.policy.specs.Heard.{ranged, obeyed, Small}
use Rattle.policy.specs.declared.reader.Heard.{Heard}
use Rattle.policy.specs.declared.Policy.{Policy}
use Rattle.domains.proofs.DomainLaws.{domain-small, no, yes}
use Rattle.policy.proofs.Lines.{lines_next}
use Rattle.domains.proofs.DomainLaws as domain-laws

-- ---- faults are 6, 7, 8 and domains below 7
abbrev Fine : Directive → Type 0
Fine blank = 0 ≤ 0
Fine (wrong k) = (6 ≤ k) × (k ≤ 8)
Fine (called p) = 0 ≤ 0
Fine (preset t) = 0 ≤ 0
Fine (plain t d) = d < 7
Fine (listed t d p) = d < 7

choose : (t : Bool) (a b : Directive) → Fine a → Fine b → Fine (pick t a b)
choose true a b f g = f
choose false a b f g = g

plain-small : (t : Bool) (d : Perhaps) → domain-laws.Small d → Fine (plain_by t d)
unfolding plain_by
plain-small t nothing no = omega arith
plain-small t (just d) (yes k) = k

listed_small : (t : Bool) (d : Perhaps) (p : Piece) → domain-laws.Small d → Fine (listed_by t d p)
unfolding listed_by
listed_small t nothing p no = omega arith
listed_small t (just d) p (yes k) = k

ruled-small : (t : Bool) (b : Piece) → Fine (rule_directive t b)
unfolding rule_directive
ruled-small t b =
    choose (ltb (index_of 58 b.bytes) (length b.bytes)) (listed_by t (domain_of (trim (until 58 b)).bytes) (past_byte 58 b))
    (plain_by t (domain_of (trim b).bytes))
    (listed_small t (domain_of (trim (until 58 b)).bytes) (past_byte 58 b) (domain-small (trim (until 58 b)).bytes))
    (plain-small t (domain_of (trim b).bytes) (domain-small (trim b).bytes))

defaulted-small : (s : List ℕ) → Fine (defaulted s)
unfolding defaulted
defaulted-small s = choose (same allow s) (preset true) (pick (same deny s) (preset false) (wrong 7)) (omega arith)
    (choose (same deny s) (preset false) (wrong 7) (omega arith) (omega arith))

worded-small : (c : Piece) → Fine (policy_worded c)
unfolding policy_worded
worded-small c =
    choose (begins policy_w c.bytes) (called (bare (trim (beyond 7 c))))
    (pick (begins default_w c.bytes) (defaulted (trim (beyond 8 c)).bytes)
    (pick (begins allow_w c.bytes) (rule_directive true (beyond 6 c))
    (pick (begins deny_w c.bytes) (rule_directive false (beyond 5 c)) (wrong 6))))
    (omega arith)
    (choose (begins default_w c.bytes) (defaulted (trim (beyond 8 c)).bytes)
    (pick (begins allow_w c.bytes) (rule_directive true (beyond 6 c))
    (pick (begins deny_w c.bytes) (rule_directive false (beyond 5 c)) (wrong 6)))
    (defaulted-small (trim (beyond 8 c)).bytes)
    (choose (begins allow_w c.bytes) (rule_directive true (beyond 6 c))
    (pick (begins deny_w c.bytes) (rule_directive false (beyond 5 c)) (wrong 6))
    (ruled-small true (beyond 6 c))
    (choose (begins deny_w c.bytes) (rule_directive false (beyond 5 c)) (wrong 6) (ruled-small false (beyond 5 c)) (omega arith))))

directive-small : (p : Piece) → Fine (policy_directive p)
unfolding policy_directive policy_spoken
directive-small p = choose (eqb (length (policy_core p).bytes) 0) blank (policy_worded (policy_core p)) (omega arith)
    (worded-small (policy_core p))

-- ---- what a line says, by the directive that it is
module _ (n : ℕ) where
  heard-fault : (d : Directive) {x : Heard} → ranged n d ≡ accepted x → fault d ≡ 0
  unfolding fault
  heard-fault blank e = refl
  heard-fault (wrong k) e = absurd (never e)
  heard-fault (called p) e = refl
  heard-fault (preset t) e = refl
  heard-fault (plain t d) e = refl
  heard-fault (listed t d p) e = refl

  heard-obeyed : (d : Directive) {x : Heard} (v : Policy) → ranged n d ≡ accepted x → obeyed x v ≡ obey d v
  unfolding obey
  heard-obeyed blank v e = rw (← one_value e)
  heard-obeyed (wrong k) v e = absurd (never e)
  heard-obeyed (called p) v e = rw (← one_value e)
  heard-obeyed (preset t) v e = rw (← one_value e)
  heard-obeyed (plain t d) v e = rw (← one_value e)
  heard-obeyed (listed t d p) v e = rw (← one_value e)

  heard-small : (d : Directive) {x : Heard} → Fine d → ranged n d ≡ accepted x → Small x
  heard-small blank f e = rw (← one_value e) f
  heard-small (wrong k) f e = absurd (never e)
  heard-small (called p) f e = rw (← one_value e) f
  heard-small (preset t) f e = rw (← one_value e) f
  heard-small (plain t d) f e = rw (← one_value e) f
  heard-small (listed t d p) f e = rw (← one_value e) f

  -- a fault is that of the directive, and no number 0
  faulty : (d : Directive) {m : ℕ} {p : Place} → ranged n d ≡ refused m p → ◌≡◌ {A = Said Policy} (refused (fault d) (spot n)) (refused m p)
  unfolding fault
  faulty blank e = absurd (never (sym e))
  faulty (wrong k) e = cc
  faulty (called p) e = absurd (never (sym e))
  faulty (preset t) e = absurd (never (sym e))
  faulty (plain t d) e = absurd (never (sym e))
  faulty (listed t d p) e = absurd (never (sym e))

  fault-some : (d : Directive) {m : ℕ} {p : Place} → Fine d → ranged n d ≡ refused m p → fault d ≡ 0 → ⊥
  unfolding fault
  fault-some blank f e z = absurd (never (sym e))
  fault-some (wrong k) f e z = omega arith
  fault-some (called p) f e z = absurd (never (sym e))
  fault-some (preset t) f e z = absurd (never (sym e))
  fault-some (plain t d) f e z = absurd (never (sym e))
  fault-some (listed t d p) f e z = absurd (never (sym e))

-- ---- a turn of the loop
module _ (s : List ℕ) (at n : ℕ) (v : Policy) where
  abbrev pub line-here : Piece
  line-here = piece s at (at + line_len (drop at s))

  abbrev pub left : Said Policy
  left = run obey n v (lines_from at 0 (drop at s))

  next_here : at < length s → lines_from at 0 (drop at s) ≡ line-here ∷ lines_from (at + line_step (drop at s)) 0
      (drop (at + line_step (drop at s)) s)
  next_here k =
      let r = drop at s in
      let z : at + line_len r - at ≡ line_len r = omega arith in
      lines_next at r (omega (arith, length-drop at s)) ∙ rw (z, drop-drop (line_step r) at s)

  pub run_on : at < length s → fault (policy_directive line-here) ≡ 0
      → left ≡ run obey (n + 1) (obey (policy_directive line-here) v)
      (lines_from (at + line_step (drop at s)) 0 (drop (at + line_step (drop at s)) s))
  unfolding run
  run_on k e = rw (next_here k) (rw (e, run))

  pub run-stop : (k : ℕ) → at < length s → (k ≡ 0 → ⊥) → fault (policy_directive line-here) ≡ k → left ≡ refused k (spot n)
  run-stop zero b z e = absurd (z refl)
  run-stop (suc k) b z e = unfold run in rw (next_here b) (rw (e, run))

  pub run_end : length s ≤ at → left ≡ accepted v
  unfolding run lines_from
  run_end k = rw (left-none s at k)

-- ---- a turn, by what the calls found
module _ (s : List ℕ) (at n e next : ℕ) (ke : e ≡ at + line_len (drop at s)) (kx : next ≡ at + line_step (drop at s)) where
  abbrev heard : Said Heard
  heard = ranged n (policy_directive (piece s at e))

  pub turn_small : {x : Heard} → heard ≡ accepted x → Small x
  turn_small q = heard-small n (policy_directive (piece s at e)) (directive-small (piece s at e)) q

  pub turn-stop : (v : Policy) {m : ℕ} {p : Place} → at < length s → heard ≡ refused m p
      → refused m p ≡ run obey n v (lines_from at 0 (drop at s))
  turn-stop v b q =
      let d = policy_directive (piece s at e) in
      let z = fault-some n d (directive-small (piece s at e)) q in
      sym (run-stop s at n v (fault d) b z (ap (λ (m : ℕ). fault (policy_directive (piece s at m))) (sym ke)) ∙ faulty n d q)

  pub turn_on : {x : Heard} (v w : Policy) → at < length s → heard ≡ accepted x → w ≡ obeyed x v
      → run obey n v (lines_from at 0 (drop at s)) ≡ run obey (n + 1) w (lines_from next 0 (drop next s))
  turn_on v w b q p =
      let d = policy_directive (piece s at e) in
      let z : fault (policy_directive (piece s at (at + line_len (drop at s)))) ≡ 0 =
      ap (λ (m : ℕ). fault (policy_directive (piece s at m))) (sym ke) ∙ heard-fault n d q in
      let o : obey (policy_directive (piece s at (at + line_len (drop at s)))) v ≡ w =
      ap (λ (m : ℕ). obey (policy_directive (piece s at m)) v) (sym ke) ∙ sym (p ∙ heard-obeyed n d v q) in
      run_on s at n v b z
      ∙ ap (λ (y : Policy). run obey (n + 1) y (lines_from (at + line_step (drop at s)) 0 (drop (at + line_step (drop at s)) s))) o
      ∙ ap (λ (m : ℕ). run obey (n + 1) w (lines_from m 0 (drop m s))) (sym kx)
