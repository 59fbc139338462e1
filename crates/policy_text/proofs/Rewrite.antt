-- The round trip, of what `read_policy` and `write_policy` promise. Assumes nothing.
use mathlib.Core.Path.{◌≡◌, refl, sym, ap, ◌∙◌}
use mathlib.Core.List.{map, List, [], ◌∷◌}
use Prim.Native.Nat.{ℕ, zero, suc, ◌+◌, ◌≤◌}
use native.Mathlib.Omega.{arith}
use lib.ListN.{length, get_or, length-set}
use Rattle.refusal.specs.Said.{Said, accepted, refused, spot, follow}
use Rattle.refusal.proofs.Following.{followed}
use Rattle.refusal.specs.Pick.{pick}
use Rattle.refusal.specs.Sizes.{text_limit}
use Rattle.text.specs.Piece.{Piece}
use Rattle.policy.specs.Piece.{lines_of}
use Rattle.policy.specs.Directive.{Directive, blank, wrong, called, preset, plain, listed, policy_directive, fault}
use Rattle.policy.specs.Reader.{run, read_with, slot, stance_of, zero_policy, obey, read_policy}
use Rattle.policy.specs.View.{rule_of, PolicyView, range, no_name, RuleView, seven, says, meaning}
use Rattle.policy.specs.Eight.{no_slot}
use Rattle.policy.specs.declared.Slot.{Slot}
use Rattle.policy.specs.declared.Policy.{Policy}
use Rattle.text.specs.Whole.{whole_text}
use Rattle.policy.proofs.Meaning.{view, map_said, policy-means}
use Rattle.policy.proofs.Fitting.{read-tested}
use Rattle.verdicts.specs.Evaluate.{effective_of}
use Rattle.output.specs.Bytes.{room_for}
use Rattle.policy_text.specs.Token.{tokens_in, all_tokens}
use Rattle.policy_text.specs.Claims.{Rewritten, RoundTrip}
use Rattle.policy_text.specs.Writer.{form, written}
use Rattle.policy_text.proofs.Trip.{round_trip}

-- ---- THE ROUND TRIP of the port's policies
pub record Again (s : List ℕ) (p : Policy) (o : List ℕ) : Type 0 where
  pub policy : Policy
  pub read : read_policy o ≡ accepted policy
  pub same : view o policy ≡ view s p
  pub form : form (view o policy) ≡ o

pub reread : (s : List ℕ) (p : Policy) → read_policy s ≡ accepted p → length (form (view s p)) ≤ text_limit → Again s p (form (view s p))
reread s p e h =
    let m : meaning s ≡ accepted (view s p) = sym (policy-means s) ∙ ap (map_said (view s)) e in
    let o = form (view s p) in
    let b : map_said (view o) (read_policy o) ≡ accepted (view s p) = policy-means o ∙ round_trip s (view s p) m h in
    by (read_policy o) refl b
  where
    by : (r : Said Policy) → read_policy (form (view s p)) ≡ r → map_said (view (form (view s p))) r ≡ accepted (view s p)
        → Again s p (form (view s p))
    by (accepted q) e b = let z : view (form (view s p)) q ≡ view s p = cc in record { policy = q; read = e; same = z; form = ap form z }
    by (refused k n) e b = absurd (let z : ◌≡◌ {A = ℕ} 0 1 = cc in omega arith)

-- ---- of what the promises cite
firsts : List Slot → List Slot
firsts xs =
    get_or xs 0 no_slot ∷ get_or xs 1 no_slot ∷ get_or xs 2 no_slot ∷ get_or xs 3 no_slot ∷ get_or xs 4 no_slot ∷ get_or xs 5 no_slot ∷ get_or xs 6
    no_slot ∷ []

seven-same : (xs : List Slot) → length xs ≡ 7 → firsts xs ≡ xs
unfolding firsts
seven-same [] e = absurd (omega arith)
seven-same (a ∷ []) e = absurd (omega arith)
seven-same (a ∷ b ∷ []) e = absurd (omega arith)
seven-same (a ∷ b ∷ c ∷ []) e = absurd (omega arith)
seven-same (a ∷ b ∷ c ∷ d ∷ []) e = absurd (omega arith)
seven-same (a ∷ b ∷ c ∷ d ∷ f ∷ []) e = absurd (omega arith)
seven-same (a ∷ b ∷ c ∷ d ∷ f ∷ g ∷ []) e = absurd (omega arith)
seven-same (a ∷ b ∷ c ∷ d ∷ f ∷ g ∷ h ∷ []) e = refl
seven-same (a ∷ b ∷ c ∷ d ∷ f ∷ g ∷ h ∷ i ∷ xs) e = absurd (omega arith)

obey-long : (d : Directive) (v : Policy) → length (obey d v).rules ≡ length v.rules
unfolding obey
obey-long blank v = refl
obey-long (wrong k) v = refl
obey-long (called p) v = refl
obey-long (preset t) v = refl
obey-long (plain t d) v = length-set v.rules d (slot (stance_of t) 0 0)
obey-long (listed t d p) v = length-set v.rules d (slot (stance_of t) p.at (length p.bytes))

run_long : (n : ℕ) (v w : Policy) (ps : List Piece) → length v.rules ≡ 7 → run obey n v ps ≡ accepted w → length w.rules ≡ 7
unfolding run
run_long n v w [] l e = let z : v ≡ w = cc in rw z at l
run_long n v w (p ∷ ps) l e = by (fault (policy_directive p)) refl
    (run_long (n + 1) (obey (policy_directive p) v) w ps (obey-long (policy_directive p) v ∙ l))
  where
    by : (k : ℕ) → fault (policy_directive p) ≡ k → (run obey (n + 1) (obey (policy_directive p) v) ps ≡ accepted w → length w.rules ≡ 7)
        → length w.rules ≡ 7
    by zero q ih = ih (rw (q, run) at e)
    by (suc k) q ih =
        let b : refused (suc k) (spot n) ≡ accepted w = rw (q, run) at e in
        absurd (let z : ◌≡◌ {A = ℕ} 0 1 = cc in omega arith)

pub read-seven : (s : List ℕ) (p : Policy) → read_policy s ≡ accepted p → length p.rules ≡ 7
unfolding read_policy read_with
read-seven s p e =
    let f = followed (whole_text s) (λ ok. run obey 1 zero_policy (lines_of s)) e in
    run_long 1 zero_policy p (lines_of s) (unfold zero_policy in refl) f.then

pub says-view : (s : List ℕ) (p : Policy) → length p.rules ≡ 7 → says s p ≡ view s p
unfolding says view seven firsts
says-view s p e =
    ap (λ (xs : List Slot). rules_as (map (rule_of s) xs)) (seven-same p.rules e)
  where
    rules_as : List RuleView → PolicyView
    rules_as rs = record { name = pick p.named (range s p.start p.size) no_name; permit = p.permit; rules = rs }

-- a policy as the reader gave it is never refused 15: the writer writes it where there is room, and its tokens are listed
module _ (s : List ℕ) (p : Policy) (is : read_policy s ≡ accepted p) where
  pub written_read : (room : ℕ) → written s p room ≡ room_for (form (says s p)) room
  unfolding written follow
  written_read room = rw (read-tested s p is)

  pub listed-read : (d : ℕ)
      → all_tokens s p d ≡ accepted (tokens_in s (effective_of p d).from ((effective_of p d).from + (effective_of p d).len))
  unfolding all_tokens follow
  listed-read d = rw (read-tested s p is)

pub rewriting : (s : List ℕ) (p : Policy) → read_policy s ≡ accepted p → length (form (says s p)) ≤ text_limit
    → Rewritten s p (form (says s p))
rewriting s p e h =
    let v = says-view s p (read-seven s p e) in
    let a : Again s p (form (view s p)) = reread s p e (rw v at h) in
    let o = form (view s p) in
    let w : says o a.policy ≡ view o a.policy = says-view o a.policy (read-seven o a.policy a.read) in
    let r : Rewritten s p o =
    record {
      policy = a.policy;
      read = a.read;
      same = w ∙ a.same ∙ sym v;
      again = λ room. written_read o a.policy a.read room ∙ ap (λ (x : List ℕ). room_for x room) (ap form w ∙ a.form);
    } in
    rw v r

pub round-trips : RoundTrip
round-trips = record { rewriting = rewriting; written_read = written_read; listed-read = listed-read }
