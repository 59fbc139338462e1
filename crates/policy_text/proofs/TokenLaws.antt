-- The tokens of a list, one after another. Assumes nothing.
use mathlib.Core.Path.{◌≡◌, refl, sym, ap, ◌∙◌}
use mathlib.Core.Bool.{Bool, true, false}
use mathlib.Core.List.{List, [], ◌∷◌}
use Prim.Native.Nat.{ℕ, zero, suc, ◌+◌, ◌-◌, ◌≤◌, ◌<◌, min, max}
use native.Mathlib.Omega.{arith}
use native.Mathlib.Nat.{add-zero, suc-add, add-suc}
use native.Mathlib.Numerals.{add-one}
use lib.Dec.{ltb}
use lib.ListN.{length, take, drop, length-drop}
use lib.Seq.{take_all}
use borrow.Author.Tests.{eq-eqb, ne_eqb, lt-ltb, le-ltb, ltb-true, ltb-false}
use Rattle.refusal.specs.Pick.{pick}
use Rattle.refusal.specs.Said.{Said, accepted, follow}
use Rattle.refusal.specs.declared.Part.{Part}
use Rattle.text.specs.Find.{index_of}
use Rattle.text.specs.Trim.{trimmed}
use Rattle.text.proofs.FindLaws.{index-le}
use Rattle.text.specs.Piece.{Piece, bytes_between}
use Rattle.policy.specs.Eight.{SlotsFit, slot_of, policy_test}
use Rattle.domains.specs.Domain.{domain_number}
use Rattle.verdicts.specs.Evaluate.{effective_of}
use Rattle.domains.specs.declared.Domain.{Domain}
use Rattle.verdicts.specs.declared.Rule.{Rule}
use Rattle.policy.specs.declared.Policy.{Policy}
use Rattle.policy.specs.declared.Stance.{Stance}
use Rattle.policy.specs.declared.Stance.TheVariants.{None, Allow, Deny}
use Rattle.domains.proofs.DomainLaws.{number_small}
use Rattle.policy.proofs.EightLaws.{tested}
use Rattle.text.proofs.PieceLaws.{piece-long, first_piece, beyond-piece, trim-is}
use Rattle.policy_text.specs.Token.{Found, nothing, token, before_comma, step, token_from, clamp_to, token_in, next_token}

-- ---- at the front of a list
skips : (at k : ℕ) (s : List ℕ) → token_from at k s ≡ token_from (at + k) 0 (drop k s)
unfolding token_from
skips at zero s = rw (add-zero at)
skips at (suc k) [] = refl
skips at (suc k) (x ∷ s) = skips (suc at) k s ∙ rw (suc-add at k, add-suc at k)

pub empty-part : (at : ℕ) (s : List ℕ) → 0 < length s → (trimmed (before_comma s)).len ≡ 0
    → token_from at 0 s ≡ token_from (at + (index_of 44 s + 1)) 0 (drop (index_of 44 s + 1) s)
empty-part at [] h e = absurd (omega arith)
empty-part at (x ∷ s) h e =
    let i = index_of 44 (x ∷ s) in
    let z : token_from at 0 (x ∷ s) ≡ token_from (suc at) i s = unfold token_from in rw (eq-eqb (trimmed (before_comma (x ∷ s))).len 0 e) in
    z ∙ skips (suc at) i s ∙ rw (add-one i, suc-add at i, add-suc at i)

pub some-part : (at : ℕ) (s : List ℕ) → 0 < length s → ((trimmed (before_comma s)).len ≡ 0 → ⊥)
    → token_from at 0 s ≡ token (at + (trimmed (before_comma s)).from) (trimmed (before_comma s)).len (at + step s)
unfolding token_from
some-part at [] h e = absurd (omega arith)
some-part at (x ∷ s) h e = rw (ne_eqb (trimmed (before_comma (x ∷ s))).len 0 e)

-- ---- a turn of the loop: the part at i, and what was found in it
module _ (s : List ℕ) (i e : ℕ) (more : i < e) (inside : e ≤ length s) (k : ℕ) (at : k ≡ index_of 44 (bytes_between s i e)) where
  pub comma-near : i + k ≤ e
  comma-near = omega (arith, index-le 44 (bytes_between s i e), piece-long s i e inside)

  some : 0 < length (bytes_between s i e)
  some = omega (arith, piece-long s i e inside)

  part-is : before_comma (bytes_between s i e) ≡ bytes_between s i (i + k)
  part-is =
      let z = comma-near in
      ap (λ (n : ℕ). take n (bytes_between s i e)) (sym at) ∙ ap (λ (p : Piece). p.bytes) (first_piece s i e k (omega arith))

  module _ (t : Part) (found : t ≡ trimmed (bytes_between s i (i + k))) where
    trims : trimmed (before_comma (bytes_between s i e)) ≡ t
    trims = ap trimmed part-is ∙ sym found

    pub token-near : i + t.from + t.len ≤ i + k
    token-near = let z = comma-near in (trim-is s i (i + k) t (omega arith) (omega arith) found).high

    pub token-next : t.len ≡ 0 → token_from i 0 (bytes_between s i e) ≡ token_from (i + k + 1) 0 (bytes_between s (i + k + 1) e)
    token-next z =
        let a = empty-part i (bytes_between s i e) some (ap (λ (x : Part). x.len) trims ∙ z) in
        let b : token_from (i + (index_of 44 (bytes_between s i e) + 1)) 0
        (drop (index_of 44 (bytes_between s i e) + 1) (bytes_between s i e))
        ≡ token_from (i + (k + 1)) 0 (drop (k + 1) (bytes_between s i e)) =
        ap (λ (n : ℕ). token_from (i + (n + 1)) 0 (drop (n + 1) (bytes_between s i e))) (sym at) in
        let d : drop (k + 1) (bytes_between s i e) ≡ bytes_between s (i + (k + 1)) e = ap (λ (p : Piece). p.bytes)
        (beyond-piece s i e (k + 1)) in
        let y : i + (k + 1) ≡ i + k + 1 = omega arith in
        a ∙ b ∙ ap (token_from (i + (k + 1)) 0) d ∙ ap (λ (n : ℕ). token_from n 0 (bytes_between s n e)) y

    stepped : i + step (bytes_between s i e) ≡ min (i + k + 1) e
    stepped = by (ltb (i + k) e) refl
      where
        by : (b : Bool) → ltb (i + k) e ≡ b → i + step (bytes_between s i e) ≡ min (i + k + 1) e
        by true q =
            let l = piece-long s i e inside in
            let z = ltb-true (i + k) e q in
            rw (lt-ltb (index_of 44 (bytes_between s i e)) (length (bytes_between s i e)) (omega arith)) (omega arith)
        by false q =
            let l = piece-long s i e inside in
            let z = ltb-false (i + k) e q in
            let y = comma-near in
            rw (le-ltb (index_of 44 (bytes_between s i e)) (length (bytes_between s i e)) (omega arith)) (omega arith)

    pub token-found : (t.len ≡ 0 → ⊥) → {next : ℕ} → next ≡ min (i + k + 1) e
        → token_from i 0 (bytes_between s i e) ≡ token (i + t.from) t.len next
    token-found z {next} q =
        some-part i (bytes_between s i e) some (λ y. z (sym (ap (λ (x : Part). x.len) trims) ∙ y))
        ∙ ap (λ (x : Part). token (i + x.from) x.len (i + step (bytes_between s i e))) trims
        ∙ ap (token (i + t.from) t.len) (stepped ∙ sym q)

-- there is no byte past the text's
pub whole-rest : (s : List ℕ) (i e : ℕ) → length s ≤ e → bytes_between s i (length s) ≡ bytes_between s i e
whole-rest s i e h =
    let l = length-drop i s in
    take_all (length s - i) (drop i s) (omega arith) ∙ sym (take_all (e - i) (drop i s) (omega arith))

pub token-none : (s : List ℕ) (i e : ℕ) → e ≤ i → token_from i 0 (bytes_between s i e) ≡ nothing
unfolding token_from
token-none s i e h = let z : e - i ≡ 0 = omega arith in rw z

-- an offset clamped into a range, as the library does it
clamped : (a e from : ℕ) → a ≤ e → max a (min from e) ≡ clamp_to a e from
clamped a e from h = by (ltb from a) refl (ltb e from) refl
  where
    by : (t : Bool) → ltb from a ≡ t → (u : Bool) → ltb e from ≡ u → max a (min from e) ≡ pick t a (pick u e from)
    by true p u q = omega (arith, ltb-true from a p)
    by false p true q = omega (arith, ltb-false from a p, ltb-true e from q)
    by false p false q = omega (arith, ltb-false from a p, ltb-false e from q)

-- ---- the list of a domain
pub rule_fits : (n : ℕ) (p : Policy) (d : ℕ) → SlotsFit n p.rules → d < 7 → (effective_of p d).from + (effective_of p d).len ≤ n
rule_fits n p d f h = by (slot_of p d).stance refl
  where
    by : (x : Stance) → (slot_of p d).stance ≡ x → (effective_of p d).from + (effective_of p d).len ≤ n
    by None e = unfold effective_of in rw (e, effective_of) (omega arith)
    by Allow e = unfold effective_of in rw (e, effective_of) (f d h)
    by Deny e = unfold effective_of in rw (e, effective_of) (f d h)

module _ (s : List ℕ) (p : Policy) (d : Domain) where
  pub list-fits : policy_test s p ≡ accepted tt → {r : Rule} → r ≡ effective_of p (domain_number d) → r.from + r.len ≤ length s
  list-fits e {r} f =
      let z = tested s p e in
      rw f (rule_fits (length s) p (domain_number d) z.rules (number_small d))

  pub token-given : (from : ℕ) → policy_test s p ≡ accepted tt → {r : Rule} → r ≡ effective_of p (domain_number d)
      → {at : ℕ} → at ≡ max r.from (min from (r.from + r.len))
      → {x : Found} → x ≡ token_from at 0 (bytes_between s at (r.from + r.len)) → accepted x ≡ next_token s p (domain_number d) from
  unfolding next_token follow token_in
  token-given from e {r} f {at} c m =
      let whole : (x : Rule) → Said Found =
      λ (x : Rule). accepted (token_in s x.from (x.from + x.len) from) in
      let y : whole (effective_of p (domain_number d)) ≡ next_token s p (domain_number d) from = rw e in
      let w : accepted (token_from at 0 (bytes_between s at (r.from + r.len))) ≡ whole r =
      rw (c, clamped r.from (r.from + r.len) from (omega arith)) in
      ap accepted m ∙ w ∙ ap whole f ∙ y
