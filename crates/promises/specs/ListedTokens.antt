-- The tokens that are listed by their ranges are those of a policy's meaning (policy, specs/View). Assumes nothing.
use Rattle.std.specs.Prelude.{◌≡◌, refl, ℕ, suc, ◌+◌, ◌-◌, eqb, take}
use Rattle.std.proofs.Math.Path.{sym, ap}
use Rattle.std.proofs.Common.{ap₂, ◌∙◌, take-append-drop, length-take-le, drop-drop, ne_eqb}
use mathlib.Core.List.{List, [], ◌∷◌, ◌++◌, map, append_assoc}
use native.Mathlib.Omega.{arith}
use Rattle.std.proofs.Math.ListN.{length, drop}
use Rattle.std.proofs.lemmas.List.{take-append-le, drop-append-le}
use Rattle.std.proofs.Math.Seq.{drop-append-add}
use Rattle.refusal.specs.Pick.{pick}
use Rattle.refusal.specs.Said.{accepted}
use Rattle.refusal.specs.declared.Part.{Part}
use Rattle.refusal.proofs.Following.{followed}
use Rattle.text.specs.Trim.{trim_start, trim_end, trim_of}
use Rattle.text.proofs.CharLaws.{start-long, end-long}
use Rattle.text.specs.Piece.{trim, bytes_between}
use Rattle.text.proofs.PieceLaws.{trim-bytes}
use Rattle.policy.specs.Eight.{policy_test}
use Rattle.policy.specs.View.{split, commas, full, tokens, range}
use Rattle.policy.specs.declared.Policy.{Policy}
use Rattle.verdicts.specs.Evaluate.{effective_of}
use Rattle.policy_text.specs.Token.{parts_placed, ranges, tokens_from, tokens_in, all_tokens}
use Rattle.policy_text.proofs.Tokens.{glue, split-glue}

abbrev pub token_bytes : List ℕ → Part → List ℕ
token_bytes s x = range s x.from x.len

-- a part that stands in the text where it says, trimmed
trim-range : (s t u : List ℕ) (at : ℕ) → drop at s ≡ t ++ u
    → (let p = trim (record { at = at; bytes = t }) in range s p.at (length p.bytes) ≡ p.bytes)
unfolding trim
trim-range s t u at e =
    let m = trim_start t in
    let b = drop m t in
    let n = trim_end b in
    let d : drop (at + m) s ≡ b ++ u = sym (drop-drop m at s) ∙ ap (drop m) e ∙ drop-append-le m t u (start-long t) in
    ap (take (length (take n b))) d
    ∙ ap (λ (k : ℕ). take k (b ++ u)) (length-take-le n b (end-long b))
    ∙ take-append-le n b u (end-long b)

module _ (s : List ℕ) where
  abbrev ranged : ℕ → List ℕ → Part
  ranged at b = record { from = at; len = length b }

  one_more : (at : ℕ) (b : List ℕ) (xs : List Part) (zs : List (List ℕ)) → range s at (length b) ≡ b → map (token_bytes s) xs ≡ full zs
      → map (token_bytes s) (pick (eqb (length b) 0) xs (ranged at b ∷ xs)) ≡ full (b ∷ zs)
  unfolding full
  one_more at [] xs zs q h = h
  one_more at (x ∷ b) xs zs q h =
      rw (ne_eqb (suc (length b)) 0 (λ z. omega arith)) (ap₂ (λ (y : List ℕ) (ys : List (List ℕ)). y ∷ ys) q h)

  comma-past : (at : ℕ) (t v : List ℕ) (vs : List (List ℕ)) (u : List ℕ) → drop at s ≡ t ++ (glue (v ∷ vs) ++ u)
      → drop (at + length t + 1) s ≡ v ++ (glue vs ++ u)
  unfolding glue
  comma-past at t v vs u e =
      let z : at + (length t + 1) ≡ at + length t + 1 = omega arith in
      ap (λ (k : ℕ). drop k s) (sym z)
      ∙ sym (drop-drop (length t + 1) at s)
      ∙ ap (drop (length t + 1)) e
      ∙ drop-append-add t (glue (v ∷ vs) ++ u) 1
      ∙ append_assoc v (glue vs) u

  parts_said : (at : ℕ) (t : List ℕ) (ts : List (List ℕ)) (u : List ℕ) → drop at s ≡ t ++ (glue ts ++ u)
      → map (token_bytes s) (ranges (map trim (parts_placed at (t ∷ ts)))) ≡ full (map trim_of (t ∷ ts))
  unfolding parts_placed ranges
  parts_said at t [] u e =
      let p = trim (record { at = at; bytes = t }) in
      one_more p.at p.bytes [] [] (trim-range s t (glue [] ++ u) at e) (unfold full in refl)
      ∙ ap (λ (b : List ℕ). full (b ∷ [])) (trim-bytes (record { at = at; bytes = t }))
  parts_said at t (v ∷ vs) u e =
      let p = trim (record { at = at; bytes = t }) in
      let next = at + length t + 1 in
      let d : drop next s ≡ v ++ (glue vs ++ u) = comma-past at t v vs u e in
      one_more p.at p.bytes (ranges (map trim (parts_placed next (v ∷ vs)))) (map trim_of (v ∷ vs))
      (trim-range s t (glue (v ∷ vs) ++ u) at e) (parts_said next v vs u d)
      ∙ ap (λ (b : List ℕ). full (b ∷ map trim_of (v ∷ vs))) (trim-bytes (record { at = at; bytes = t }))

-- what is listed in a range of a text
pub tokens-said : (s : List ℕ) (a e : ℕ) → map (token_bytes s) (tokens_in s a e) ≡ tokens (bytes_between s a e)
unfolding tokens_from tokens commas
tokens-said s a e =
    let b = bytes_between s a e in
    let u = drop (e - a) (drop a s) in
    let h = (split b).head in
    let r = (split b).rest in
    parts_said s a h r u
    (sym (take-append-drop (e - a) (drop a s)) ∙ ap (λ (l : List ℕ). l ++ u) (sym (split-glue b)) ∙ append_assoc h (glue r) u)

-- THE LIST IS THE POLICY'S: of a domain, the bytes of its rule's tokens, in their order
pub listed-said : (s : List ℕ) (p : Policy) (d : ℕ) {xs : List Part} → all_tokens s p d ≡ accepted xs
    → map (token_bytes s) xs ≡ tokens (range s (effective_of p d).from (effective_of p d).len)
unfolding all_tokens
listed-said s p d {xs} e =
    let a = (effective_of p d).from in
    let n = (effective_of p d).len in
    let l : List Part = tokens_in s a (a + n) in
    let f = followed (policy_test s p) (λ ok. accepted l) e in
    let z : l ≡ xs = cc f.then in
    let k : a + n - a ≡ n = omega arith in
    ap (map (token_bytes s)) (sym z) ∙ tokens-said s a (a + n) ∙ ap (λ (m : ℕ). tokens (take m (drop a s))) k
