-- All tokens of a list: those that are found one after another. Assumes nothing.
use mathlib.Core.Path.{◌≡◌, refl, sym, ap, ◌∙◌, subst}
use mathlib.Core.Bool.{Bool, true, false}
use mathlib.Core.List.{List, [], ◌∷◌, map}
use Prim.Native.Nat.{ℕ, zero, suc, ◌+◌, ◌-◌, ◌≤◌, ◌<◌}
use native.Mathlib.Omega.{arith}
use native.Mathlib.Nat.{not-suc-le-zero}
use lib.Dec.{eqb, ltb}
use lib.ListN.{length, drop, length-drop, length-take}
use lib.Seq.{length-take-le, drop-drop, drop-nil, take-nil}
use borrow.Author.Tests.{eqb-true, eqb-false, ne_eqb, lt-ltb, le-ltb, ltb-true, ltb-false}
use Rattle.refusal.specs.Pick.{pick}
use Rattle.refusal.specs.Said.{accepted, follow}
use Rattle.refusal.specs.declared.Part.{Part}
use Rattle.refusal.proofs.Following.{followed}
use Rattle.text.specs.Find.{index_of}
use Rattle.text.specs.Trim.{trim_start, trim_end, trimmed}
use Rattle.text.proofs.Laws.{left-none}
use Rattle.text.proofs.CharLaws.{end-long}
use Rattle.text.specs.Piece.{Piece, trim, bytes_between}
use Rattle.text.proofs.PieceLaws.{beyond-piece}
use Rattle.policy.specs.Eight.{policy_test}
use Rattle.policy.specs.View.{Parts, split, commas}
use Rattle.policy.specs.declared.Policy.{Policy}
use Rattle.verdicts.specs.Evaluate.{effective_of}
use Rattle.policy_text.specs.Token.{Found, nothing, token, before_comma, step, token_from, clamp_to, token_in, next_token}
use Rattle.policy_text.specs.Token.{parts_placed, ranges, tokens_from, tokens_in, all_tokens}
use Rattle.policy_text.proofs.Tokens.{split-first, split-whole}
use Rattle.policy_text.proofs.TokenLaws.{empty-part, some-part}

-- ---- the first part, and those after it
abbrev ranged : ℕ → ℕ → Part
ranged f n = record { from = f; len = n }

abbrev kept : Piece → List Part → List Part
kept p xs = pick (eqb (length p.bytes) 0) xs (ranged p.at (length p.bytes) ∷ xs)

abbrev cut : ℕ → Parts → List Part
cut at ps = ranges (map trim (parts_placed at (ps.head ∷ ps.rest)))

pub none-at : (at : ℕ) → tokens_from at [] ≡ []
unfolding tokens_from commas split parts_placed ranges trim
none-at at = rw (drop-nil (trim_start []), take-nil (trim_end []))

-- how a part's range is found
kept-trim : (at : ℕ) (w : List ℕ) (xs : List Part)
    → kept (trim (record { at = at; bytes = w })) xs
    ≡ pick (eqb (trimmed w).len 0) xs (ranged (at + (trimmed w).from) (trimmed w).len ∷ xs)
unfolding trim trimmed
kept-trim at w xs = let b = drop (trim_start w) w in rw (length-take-le (trim_end b) b (end-long b))

module _ (at : ℕ) (b : List ℕ) where
  abbrev beyond-comma : List Part
  beyond-comma = tokens_from (at + (index_of 44 b + 1)) (drop (index_of 44 b + 1) b)

  first-kept : tokens_from at b ≡ kept (trim (record { at = at; bytes = before_comma b })) beyond-comma
  unfolding tokens_from commas parts_placed ranges
  first-kept = by (ltb (index_of 44 b) (length b)) refl
    where
      by : (t : Bool) → ltb (index_of 44 b) (length b) ≡ t
          → cut at (split b) ≡ kept (trim (record { at = at; bytes = before_comma b })) beyond-comma
      by true q =
          let h = ltb-true (index_of 44 b) (length b) q in
          let r = drop (index_of 44 b + 1) b in
          let z : at + length (before_comma b) + 1 ≡ at + (index_of 44 b + 1) =
          omega (arith, length-take-le (index_of 44 b) b (omega arith)) in
          ap (cut at) (split-first b h)
          ∙ ap (λ (n : ℕ). kept (trim (record { at = at; bytes = before_comma b })) (cut n (split r))) z
      by false q =
          let h = ltb-false (index_of 44 b) (length b) q in
          let n = at + (index_of 44 b + 1) in
          let z : beyond-comma ≡ [] = ap (tokens_from n) (left-none b (index_of 44 b + 1) (omega arith)) ∙ none-at n in
          ap (cut at) (split-whole b h) ∙ ap (kept (trim (record { at = at; bytes = before_comma b }))) (sym z)

  first-is : tokens_from at b
      ≡ pick (eqb (trimmed (before_comma b)).len 0) beyond-comma
      (ranged (at + (trimmed (before_comma b)).from) (trimmed (before_comma b)).len ∷ beyond-comma)
  first-is = first-kept ∙ kept-trim at (before_comma b) beyond-comma

-- ---- what is found first, and what the list is then
pub record Next (at : ℕ) (b : List ℕ) (f n next : ℕ) : Type 0 where
  pub on : at < next
  pub near : next ≤ at + length b
  pub list : tokens_from at b ≡ ranged f n ∷ tokens_from next (drop (next - at) b)

abbrev Heads : ℕ → List ℕ → Found → Type 0
Heads at b nothing = tokens_from at b ≡ []
Heads at b (token f n next) = Next at b f n next

-- an empty part is passed over
module _ (at : ℕ) (b : List ℕ) (none : (trimmed (before_comma b)).len ≡ 0) where
  later : (x : Found) → Heads (at + (index_of 44 b + 1)) (drop (index_of 44 b + 1) b) x → Heads at b x
  later nothing h = first-is at b ∙ rw none h
  later (token f n next) h =
      let i = index_of 44 b in
      let l = length-drop (i + 1) b in
      let z : i + 1 + (next - (at + (i + 1))) ≡ next - at = omega (arith, h.on) in
      let rest : drop (next - (at + (i + 1))) (drop (i + 1) b) ≡ drop (next - at) b =
      drop-drop (next - (at + (i + 1))) (i + 1) b ∙ ap (λ (k : ℕ). drop k b) z in
      record {
        on = omega (arith, h.on);
        near = omega (arith, h.on, h.near);
        list = first-is at b ∙ rw none (h.list ∙ ap (λ (r : List ℕ). ranged f n ∷ tokens_from next r) rest);
      }

-- another is found
module _ (at : ℕ) (b : List ℕ) (full : 0 < length b) (some : (trimmed (before_comma b)).len ≡ 0 → ⊥) where
  abbrev its : Part
  its = ranged (at + (trimmed (before_comma b)).from) (trimmed (before_comma b)).len

  found : tokens_from at b ≡ its ∷ beyond-comma at b
  found = first-is at b ∙ rw (ne_eqb (trimmed (before_comma b)).len 0 some)

  here : Next at b its.from its.len (at + step b)
  here = by (ltb (index_of 44 b) (length b)) refl
    where
      by : (t : Bool) → ltb (index_of 44 b) (length b) ≡ t
          → Next at b its.from its.len (at + pick t (index_of 44 b + 1) (length b))
      by true q =
          let h = ltb-true (index_of 44 b) (length b) q in
          let i = index_of 44 b in
          let z : at + (i + 1) - at ≡ i + 1 = omega arith in
          record {
            on = omega arith;
            near = omega arith;
            list = found ∙ ap (λ (k : ℕ). its ∷ tokens_from (at + (i + 1)) (drop k b)) (sym z);
          }
      by false q =
          let h = ltb-false (index_of 44 b) (length b) q in
          let l = length b in
          let m = at + (index_of 44 b + 1) in
          let z : beyond-comma at b ≡ [] = ap (tokens_from m) (left-none b (index_of 44 b + 1) (omega arith)) ∙ none-at m in
          let y : tokens_from (at + l) (drop (at + l - at) b) ≡ [] =
          ap (tokens_from (at + l)) (left-none b (at + l - at) (omega arith)) ∙ none-at (at + l) in
          record {
            on = omega arith;
            near = omega arith;
            list = found ∙ ap (λ (r : List Part). its ∷ r) (z ∙ sym y);
          }

-- of bytes, where it is so for fewer of them
heads-by : (at : ℕ) (b : List ℕ) → ((n : ℕ) (r : List ℕ) → length r < length b → Heads n r (token_from n 0 r))
    → Heads at b (token_from at 0 b)
unfolding token_from
heads-by at [] ih = none-at at
heads-by at (x ∷ s) ih = by (eqb (trimmed (before_comma (x ∷ s))).len 0) refl
  where
    by : (t : Bool) → eqb (trimmed (before_comma (x ∷ s))).len 0 ≡ t → Heads at (x ∷ s) (token_from at 0 (x ∷ s))
    by true q =
        let i = index_of 44 (x ∷ s) in
        let e = eqb-true (trimmed (before_comma (x ∷ s))).len 0 q in
        let r = drop (i + 1) (x ∷ s) in
        let l : length r < suc (length s) = omega (arith, length-drop (i + 1) (x ∷ s)) in
        subst (Heads at (x ∷ s)) (sym (empty-part at (x ∷ s) (omega arith) e))
        (later at (x ∷ s) e (token_from (at + (i + 1)) 0 r) (ih (at + (i + 1)) r l))
    by false q =
        let e = eqb-false (trimmed (before_comma (x ∷ s))).len 0 q in
        subst (Heads at (x ∷ s)) (sym (some-part at (x ∷ s) (omega arith) e)) (here at (x ∷ s) (omega arith) e)

heads-to : (k at : ℕ) (b : List ℕ) → length b < k → Heads at b (token_from at 0 b)
heads-to zero at b h = absurd (not-suc-le-zero h)
heads-to (suc k) at b h = heads-by at b (λ n r l. heads-to k n r (omega arith))

heads : (at : ℕ) (b : List ℕ) → Heads at b (token_from at 0 b)
heads at b = heads-to (suc (length b)) at b (omega arith)

-- ---- in a text
module _ (s : List ℕ) (i e : ℕ) where
  pub tokens-done : token_from i 0 (bytes_between s i e) ≡ nothing → tokens_in s i e ≡ []
  tokens-done q = subst (Heads i (bytes_between s i e)) q (heads i (bytes_between s i e))

  pub record More (f n next : ℕ) : Type 0 where
    pub on : i < next
    pub near : next ≤ e
    pub list : tokens_in s i e ≡ ranged f n ∷ tokens_in s next e

  pub tokens-more : {f n next : ℕ} → token_from i 0 (bytes_between s i e) ≡ token f n next → More f n next
  tokens-more {f} {n} {next} q =
      let b = bytes_between s i e in
      let h : Next i b f n next = subst (Heads i b) q (heads i b) in
      let l = length-take (e - i) (drop i s) in
      let z : i + (next - i) ≡ next = omega (arith, h.on) in
      let d : drop (next - i) b ≡ bytes_between s next e =
      ap (λ (p : Piece). p.bytes) (beyond-piece s i e (next - i)) ∙ ap (λ (k : ℕ). bytes_between s k e) z in
      record {
        on = h.on;
        near = omega (arith, h.on, h.near);
        list = h.list ∙ ap (λ (r : List ℕ). ranged f n ∷ tokens_from next r) d;
      }

-- ---- the tokens of a domain, asked for one after another, each from the offset that the last gave
pub data Asked (s : List ℕ) (p : Policy) (d : ℕ) : ℕ → List Part → Type 0 where
  over : {from : ℕ} → next_token s p d from ≡ accepted nothing → Asked s p d from []
  also : {from next : ℕ} {x : Part} {xs : List Part} → next_token s p d from ≡ accepted (token x.from x.len next)
      → Asked s p d next xs → Asked s p d from (x ∷ xs)

clamp-here : (a e i : ℕ) → a ≤ i → i ≤ e → clamp_to a e i ≡ i
clamp-here a e i h k = rw (le-ltb i a h, le-ltb e i k)

clamp-first : (a e : ℕ) → a ≤ e → clamp_to a e 0 ≡ a
clamp-first zero e h = clamp-here 0 e 0 (omega arith) h
clamp-first (suc a) e h = rw (lt-ltb 0 (suc a) (omega arith))

module _ (s : List ℕ) (p : Policy) (d : ℕ) (good : policy_test s p ≡ accepted tt) where
  abbrev start : ℕ
  start = (effective_of p d).from

  abbrev end : ℕ
  end = start + (effective_of p d).len

  next-is : (from i : ℕ) → clamp_to start end from ≡ i → next_token s p d from ≡ accepted (token_from i 0 (bytes_between s i end))
  unfolding next_token follow token_in
  next-is from i e = rw good (ap (λ (n : ℕ). accepted (token_from n 0 (bytes_between s n end))) e)

  asked_by : (from i : ℕ) → clamp_to start end from ≡ i → ((n : ℕ) → i < n → n ≤ end → Asked s p d n (tokens_in s n end))
      → Asked s p d from (tokens_in s i end)
  asked_by from i c ih = by (token_from i 0 (bytes_between s i end)) refl
    where
      by : (x : Found) → token_from i 0 (bytes_between s i end) ≡ x → Asked s p d from (tokens_in s i end)
      by nothing q = subst (Asked s p d from) (sym (tokens-done s i end q)) (over (next-is from i c ∙ ap accepted q))
      by (token f n next) q =
          let m = tokens-more s i end q in
          subst (Asked s p d from) (sym m.list) (also (next-is from i c ∙ ap accepted q) (ih next m.on m.near))

  asked-to : (k i : ℕ) → end - i < k → start ≤ i → i ≤ end → Asked s p d i (tokens_in s i end)
  asked-to zero i h a b = absurd (not-suc-le-zero h)
  asked-to (suc k) i h a b =
      asked_by i i (clamp-here start end i a b) (λ n l m. asked-to k n (omega arith) (omega arith) m)

  asked-all : Asked s p d 0 (tokens_in s start end)
  asked-all =
      asked_by 0 start (clamp-first start end (omega arith)) (λ n l m. asked-to (suc (end - n)) n (omega arith) (omega arith) m)

-- THE TWO CALLS AGREE: what is listed at once is what is found one after another, from the text's start on
pub one_by_one : (s : List ℕ) (p : Policy) (d : ℕ) {xs : List Part} → all_tokens s p d ≡ accepted xs → Asked s p d 0 xs
unfolding all_tokens
one_by_one s p d {xs} e =
    let a = (effective_of p d).from in
    let l : List Part = tokens_in s a (a + (effective_of p d).len) in
    let f = followed (policy_test s p) (λ ok. accepted l) e in
    let z : l ≡ xs = cc f.then in
    subst (Asked s p d 0) z (asked-all s p d f.first)
