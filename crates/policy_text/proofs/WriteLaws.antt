-- The text of a policy, part by part, and how long it is. Assumes nothing.
use Rattle.std.specs.Prelude.{Result, Err}
use mathlib.Core.Path.{◌≡◌, refl, sym, ap, ◌∙◌}
use mathlib.Core.Bool.{Bool, true, false}
use mathlib.Core.List.{List, [], ◌∷◌, ◌++◌, map, append-nil, append_assoc}
use Prim.Native.Nat.{ℕ, zero, suc, ◌+◌, ◌*◌, ◌-◌, ◌≤◌, ◌<◌}
use native.Mathlib.Omega.{arith}
use lib.ListN.{length, take, drop, drop_of_length-le, length-append, length-drop, length-take}
use lib.Seq.{take-length, append_snoc}
use lib.Dec.{ltb, leb}
use borrow.Author.Tests.{ltb-true, ltb-false, leb-true, leb-false, le-leb, lt-leb}
use native.Mathlib.Numerals.{add-one}
use Rattle.refusal.specs.declared.Part.{Part}
use Rattle.refusal.specs.Said.{accepted, refused_by, follow}
use Rattle.refusal.specs.declared.Refusal.{Refusal}
use Rattle.refusal.specs.Pick.{pick}
use Rattle.refusal.specs.Sizes.{text_limit}
use Rattle.text.specs.Trim.{trim_start, trim_end, started, trimmed, trim_of}
use Rattle.text.specs.Find.{index_of}
use Rattle.text.proofs.FindLaws.{index-le}
use Rattle.domains.specs.Domain.{slug}
use Rattle.text.specs.Piece.{bytes_between, piece, TrimTo, Piece}
use Rattle.policy.specs.Eight.{slot_of, policy_test}
use Rattle.policy.specs.declared.Policy.{Policy}
use Rattle.policy.specs.View.{Parts, split, commas, full, tokens, RuleView, silent, ruling, rule_of, PolicyView}
use Rattle.policy.specs.View.{range, no_name, seven, says}
use Rattle.policy.specs.Directive.{policy_w, default_w}
use Rattle.policy.specs.declared.Slot.{Slot}
use Rattle.policy.specs.declared.Stance.{Stance}
use Rattle.policy.specs.declared.Stance.TheVariants.{None, Allow, Deny}
use Rattle.text.proofs.PieceLaws.{trim-is, trim-bytes, piece-long, first_piece, beyond-piece}
use Rattle.output.specs.Bytes.{most, FormedFrom}
use Rattle.output.specs.Writing.{Added}
use Rattle.output.specs.declared.bytes.Writer.{Writer}
use Rattle.output.proofs.ByteLaws.{formed-first}
use Rattle.output.proofs.Writing.{added_none, added_then}
use Rattle.output.proofs.Words.{slug-long}
use Rattle.policy_text.specs.Writer.{written, Writes, form, stance_word, name_line, default_line, form_lines}
use Rattle.policy_text.specs.Writer.{joined, list_part, rule_line, rule_lines, unlines}
use Rattle.policy_text.specs.Writing.{separator, token_form, any_token, line_text, rule_text}
use Rattle.policy_text.proofs.Tokens.{split-first, split-whole, glue, split-glue}

-- ---- a token
pub token-none : (some : Bool) (t : List ℕ) → length t ≡ 0 → token_form some t ≡ []
token-none some [] e = refl
token-none some (x ∷ t) e = absurd (omega arith)

pub token-some : (some : Bool) (t : List ℕ) → (length t ≡ 0 → ⊥) → token_form some t ≡ separator some ++ t
token-some some [] e = absurd (e refl)
token-some some (x ∷ t) e = refl

same_test : (a b c d : ℕ) → (a < b → c ≤ d) → (c ≤ d → a < b) → ltb a b ≡ leb c d
same_test a b c d f g = by (ltb a b) refl (leb c d) refl
  where
    by : (t : Bool) → ltb a b ≡ t → (u : Bool) → leb c d ≡ u → t ≡ u
    by true p true q = refl
    by true p false q = absurd (let k = f (ltb-true a b p) in omega (arith, leb-false c d q))
    by false p true q = absurd (let k = g (leb-true c d q) in omega (arith, ltb-false a b p))
    by false p false q = refl

-- ---- the tokens that are left
unfoldable pub rest : Bool → List (List ℕ) → List ℕ
rest true ts = joined ts
rest false ts = list_part ts

abbrev pub left_t : List ℕ → ℕ → ℕ → List (List ℕ)
left_t s i e = pick (leb i e) (tokens (bytes_between s i e)) []

abbrev full_cons : List ℕ → List (List ℕ) → List (List ℕ)
full_cons [] ts = ts
full_cons (x ∷ t) ts = (x ∷ t) ∷ ts

full-cons : (t : List ℕ) (ts : List (List ℕ)) → full (t ∷ ts) ≡ full_cons t (full ts)
unfolding full
full-cons [] ts = refl
full-cons (x ∷ t) ts = refl

rest-cons : (some : Bool) (t : List ℕ) (ts : List (List ℕ)) → rest some (full_cons t ts) ≡ token_form some t ++ rest (any_token some t) ts
unfolding rest joined list_part
rest-cons true [] ts = refl
rest-cons false [] ts = refl
rest-cons true (x ∷ t) ts = refl
rest-cons false (x ∷ t) ts = refl

commas-next : (b : List ℕ) → tokens b ≡ full_cons (trim_of (take (index_of 44 b) b))
    (pick (ltb (index_of 44 b) (length b)) (tokens (drop (index_of 44 b + 1) b)) [])
unfolding tokens commas
commas-next b = by (ltb (index_of 44 b) (length b)) refl
  where
    by : (t : Bool) → ltb (index_of 44 b) (length b) ≡ t → full (map trim_of ((split b).head ∷ (split b).rest)) ≡ full_cons
        (trim_of (take (index_of 44 b) b))
        (pick t (full (map trim_of ((split (drop (index_of 44 b + 1) b)).head ∷ (split (drop (index_of 44 b + 1) b)).rest))) [])
    by true q =
        let p = take (index_of 44 b) b in
        let r = drop (index_of 44 b + 1) b in
        ap (λ (x : Parts). full (map trim_of (x.head ∷ x.rest))) (split-first b (ltb-true (index_of 44 b) (length b) q))
        ∙ full-cons (trim_of p) (map trim_of ((split r).head ∷ (split r).rest))
    by false q =
        let p = take (index_of 44 b) b in
        ap (λ (x : Parts). full (map trim_of (x.head ∷ x.rest))) (split-whole b (ltb-false (index_of 44 b) (length b) q))
        ∙ full-cons (trim_of p) []
        ∙ ap (full_cons (trim_of p)) (unfold full in refl)

module _ (s : List ℕ) (i e k f g : ℕ) (some : Bool) (h : i ≤ e) (l : e ≤ length s) (q : k ≡ index_of 44 (bytes_between s i e))
    (t : TrimTo s i (i + k) f g) where
  pub list-next : rest some (left_t s i e) ≡ token_form some (bytes_between s f g)
      ++ rest (any_token some (bytes_between s f g)) (left_t s (i + k + 1) e)
  list-next =
      let b = bytes_between s i e in
      let n = piece-long s i e l in
      let m = index-le 44 b in
      let u : take (index_of 44 b) b ≡ bytes_between s i (i + k) = ap (λ (j : ℕ). take j b) (sym q)
      ∙ ap (λ (p : Piece). p.bytes) (first_piece s i e k (omega arith)) in
      let v : trim_of (take (index_of 44 b) b) ≡ bytes_between s f g = ap trim_of u ∙ sym (trim-bytes (piece s i (i + k)))
      ∙ ap (λ (p : Piece). p.bytes) t.same in
      let z : i + (k + 1) ≡ i + k + 1 = omega arith in
      let w : drop (index_of 44 b + 1) b ≡ bytes_between s (i + k + 1) e = ap (λ (j : ℕ). drop (j + 1) b) (sym q)
      ∙ ap (λ (p : Piece). p.bytes) (beyond-piece s i e (k + 1)) ∙ ap (λ (j : ℕ). bytes_between s j e) z in
      let c : ltb (index_of 44 b) (length b) ≡ leb (i + k + 1) e =
      same_test (index_of 44 b) (length b) (i + k + 1) e (λ y. omega arith) (λ y. omega arith) in
      let o : tokens b ≡ full_cons (bytes_between s f g) (left_t s (i + k + 1) e) =
      commas-next b ∙ ap (λ (x : List ℕ). full_cons x (pick (ltb (index_of 44 b) (length b)) (tokens (drop (index_of 44 b + 1) b)) [])) v
      ∙ ap (λ (x : List ℕ). full_cons (bytes_between s f g) (pick (ltb (index_of 44 b) (length b)) (tokens x) [])) w
      ∙ ap (λ (x : Bool). full_cons (bytes_between s f g) (pick x (tokens (bytes_between s (i + k + 1) e)) [])) c in
      rw (le-leb i e h) (ap (rest some) o ∙ rest-cons some (bytes_between s f g) (left_t s (i + k + 1) e))

pub list_done : (s : List ℕ) (i e : ℕ) (some : Bool) → e < i → rest some (left_t s i e) ≡ []
unfolding rest joined list_part
list_done s i e true h = rw (lt-leb i e h)
list_done s i e false h = rw (lt-leb i e h)

-- ---- the part at i, up to the next comma or the end
pub comma-near : (s : List ℕ) (i k : ℕ) → i ≤ length s → k ≡ index_of 44 (bytes_between s i (length s)) → i + k ≤ length s
comma-near s i k h q = omega (arith, index-le 44 (bytes_between s i (length s)), piece-long s i (length s) (omega arith))

pub record TokenAt (s : List ℕ) (i k from len : ℕ) : Type 0 where
  pub near : i + k ≤ length s
  pub part : TrimTo s i (i + k) (i + from) (i + from + len)
  pub long : length (bytes_between s (i + from) (i + from + len)) ≡ len

pub token-at : (s : List ℕ) (i k : ℕ) (t : Part) → i ≤ length s → k ≡ index_of 44 (bytes_between s i (length s))
    → t ≡ trimmed (bytes_between s i (i + k)) → TokenAt s i k t.from t.len
token-at s i k t h q e =
    let n = comma-near s i k h q in
    let p = trim-is s i (i + k) t (omega arith) n e in
    let l = piece-long s (i + t.from) (i + t.from + t.len) (omega (arith, p.high)) in
    record { near = n; part = p; long = omega arith }

pub whole-list : (s : List ℕ) → bytes_between s 0 (length s) ≡ s
whole-list s = let z : length s - 0 ≡ length s = omega arith in rw z (take-length s)

-- ---- the loop's state: so much is written, and what is left makes the whole
pub record Going (s : List ℕ) (a e : ℕ) (before : Writer) (now : Writer) (i : ℕ) (some : Bool) : Type 0 where
  pub done : List ℕ
  pub wrote : Added before done now
  pub whole : list_part (tokens (bytes_between s a e)) ≡ done ++ rest some (left_t s i e)

pub going-first : (s : List ℕ) (a e : ℕ) (w : Writer) → a ≤ e → Going s a e w w a false
going-first s a e w h = record { done = []; wrote = added_none w; whole = unfold rest in rw (le-leb a e h) }

pub going_next : {s : List ℕ} {a e : ℕ} {before now : Writer} {i : ℕ} {some : Bool} (k f g : ℕ) {next : Writer}
    → Going s a e before now i some → i ≤ e → e ≤ length s → k ≡ index_of 44 (bytes_between s i e) → TrimTo s i (i + k) f g
    → Added now (token_form some (bytes_between s f g)) next → Going s a e before next (i + k + 1) (any_token some (bytes_between s f g))
going_next {s} {a} {e} {before} {now} {i} {some} k f g {next} w h l q t r =
    let p = token_form some (bytes_between s f g) in
    let z = rest (any_token some (bytes_between s f g)) (left_t s (i + k + 1) e) in
    record {
      done = w.done ++ p;
      wrote = added_then w.wrote r;
      whole = w.whole
          ∙ ap (λ (v : List ℕ). w.done ++ v) (list-next s i e k f g some h l q t) ∙ sym (append_assoc w.done p z);
    }

pub going-last : {s : List ℕ} {a e : ℕ} {before now : Writer} {i : ℕ} {some : Bool}
    → Going s a e before now i some → e < i → Added before (list_part (tokens (bytes_between s a e))) now
going-last {s} {a} {e} {before} {now} {i} {some} w h =
    rw (w.whole ∙ ap (λ (v : List ℕ). w.done ++ v) (list_done s i e some h) ∙ append-nil w.done) w.wrote

-- ---- the lines of the rules
pub rule-text : (t : Bool) (d : ℕ) (ts : List (List ℕ)) → rule_text d (ruling t ts) ≡ stance_word
    t ++ ((32 ∷ []) ++ (slug d ++ (list_part ts ++ (10 ∷ []))))
unfolding rule_line
rule-text t d ts = append_assoc (stance_word t) (32 ∷ (slug d ++ list_part ts)) (10 ∷ [])
    ∙ ap (λ (l : List ℕ). stance_word t ++ 32 ∷ l) (append_assoc (slug d) (list_part ts) (10 ∷ []))

module _ (s : List ℕ) (x : Slot) where
  pub rule-none : x.stance ≡ None → rule_of s x ≡ silent
  unfolding rule_of
  rule-none e = rw (e, rule_of)

  rule-allow : x.stance ≡ Allow → rule_of s x ≡ ruling true (tokens (bytes_between s x.from (x.from + x.len)))
  unfolding rule_of
  rule-allow e = let z : x.from + x.len - x.from ≡ x.len = omega arith in rw (e, rule_of) (rw z)

  rule-deny : x.stance ≡ Deny → rule_of s x ≡ ruling false (tokens (bytes_between s x.from (x.from + x.len)))
  unfolding rule_of
  rule-deny e = let z : x.from + x.len - x.from ≡ x.len = omega arith in rw (e, rule_of) (rw z)

  pub text-allow : (d : ℕ) → x.stance ≡ Allow → rule_text d (rule_of s x) ≡ stance_word
      true ++ ((32 ∷ []) ++ (slug d ++ (list_part (tokens (bytes_between s x.from (x.from + x.len))) ++ (10 ∷ []))))
  text-allow d e = ap (rule_text d) (rule-allow e) ∙ rule-text true d (tokens (bytes_between s x.from (x.from + x.len)))

  pub text-deny : (d : ℕ) → x.stance ≡ Deny → rule_text d (rule_of s x) ≡ stance_word
      false ++ ((32 ∷ []) ++ (slug d ++ (list_part (tokens (bytes_between s x.from (x.from + x.len))) ++ (10 ∷ []))))
  text-deny d e = ap (rule_text d) (rule-deny e) ∙ rule-text false d (tokens (bytes_between s x.from (x.from + x.len)))

pub rules-next : (d : ℕ) (r : RuleView) (rs : List RuleView)
    → unlines (rule_lines d (r ∷ rs)) ≡ rule_text d r ++ unlines (rule_lines (suc d) rs)
unfolding unlines rule_lines
rules-next d silent rs = refl
rules-next d (ruling t ts) rs = sym (append_snoc (rule_line t d ts) 10 (unlines (rule_lines (suc d) rs)))

pub record Turning (s : List ℕ) (xs : List Slot) (before : Writer) (now : Writer) (k : ℕ) : Type 0 where
  pub done : List ℕ
  pub wrote : Added before done now
  pub whole : unlines (rule_lines 0 (map (rule_of s) xs)) ≡ done ++ unlines (rule_lines k (map (rule_of s) (drop k xs)))

pub turning-first : (s : List ℕ) (xs : List Slot) (w : Writer) → Turning s xs w w 0
turning-first s xs w = record { done = []; wrote = added_none w; whole = refl }

pub turning-next : {s : List ℕ} {xs : List Slot} {before now next : Writer} {k : ℕ}
    (w : Turning s xs before now k) (z : Slot) → drop k xs ≡ z ∷ drop (k + 1) xs
    → Added now (rule_text k (rule_of s z)) next → Turning s xs before next (k + 1)
turning-next {s} {xs} {before} {now} {next} {k} w z e r =
    let p = rule_text k (rule_of s z) in
    let o : unlines (rule_lines k (map (rule_of s) (drop k xs))) ≡ p ++ unlines (rule_lines (k + 1) (map (rule_of s) (drop (k + 1) xs))) =
    ap (λ (l : List Slot). unlines (rule_lines k (map (rule_of s) l))) e
    ∙ rules-next k (rule_of s z) (map (rule_of s) (drop (k + 1) xs))
    ∙ ap (λ (j : ℕ). p ++ unlines (rule_lines j (map (rule_of s) (drop (k + 1) xs)))) (sym (add-one k)) in
    record {
      done = w.done ++ p;
      wrote = added_then w.wrote r;
      whole = w.whole ∙ ap (λ (v : List ℕ). w.done ++ v) o
          ∙ sym (append_assoc w.done p (unlines (rule_lines (k + 1) (map (rule_of s) (drop (k + 1) xs)))));
    }

pub turning-last : {s : List ℕ} {xs : List Slot} {before now : Writer} {k : ℕ}
    → Turning s xs before now k → drop k xs ≡ [] → Added before (unlines (rule_lines 0 (map (rule_of s) xs))) now
turning-last {s} {xs} {before} {now} {k} w e =
    let o : unlines (rule_lines k (map (rule_of s) (drop k xs))) ≡ [] =
    ap (λ (l : List Slot). unlines (rule_lines k (map (rule_of s) l))) e ∙ (unfold unlines rule_lines in refl) in
    rw (w.whole ∙ ap (λ (v : List ℕ). w.done ++ v) o ∙ append-nil w.done) w.wrote

pub seven-next : (p : Policy) (k : ℕ) → k < 7 → drop k (seven p) ≡ slot_of p k ∷ drop (k + 1) (seven p)
unfolding seven
seven-next p zero h = refl
seven-next p (suc zero) h = refl
seven-next p (suc (suc zero)) h = refl
seven-next p (suc (suc (suc zero))) h = refl
seven-next p (suc (suc (suc (suc zero)))) h = refl
seven-next p (suc (suc (suc (suc (suc zero))))) h = refl
seven-next p (suc (suc (suc (suc (suc (suc zero)))))) h = refl
seven-next p (suc (suc (suc (suc (suc (suc (suc k))))))) h = absurd (omega arith)

pub seven-end : (p : Policy) (k : ℕ) → 7 ≤ k → drop k (seven p) ≡ []
unfolding seven
seven-end p k h = drop_of_length-le (seven p) h

-- ---- the whole text
pub form-text : (v : PolicyView)
    → form v ≡ (policy_w ++ (34 ∷ []))
    ++ (v.name ++ ((34 ∷ 10 ∷ default_w) ++ (stance_word v.permit ++ ((10 ∷ []) ++ unlines (rule_lines 0 v.rules)))))
unfolding form form_lines unlines name_line default_line
form-text v = ap (λ (l : List ℕ). (policy_w ++ (34 ∷ [])) ++ l)
    (append_assoc v.name (34 ∷ []) (10 ∷ (default_w ++ (stance_word v.permit ++ 10 ∷ unlines (rule_lines 0 v.rules)))))

-- ---- how long it is: of a text of at most 65,536 bytes so few that they can be counted
part-long : (s : List ℕ) (a n : ℕ) → length (take n (drop a s)) ≤ length s
part-long s a n = omega (arith, length-take n (drop a s), length-drop a s)

trim-long : (s : List ℕ) → length (trim_of s) ≤ length s
unfolding trim_of
trim-long s = part-long s (trim_start s) (trim_end (started s))

joined-long : (ps : List (List ℕ)) → length (joined (full (map trim_of ps))) ≤ 2 * length (glue ps)
unfolding joined full glue
joined-long [] = omega arith
joined-long (p ∷ ps) = by (trim_of p) (trim-long p) (joined-long ps)
  where
    by : (t : List ℕ) → length t ≤ length p → length (joined (full (map trim_of ps))) ≤ 2 * length (glue ps)
        → length (joined (full (t ∷ map trim_of ps))) ≤ 2 * length (44 ∷ (p ++ glue ps))
    by [] h ih = omega (arith, length-append p (glue ps))
    by (x ∷ t) h ih = omega (arith, length-append t (joined (full (map trim_of ps))), length-append p (glue ps))

same-long : (ts : List (List ℕ)) → length (list_part ts) ≡ length (joined ts)
unfolding list_part joined
same-long [] = refl
same-long (t ∷ ts) = refl

list-long : (s : List ℕ) → length (list_part (tokens s)) ≤ 2 * length s + 2
unfolding tokens commas glue
list-long s =
    omega (
      arith,
      same-long (tokens s),
      joined-long (commas s),
      ap length (split-glue s),
    )

stance-long : (t : Bool) → length (stance_word t) ≤ 5
unfolding stance_word
stance-long true = omega arith
stance-long false = omega arith

line-long : (t : Bool) (d : ℕ) (s : List ℕ) → length (line_text t d (tokens s)) ≤ 2 * length s + 16
line-long t d s =
    let l = list_part (tokens s) in
    omega (
      arith,
      length-append (stance_word t) (32 ∷ (slug d ++ (l ++ (10 ∷ [])))),
      length-append (slug d) (l ++ (10 ∷ [])),
      length-append l (10 ∷ []),
      stance-long t,
      slug-long d,
      list-long s,
    )

module _ (s : List ℕ) (h : length s ≤ text_limit) where
  rule-long : (d : ℕ) (x : Slot) → length (rule_text d (rule_of s x)) ≤ 131088
  rule-long d x = by x.stance refl
    where
      list : List ℕ
      list = bytes_between s x.from (x.from + x.len)

      by : (t : Stance) → x.stance ≡ t → length (rule_text d (rule_of s x)) ≤ 131088
      by None e = rw (rule-none s x e) (omega arith)
      by Allow e = rw (text-allow s x d e) (omega (arith, line-long true d list, part-long s x.from (x.from + x.len - x.from)))
      by Deny e = rw (text-deny s x d e) (omega (arith, line-long false d list, part-long s x.from (x.from + x.len - x.from)))

  rules-long : (d : ℕ) (xs : List Slot) → length (unlines (rule_lines d (map (rule_of s) xs))) ≤ 131088 * length xs
  rules-long d [] = unfold unlines rule_lines in omega arith
  rules-long d (x ∷ xs) =
      omega (
        arith,
        ap length (rules-next d (rule_of s x) (map (rule_of s) xs)),
        length-append (rule_text d (rule_of s x)) (unlines (rule_lines (suc d) (map (rule_of s) xs))),
        rule-long d x,
        rules-long (suc d) xs,
      )

  name-long : (t : Bool) (a n : ℕ) → length (pick t (range s a n) no_name) ≤ 65548
  name-long true a n = omega (arith, part-long s a n)
  name-long false a n = omega arith

  pub form-few : (p : Policy) → 0 + length (form (says s p)) ≤ most
  unfolding says seven
  form-few p =
      let v = says s p in
      let rules = unlines (rule_lines 0 v.rules) in
      omega (
        arith,
        ap length (form-text v),
        length-append v.name (34 ∷ 10 ∷ (default_w ++ (stance_word v.permit ++ (10 ∷ rules)))),
        length-append (stance_word v.permit) (10 ∷ rules),
        name-long p.named p.start p.size,
        stance-long p.permit,
        rules-long 0 (seven p),
      )

-- ---- the writer's answers
module _ (s : List ℕ) (p : Policy) (d : List ℕ) where
  pub write-refused : {w : Refusal} → refused_by w ≡ policy_test s p → Writes s p d (Err w) d
  unfolding written follow
  write-refused e = record { answer = rw (← e); output = rw (← e) }

  pub write-formed : accepted tt ≡ policy_test s p → {r : Result ℕ Refusal} {x : List ℕ} → FormedFrom 0 (form (says s p)) d r x
      → Writes s p d r x
  unfolding written follow
  write-formed e f = rw (← e) (formed-first (form (says s p)) d f)
