-- A policy that was read, written again: at most half again as long as its text, and 36 bytes. Assumes nothing.
--
-- Twice the bytes of a policy are counted (`view_cost`): 70 of the one of no text. Each line adds at most three times its bytes, and 2:
-- `deny net` gives `deny network`, LF, and a token `a` with its comma gives `, a`. A line that ends has one byte more for this 2.
use mathlib.Core.Path.{◌≡◌, refl, sym, ap, ◌∙◌}
use mathlib.Core.Bool.{Bool, true, false}
use mathlib.Core.List.{List, [], ◌∷◌, ◌++◌, map}
use Prim.Native.Nat.{ℕ, zero, suc, ◌+◌, ◌*◌, ◌≤◌, ◌<◌, min}
use native.Mathlib.Omega.{arith}
use native.Mathlib.Nat.{not-suc-le-zero, zero-add, add-zero}
use lib.Dec.{eqb, ltb}
use lib.ListN.{length, take, drop, set, length-append, length-drop, length-take}
use borrow.Author.Tests.{ltb-true, ltb-false}
use Rattle.refusal.specs.Pick.{pick}
use Rattle.refusal.specs.Sizes.{text_limit}
use Rattle.refusal.specs.Said.{Said, accepted, refused, offset, spot}
use Rattle.refusal.proofs.Following.{never, one_value, followed}
use Rattle.text.specs.Find.{index_of, begins, same}
use Rattle.text.specs.Lines.{end_by, cr_before, line_len, line_step}
use Rattle.text.specs.Trim.{trim_start, trim_end, trim_of}
use Rattle.text.specs.Utf8.{up_to}
use Rattle.text.specs.Piece.{Piece, beyond, trim, shorn}
use Rattle.text.specs.Whole.{whole_text}
use Rattle.text.proofs.FindLaws.{same-is}
use Rattle.text.proofs.PieceLaws.{trim-bytes, begins-le}
use Rattle.domains.specs.Domain.{Perhaps, nothing, just, domain_of, words, word_in, slug, slugs, fs, env, clock, network, random, stdio}
use Rattle.domains.specs.Domain.{unknown}
use Rattle.domains.specs.Domain.{net, rand}
use Rattle.policy.specs.Piece.{until, past_byte, bare, quotes, lines_from, lines_of}
use Rattle.policy.specs.Directive.{policy_w, default_w, allow_w, deny_w, allow, deny, Directive, blank, wrong, called, preset, plain}
use Rattle.policy.specs.Directive.{listed, defaulted, plain_by, listed_by, rule_directive, policy_worded, policy_spoken, policy_core}
use Rattle.policy.specs.Directive.{policy_directive, fault}
use Rattle.policy.specs.Reader.{run, read_with, read_policy}
use Rattle.policy.specs.View.{RuleView, silent, ruling, PolicyView, Parts, comma, split, commas, full, tokens, first_view, heed, meaning}
use Rattle.policy.specs.View.{says}
use Rattle.policy.specs.declared.Policy.{Policy}
use Rattle.policy.proofs.Lines.{lines_next, step_less}
use Rattle.policy.proofs.Meaning.{view, map_said, policy-means}
use Rattle.policy_text.specs.Writer.{stance_word, name_line, default_line, joined, list_part, rule_line, rule_lines, form_lines}
use Rattle.policy_text.specs.Writer.{unlines, form}
use Rattle.policy_text.proofs.Rewrite.{read-seven, says-view}

-- ---- a list of tokens
-- twice their bytes, with two more before each
unfoldable cost : List (List ℕ) → ℕ
cost [] = 0
cost (t ∷ ts) = 2 * length t + 4 + cost ts

-- their bytes, with one more for each
unfoldable wide : List (List ℕ) → ℕ
wide [] = 0
wide (t ∷ ts) = length t + 1 + wide ts

joined-long : (ts : List (List ℕ)) → 2 * length (joined ts) ≤ cost ts
unfolding joined cost
joined-long [] = omega arith
joined-long (t ∷ ts) = omega (arith, length-append t (joined ts), joined-long ts)

list-long : (ts : List (List ℕ)) → 2 * length (list_part ts) ≤ cost ts
unfolding list_part cost
list-long [] = omega arith
list-long (t ∷ ts) = omega (arith, length-append t (joined ts), joined-long ts)

take_short : (n : ℕ) (s : List ℕ) → length (take n s) ≤ length s
take_short n s = omega (arith, length-take n s)

drop-short : (n : ℕ) (s : List ℕ) → length (drop n s) ≤ length s
drop-short n s = omega (arith, length-drop n s)

trim-short : (t : List ℕ) → length (trim_of t) ≤ length t
unfolding trim_of
trim-short t =
    let b = drop (trim_start t) t in
    omega (arith, take_short (trim_end b) b, drop-short (trim_start t) t)

-- a token that is not empty weighs three halves of its bytes with one more, at most
full-cost : (ts : List (List ℕ)) → cost (full (map trim_of ts)) ≤ 3 * wide ts
unfolding full cost wide
full-cost [] = omega arith
full-cost (t ∷ ts) = by (trim_of t) (trim-short t) (full-cost ts)
  where
    by : (u : List ℕ) → length u ≤ length t → cost (full (map trim_of ts)) ≤ 3 * wide ts
        → cost (full (u ∷ map trim_of ts)) ≤ 3 * (length t + 1 + wide ts)
    by [] l ih = omega arith
    by (x ∷ u) l ih = omega arith

split-wide : (s : List ℕ) → wide ((split s).head ∷ (split s).rest) ≡ suc (length s)
unfolding split wide
split-wide [] = refl
split-wide (x ∷ s) = by (eqb x 44) (split s) (split-wide s)
  where
    by : (t : Bool) (ps : Parts) → wide (ps.head ∷ ps.rest) ≡ suc (length s)
        → wide ((comma t x ps).head ∷ (comma t x ps).rest) ≡ suc (suc (length s))
    by true ps ih = omega (arith, ih)
    by false ps ih = omega (arith, ih)

tokens-cost : (s : List ℕ) → cost (tokens s) ≤ 3 * suc (length s)
unfolding tokens commas
tokens-cost s = omega (arith, full-cost ((split s).head ∷ (split s).rest), split-wide s)

-- ---- a policy
-- the rule of domain d: its line with the LF, twice
unfoldable rule_cost : ℕ → RuleView → ℕ
rule_cost d silent = 0
rule_cost d (ruling t ts) = 2 * length (stance_word t) + 2 * length (slug d) + 4 + cost ts

unfoldable rules_cost : ℕ → List RuleView → ℕ
rules_cost d [] = 0
rules_cost d (r ∷ rs) = rule_cost d r + rules_cost (suc d) rs

unfoldable view_cost : PolicyView → ℕ
view_cost v = 2 * length v.name + 2 * length (stance_word v.permit) + 38 + rules_cost 0 v.rules

set-cost : (e : ℕ) (rs : List RuleView) (d : ℕ) (r : RuleView) → rules_cost e (set rs d r) ≤ rules_cost e rs + rule_cost (e + d) r
unfolding rules_cost
set-cost e [] d r = omega arith
set-cost e (q ∷ rs) zero r = let z : rule_cost (e + 0) r ≡ rule_cost e r = ap (λ k. rule_cost k r) (add-zero e) in omega (arith, z)
set-cost e (q ∷ rs) (suc d) r =
    let z : rule_cost (suc e + d) r ≡ rule_cost (e + suc d) r = (let y : suc e + d ≡ e + suc d = omega arith in ap (λ k. rule_cost k r) y) in
    omega (arith, set-cost (suc e) rs d r, z)

stance-long : (t : Bool) → (4 ≤ length (stance_word t)) × (length (stance_word t) ≤ 5)
unfolding stance_word
stance-long true = (omega arith, omega arith)
stance-long false = (omega arith, omega arith)

rule-long : (t : Bool) (d : ℕ) (ts : List (List ℕ)) → 2 * length (rule_line t d ts) + 2 ≤ rule_cost d (ruling t ts)
unfolding rule_line rule_cost
rule-long t d ts =
    omega (arith, length-append (stance_word t) (32 ∷ (slug d ++ list_part ts)), length-append (slug d) (list_part ts), list-long ts)

rules-long : (d : ℕ) (rs : List RuleView) → 2 * length (unlines (rule_lines d rs)) ≤ rules_cost d rs
unfolding rule_lines unlines rules_cost
rules-long d [] = omega arith
rules-long d (silent ∷ rs) = omega (arith, rules-long (suc d) rs)
rules-long d (ruling t ts ∷ rs) =
    omega (arith, rules-long (suc d) rs, rule-long t d ts, length-append (rule_line t d ts) (10 ∷ unlines (rule_lines (suc d) rs)))

name-long : (n : List ℕ) → length (name_line n) ≡ length n + 9
unfolding name_line
name-long n = omega (arith, length-append n (34 ∷ []))

default-long : (t : Bool) → length (default_line t) ≡ 8 + length (stance_word t)
unfolding default_line
default-long t = omega arith

form-long : (v : PolicyView) → 2 * length (form v) ≤ view_cost v
unfolding form form_lines unlines view_cost
form-long v =
    let rest = unlines (rule_lines 0 v.rules) in
    omega (
      arith,
      length-append (name_line v.name) (10 ∷ (default_line v.permit ++ 10 ∷ rest)),
      length-append (default_line v.permit) (10 ∷ rest),
      name-long v.name,
      default-long v.permit,
      rules-long 0 v.rules,
    )

-- ---- a word for a domain: its slug is longer by four letters at most, where the word has three
module _ (s : List ℕ) (d : ℕ) where
  abbrev Wide : Type 0
  Wide = 2 * length (slug d) ≤ 3 * length s + 5

  a_word : (w : List ℕ) (k : ℕ) (rest : Perhaps) → 2 * length (slug k) ≤ 3 * length w + 5 → (rest ≡ just d → Wide)
      → pick (same w s) (just k) rest ≡ just d
      → Wide
  a_word w k rest h f e = by (same w s) refl e
    where
      by : (t : Bool) → same w s ≡ t → pick t (just k) rest ≡ just d → Wide
      by true q e =
          let z : k ≡ d = cc in
          let y : length s ≡ length w = ap length (same-is w s q) in
          let x : length (slug k) ≡ length (slug d) = ap (λ n. length (slug n)) z in
          omega arith
      by false q e = f e

  word_wide : domain_of s ≡ just d → Wide
  unfolding domain_of words word_in slug slugs
  word_wide =
      a_word fs 0 _ (omega arith) (a_word env 1 _ (omega arith) (a_word clock 2 _ (omega arith) (a_word network 3 _ (omega arith)
      (a_word random 4 _ (omega arith) (a_word stdio 5 _ (omega arith) (a_word unknown 6 _ (omega arith)
      (a_word net 3 _ (omega arith) (a_word rand 4 _ (omega arith)
      (λ e. let z : ◌≡◌ {A = ℕ} 0 1 = cc in absurd (omega arith))))))))))

-- ---- what a line of n bytes can say; and the number of a fault
data Short (n : ℕ) : Directive → Type 0 where
  s-blank : Short n blank
  s-wrong : {k : ℕ} → k ≤ 8 → Short n (wrong k)
  s-called : {p : Piece} → length p.bytes ≤ n → Short n (called p)
  s-preset : {t : Bool} → Short n (preset t)
  s-plain : {t : Bool} {d : ℕ} → 2 * length (stance_word t) + 2 * length (slug d) + 2 ≤ 3 * n → Short n (plain t d)
  s-listed : {t : Bool} {d : ℕ} {p : Piece} → 2 * length (stance_word t) + 2 * length (slug d) + 3 * length p.bytes + 5 ≤ 3 * n
      → Short n (listed t d p)

module _ (n : ℕ) where
  choose : (t : Bool) (a b : Directive) → (t ≡ true → Short n a) → (t ≡ false → Short n b) → Short n (pick t a b)
  choose true a b f g = f refl
  choose false a b f g = g refl

  trimmed-short : (m : ℕ) (p : Piece) → length p.bytes ≤ m → length (trim p).bytes ≤ m
  trimmed-short m p h = rw (trim-bytes p) (omega (arith, trim-short p.bytes))

  plain-short : (t : Bool) (w : List ℕ) → length w + length (stance_word t) + 1 ≤ n → Short n (plain_by t (domain_of w))
  unfolding plain_by
  plain-short t w h = by (domain_of w) refl
    where
      by : (d : Perhaps) → domain_of w ≡ d → Short n (plain_by t d)
      by nothing q = s-wrong {k = 8} (omega arith)
      by (just d) q = s-plain {t = t} {d = d} (omega (arith, word_wide w d q, (stance-long t).0))

  listed-short : (t : Bool) (w : List ℕ) (p : Piece) → length w + length p.bytes + length (stance_word t) + 2 ≤ n
      → Short n (listed_by t (domain_of w) p)
  unfolding listed_by
  listed-short t w p h = by (domain_of w) refl
    where
      by : (d : Perhaps) → domain_of w ≡ d → Short n (listed_by t d p)
      by nothing q = s-wrong {k = 8} (omega arith)
      by (just d) q = s-listed {t = t} {d = d} {p = p} (omega (arith, word_wide w d q, (stance-long t).0))

  ruled-short : (t : Bool) (b : Piece) → length b.bytes + length (stance_word t) + 1 ≤ n → Short n (rule_directive t b)
  unfolding rule_directive
  ruled-short t b h =
      let i = index_of 58 b.bytes in
      choose (ltb i (length b.bytes)) _ _
      (λ e.
      let l = ltb-true i (length b.bytes) e in
      let w = trimmed-short i (until 58 b) (omega (arith, length-take i b.bytes)) in
      listed-short t (trim (until 58 b)).bytes (past_byte 58 b) (omega (arith, w, length-drop (i + 1) b.bytes)))
      (λ e. plain-short t (trim b).bytes (omega (arith, trimmed-short (length b.bytes) b (omega arith))))

  defaulted-short : (l : List ℕ) → Short n (defaulted l)
  unfolding defaulted
  defaulted-short l =
      choose (same allow l) _ _ (λ e. s-preset) (λ e. choose (same deny l) _ _ (λ e. s-preset) (λ e. s-wrong (omega arith)))

  bare-short : (p : Piece) → length p.bytes ≤ n → length (bare p).bytes ≤ n
  unfolding bare
  bare-short p h =
      let b = drop (quotes p.bytes) p.bytes in
      omega (arith, take_short (shorn 34 b) b, drop-short (quotes p.bytes) p.bytes)

  worded-short : (c : Piece) → length c.bytes ≤ n → Short n (policy_worded c)
  unfolding policy_worded stance_word
  worded-short c h =
      choose (begins policy_w c.bytes) _ _
      (λ e. s-called (bare-short (trim (beyond 7 c)) (trimmed-short n (beyond 7 c) (omega (arith, drop-short 7 c.bytes)))))
      (λ e. choose (begins default_w c.bytes) _ _
      (λ e. defaulted-short (trim (beyond 8 c)).bytes)
      (λ e. choose (begins allow_w c.bytes) _ _
      (λ e. ruled-short true (beyond 6 c) (omega (arith, length-drop 6 c.bytes, begins-le allow_w c.bytes e)))
      (λ e. choose (begins deny_w c.bytes) _ _
      (λ e. ruled-short false (beyond 5 c) (omega (arith, length-drop 5 c.bytes, begins-le deny_w c.bytes e)))
      (λ e. s-wrong (omega arith)))))

  directive-short : (p : Piece) → length p.bytes ≤ n → Short n (policy_directive p)
  unfolding policy_directive policy_spoken policy_core
  directive-short p h =
      choose (eqb (length (policy_core p).bytes) 0) _ _ (λ e. s-blank)
      (λ e. worded-short (policy_core p) (trimmed-short n (until 35 p) (omega (arith, take_short (index_of 35 p.bytes) p.bytes))))

fault-least : (n : ℕ) (d : Directive) → Short n d → fault d ≤ 8
unfolding fault
fault-least n blank s = omega arith
fault-least n (wrong k) (s-wrong h) = h
fault-least n (called p) s = omega arith
fault-least n (preset t) s = omega arith
fault-least n (plain t d) s = omega arith
fault-least n (listed t d p) s = omega arith

pub fault-small : (p : Piece) → fault (policy_directive p) ≤ 8
fault-small p = fault-least (length p.bytes) (policy_directive p) (directive-short (length p.bytes) p (omega arith))

-- ---- the policy after it
rule-set : (v : PolicyView) (d : ℕ) (r : RuleView) → rules_cost 0 (set v.rules d r) ≤ rules_cost 0 v.rules + rule_cost d r
rule-set v d r = let z : rule_cost (0 + d) r ≡ rule_cost d r = ap (λ k. rule_cost k r) (zero-add d) in omega (arith, set-cost 0 v.rules d r, z)

heed-cost : (n : ℕ) (d : Directive) (v : PolicyView) → Short n d → view_cost (heed d v) ≤ view_cost v + 3 * n + 2
unfolding heed view_cost rule_cost
heed-cost n blank v s = omega arith
heed-cost n (wrong k) v s = omega arith
heed-cost n (called p) v (s-called h) = omega arith
heed-cost n (preset t) v s = omega (arith, (stance-long t).1, (stance-long v.permit).0)
heed-cost n (plain t d) v (s-plain h) =
    let z : cost [] ≡ 0 = unfold cost in refl in
    omega (arith, rule-set v d (ruling t []), z)
heed-cost n (listed t d p) v (s-listed h) = omega (arith, rule-set v d (ruling t (tokens p.bytes)), tokens-cost p.bytes)

-- ---- all lines
unfoldable pub total : List Piece → ℕ
total [] = 0
total (p ∷ ps) = 3 * length p.bytes + 2 + total ps

run-cost : (n : ℕ) (v w : PolicyView) (ps : List Piece) → run heed n v ps ≡ accepted w → view_cost w ≤ view_cost v + total ps
unfolding run total
run-cost n v w [] e = let k : v ≡ w = one_value e in rw (← k) (omega arith)
run-cost n v w (p ∷ ps) e = by (fault (policy_directive p)) refl (run-cost (n + 1) (heed (policy_directive p) v) w ps)
  where
    by : (k : ℕ) → fault (policy_directive p) ≡ k
        → (run heed (n + 1) (heed (policy_directive p) v) ps ≡ accepted w → view_cost w ≤ view_cost (heed (policy_directive p) v) + total ps)
        → view_cost w ≤ view_cost v + (3 * length p.bytes + 2 + total ps)
    by zero q ih =
        let i = ih (rw (q, run) at e) in
        let c = heed-cost (length p.bytes) (policy_directive p) v (directive-short (length p.bytes) p (omega arith)) in
        omega (arith, i, c)
    by (suc m) q ih = absurd (never (rw (q, run) at e))

end-le : (t : Bool) (n : ℕ) → end_by t n ≤ n
end-le true n = omega arith
end-le false n = omega arith

-- a line ends before its LF; or there is none, and it is the last
line-ends : (r : List ℕ) {A : Type 0} → (line_len r + 1 ≤ line_step r → A) → (length r ≤ line_step r → A) → A
unfolding line_len line_step
line-ends r {A} f g = by (ltb (index_of 10 r) (length r)) refl f g
  where
    end : end_by (cr_before r (index_of 10 r)) (index_of 10 r) ≤ index_of 10 r
    end = end-le (cr_before r (index_of 10 r)) (index_of 10 r)

    by : (t : Bool) → ltb (index_of 10 r) (length r) ≡ t
        → (end_by (cr_before r (index_of 10 r)) (index_of 10 r) + 1 ≤ pick t (index_of 10 r + 1) (index_of 10 r) → A)
        → (length r ≤ pick t (index_of 10 r + 1) (index_of 10 r) → A)
        → A
    by true q f g = f (omega (arith, end))
    by false q f g = g (ltb-false (index_of 10 r) (length r) q)

-- the lines of r: together they count as much as r, and 2 more if there is one; there are no more of them than bytes
abbrev Lines : ℕ → List ℕ → Type 0
Lines at r = (total (lines_from at 0 r) ≤ 3 * length r + min 2 (2 * length r)) × (length (lines_from at 0 r) ≤ length r)

no_lines : (at : ℕ) (r : List ℕ) → length r ≤ 0 → Lines at r
unfolding lines_from total
no_lines at [] h = (omega arith, omega arith)
no_lines at (x ∷ r) h = absurd (not-suc-le-zero h)

a-line : (at : ℕ) (r : List ℕ)
    → (0 < length r → Lines (at + line_step r) (drop (line_step r) r) × (length (drop (line_step r) r) < length r))
    → Lines at r
unfolding total
a-line at [] ih = no_lines at [] (omega arith)
a-line at (x ∷ r) ih =
    let i = ih (omega arith) in
    let s = x ∷ r in
    rw (lines_next at (x ∷ r) (omega arith)) (
      line-ends s (λ h. omega (arith, i.0.0, length-drop (line_step s) s, length-take (line_len s) s))
          (λ h. omega (arith, i.0.0, length-drop (line_step s) s, length-take (line_len s) s)),
      omega (arith, i.0.1, i.1),
    )

pub all_lines : (n at : ℕ) (r : List ℕ) → length r ≤ n → Lines at r
all_lines zero at r h = no_lines at r h
all_lines (suc n) at r h = a-line at r (λ k. (all_lines n (at + line_step r) (drop (line_step r) r) (step_less n r h k), step_small r k))
  where
    step_small : (r : List ℕ) → 0 < length r → length (drop (line_step r) r) < length r
    step_small [] k = absurd (omega arith)
    step_small (x ∷ r) k = omega (arith, step_less (length r) (x ∷ r) (omega arith) (omega arith))

-- ---- a text that is read
pub whole-short : (s : List ℕ) → whole_text s ≡ accepted tt → length s ≤ text_limit
unfolding whole_text
whole-short s e = by (ltb text_limit (length s)) refl e
  where
    by : (t : Bool) → ltb text_limit (length s) ≡ t
        → ◌≡◌ {A = Said (Unit {0})}
        (pick t (refused 14 (spot 0)) (pick (ltb (up_to s) (length s)) (refused 4 (offset (up_to s))) (accepted tt))) (accepted tt)
        → length s ≤ text_limit
    by true q e = absurd (never e)
    by false q e = ltb-false text_limit (length s) q

first-cost : view_cost first_view ≡ 70
unfolding view_cost first_view rules_cost rule_cost stance_word
first-cost = refl

meaning-cost : (s : List ℕ) (v : PolicyView) → meaning s ≡ accepted v → (view_cost v ≤ 3 * length s + 72) × (length s ≤ text_limit)
unfolding meaning read_with lines_of
meaning-cost s v e =
    let f = followed (whole_text s) (λ ok. run heed 1 first_view (lines_from 0 0 s)) e in (
      omega (arith, run-cost 1 first_view v (lines_from 0 0 s) f.then, first-cost, (all_lines (length s) 0 s (omega arith)).0),
      whole-short s f.first,
    )

module _ (s : List ℕ) (p : Policy) (e : read_policy s ≡ accepted p) where
  means : meaning s ≡ accepted (view s p)
  means = sym (policy-means s) ∙ ap (map_said (view s)) e

  pub longer-by-half : 2 * length (form (says s p)) ≤ 3 * length s + 72
  longer-by-half = rw (says-view s p (read-seven s p e)) (omega (arith, form-long (view s p), (meaning-cost s (view s p) means).0))

  pub rewritten-most : length (form (says s p)) ≤ 98340
  rewritten-most = omega (arith, longer-by-half, (meaning-cost s (view s p) means).1)
