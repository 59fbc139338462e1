-- No definition that a call tells says 3, a law for each: numbers, modules, tables, policies, the check. Assumes nothing.
use Prim.Native.Nat.{ℕ, zero, suc, ◌+◌, ◌-◌, min}
use mathlib.Core.Path.{◌≡◌, refl, sym, subst, ap}
use mathlib.Core.Logic.{◌⊎◌, inl, inr}
use mathlib.Core.Bool.{Bool, true, false, true≢false}
use mathlib.Core.List.{List, [], ◌∷◌}
use borrow.Author.Tests.{eqb-true}
use lib.Dec.{eqb, ltb, leb}
use lib.ListN.{length, take}
use Rattle.refusal.specs.Pick.{pick}
use Rattle.refusal.specs.Sizes.{file_limit, text_limit}
use Rattle.refusal.specs.Said.{Said, refused, Place, offset, spot, kind_at}
use Rattle.text.specs.Utf8.{up_to}
use Rattle.text.specs.Whole.{whole_text}
use Rattle.text.specs.Find.{same, begins, index_of}
use Rattle.text.specs.Piece.{Piece, beyond, trim}
use Rattle.table.specs.Shape.{limit}
use Rattle.table.specs.Testing.{first_from, tested}
use Rattle.table.specs.Listing.{fitted}
use Rattle.table.proofs.Numbers.{Numbers, fine, off, choice, follows, chain}
use Rattle.leb.specs.Groups.{Out, value, ends, overlong, oversize}
use Rattle.leb.specs.Reads.{part_bytes, told_at, narrowed, uleb_at, u32_at, sleb_at, taken_at, counted_at, checked, name_at}
use Rattle.wasm.specs.Module.{Sizes, module_at}
use Rattle.conform.specs.Sound.{limits}
use Rattle.strict.specs.Rules.{strict_at, tested_at}
use Rattle.strict.specs.Claims.{one_of, plain_refusals, Ruled}
use Rattle.strict.proofs.Numbered.{plain-numbers}
use Rattle.strict.proofs.Strictly.{strict-refuses}
use Rattle.domains.specs.Domain.{Perhaps, nothing, just, domain_of}
use Rattle.policy.specs.Piece.{until, past_byte, lines_of}
use Rattle.policy.specs.Directive.{policy_w, default_w, allow_w, deny_w, allow, deny, Directive, defaulted, plain_by, listed_by, rule_directive}
use Rattle.policy.specs.Directive.{policy_worded, policy_spoken, policy_core, policy_directive, fault}
use Rattle.policy.specs.Reader.{run, read_with, zero_policy, obey, read_policy}
use Rattle.policy.specs.Eight.{eight, first_bad, ranges_test, policy_test}
use Rattle.policy.specs.declared.Policy.{Policy}
use Rattle.output.specs.Bytes.{room_for}
use Rattle.policy_text.specs.Token.{next_token, all_tokens}
use Rattle.policy_text.specs.Writer.{written}
use Rattle.import_rows.specs.Queries.{imports_tested, asked}
use Rattle.requirements.specs.Requirements.{module_rows}
use Rattle.verdicts.specs.Evaluate.{first_past, domains_test, evaluated}
use Rattle.checking.specs.Checking.{weighed, held_to, read_then, checked_of}
use Rattle.listed.specs.Tokens.{tokens_read}
use Rattle.capi.specs.Policies.{token_read, rewritten}

-- the number of a refusal is not 3
abbrev pub Spares : {X : Type 0} → Said X → Type 0
Spares x = Numbers (λ n. eqb n 3 ≡ false) x

-- ---- numbers and names
told_at-spares : {X : Type 0} (at : ℕ) (o : Out X) → Spares (told_at at o)
unfolding told_at
told_at-spares at (value v k) = fine _
told_at-spares at (ends k) = off 1 (offset (at + k)) refl
told_at-spares at overlong = off 17 (offset at) refl
told_at-spares at oversize = off 18 (offset at) refl

pub uleb : (s : List ℕ) (at : ℕ) → Spares (uleb_at s at)
unfolding uleb_at
uleb s at = told_at-spares at _

pub sleb : (s : List ℕ) (at : ℕ) → Spares (sleb_at s at)
unfolding sleb_at
sleb s at = told_at-spares at _

pub narrow : (s : List ℕ) (at : ℕ) → Spares (u32_at s at)
unfolding u32_at narrowed
narrow s at = chain (uleb_at s at) _ (uleb s at) (λ v next. choice (leb v 4294967295) (fine _) (off 19 (offset next) refl))

taken : (s : List ℕ) (at n : ℕ) → Spares (taken_at s at n)
unfolding taken_at
taken s at n =
    choice (ltb (length s) at) (off 1 (offset at) refl)
    (choice (ltb (18446744073709551615 - at) n) (off 5 (kind_at at at) refl)
    (choice (leb (at + n) (length s)) (fine _) (off 1 (offset at) refl)))

pub named : (s : List ℕ) (at : ℕ) → Spares (name_at s at)
unfolding name_at counted_at checked
named s at =
    chain (counted_at s at) _ (chain (u32_at s at) _ (narrow s at) (λ n next. taken s next n))
    (λ p next. choice (eqb (up_to (part_bytes s p)) p.len) (fine _) (off 4 (offset p.from) refl))

-- ---- modules
pub read : (b : List ℕ) (z : Sizes) → Spares (module_at b z)
read b z = record { number = λ n p e. by n (eqb n 3) refl (plain-numbers b z n p e) } where
  by : (n : ℕ) (t : Bool) → eqb n 3 ≡ t → one_of n plain_refusals ≡ true → eqb n 3 ≡ false
  by n false t h = t
  by n true t h =
      let z : false ≡ true = subst (λ (k : ℕ). one_of k plain_refusals ≡ true) (eqb-true n 3 t) h in
      absurd (true≢false (sym z))

-- a strict read has the plain one's numbers, and 20
strictly : (b : List ℕ) (z : Sizes) → Spares (strict_at b z)
strictly b z = record { number = λ n p e. by n p (strict-refuses b z n p e) } where
  by : (n : ℕ) (p : Place) → (module_at b z ≡ refused n p) ⊎ Ruled b z n p → eqb n 3 ≡ false
  by n p (inl h) = (read b z).number n p h
  by n p (inr r) = ap (λ (k : ℕ). eqb k 3) r.number_is

pub tested-strictly : (b : List ℕ) → Spares (tested_at b limits)
unfolding tested_at
tested-strictly b = follows (strict_at b limits) _ (strictly b limits) (λ m. fine _)

-- ---- tables
first-bad : (bad : ℕ → Bool) (i k : ℕ) → Spares (first_from bad i k)
unfolding first_from
first-bad bad i zero = fine _
first-bad bad i (suc k) = choice (bad i) (off 15 (spot i) refl) (first-bad bad (i + 1) k)

pub table : (room n : ℕ) (bad : ℕ → Bool) → Spares (tested room n bad)
unfolding tested
table room n bad = choice (ltb room n) (off 15 (spot room) refl) (first-bad bad 0 n)

pub rows : (tn room : ℕ) (l : List ℕ) → Spares (fitted tn room l)
unfolding fitted
rows tn room l = choice (leb (length l) room) (fine _) (off 13 (spot tn) refl)

-- ---- policies
pub text : (s : List ℕ) → Spares (whole_text s)
unfolding whole_text
text s = choice (ltb text_limit (length s)) (off 14 (spot 0) refl) (choice (ltb (up_to s) (length s)) (off 4 (offset (up_to s)) refl) (fine _))

-- a fault of a line is 6, 7 or 8
record Faulty (d : Directive) : Type 0 where
  other : eqb (fault d) 3 ≡ false

either : (t : Bool) {a b : Directive} → Faulty a → Faulty b → Faulty (pick t a b)
either true h k = h
either false h k = k

plain_by-faulty : (t : Bool) (d : Perhaps) → Faulty (plain_by t d)
unfolding fault plain_by
plain_by-faulty t nothing = record { other = refl }
plain_by-faulty t (just d) = record { other = refl }

listed_by-faulty : (t : Bool) (d : Perhaps) (p : Piece) → Faulty (listed_by t d p)
unfolding fault listed_by
listed_by-faulty t nothing p = record { other = refl }
listed_by-faulty t (just d) p = record { other = refl }

ruled : (t : Bool) (p : Piece) → Faulty (rule_directive t p)
unfolding rule_directive
ruled t p =
    either (ltb (index_of 58 p.bytes) (length p.bytes)) (listed_by-faulty t (domain_of (trim (until 58 p)).bytes) (past_byte 58 p))
    (plain_by-faulty t (domain_of (trim p).bytes))

preset-by : (b : List ℕ) → Faulty (defaulted b)
unfolding defaulted fault
preset-by b = either (same allow b) (record { other = refl }) (either (same deny b) (record { other = refl }) (record { other = refl }))

worded : (c : Piece) → Faulty (policy_worded c)
unfolding policy_worded fault
worded c =
    either (begins policy_w c.bytes) (record { other = refl })
    (either (begins default_w c.bytes) (preset-by (trim (beyond 8 c)).bytes)
    (either (begins allow_w c.bytes) (ruled true (beyond 6 c))
    (either (begins deny_w c.bytes) (ruled false (beyond 5 c)) (record { other = refl }))))

directed : (p : Piece) → Faulty (policy_directive p)
unfolding policy_directive policy_spoken fault
directed p = either (eqb (length (policy_core p).bytes) 0) (record { other = refl }) (worded (policy_core p))

lines : (n : ℕ) (st : Policy) (ps : List Piece) → Spares (run obey n st ps)
unfolding run
lines n st [] = fine _
lines n st (p ∷ ps) = by (fault (policy_directive p)) (directed p).other (lines (n + 1) (obey (policy_directive p) st) ps) where
  by : (k : ℕ) → eqb k 3 ≡ false → Spares (run obey (n + 1) (obey (policy_directive p) st) ps)
      → Spares {X = Policy} (elim k [ zero ↦ run obey (n + 1) (obey (policy_directive p) st) ps | suc j ↦ refused (suc j) (spot n) ])
  by zero h rest = rest
  by (suc k) h rest = off (suc k) (spot n) h

pub policy : (s : List ℕ) → Spares (read_policy s)
unfolding read_policy read_with
policy s = follows (whole_text s) _ (text s) (λ u. lines 1 zero_policy (lines_of s))

policy-tested : (s : List ℕ) (p : Policy) → Spares (policy_test s p)
unfolding policy_test ranges_test
policy-tested s p =
    follows (whole_text s) _ (text s) (λ u.
    choice (ltb (first_bad (length s) (eight p)) 8) (off 15 (spot (first_bad (length s) (eight p))) refl) (fine _))

pub room : (w : List ℕ) (n : ℕ) → Spares (room_for w n)
unfolding room_for
room w n = choice (ltb n (length w)) (off 16 (spot (length w)) refl) (fine _)

pub next : (s : List ℕ) (d from : ℕ) → Spares (token_read s d from)
unfolding next_token
next s d from = follows (read_policy s) _ (policy s) (λ p. choice (ltb d 7) (follows (policy_test s p) _ (policy-tested s p) (λ u. fine _)) (fine _))

pub all : (s : List ℕ) (d : ℕ) → Spares (tokens_read s d)
unfolding tokens_read all_tokens
all s d = follows (read_policy s) _ (policy s) (λ p. choice (ltb d 7) (follows (policy_test s p) _ (policy-tested s p) (λ u. fine _)) (fine _))

pub rewrite : (s : List ℕ) (n : ℕ) → Spares (rewritten s n)
unfolding written
rewrite s n = follows (read_policy s) _ (policy s) (λ p. follows (policy_test s p) _ (policy-tested s p) (λ u. room _ n))

-- ---- the check
asking : (file imports : List ℕ) (n k : ℕ) → Spares (module_rows file imports n k)
unfolding module_rows asked imports_tested
asking file imports n k =
    choice (ltb file_limit (length file)) (off 14 (spot 0) refl)
    (follows (imports_tested (length file) imports n) _ (table _ _ _) (λ u. rows 7 k _))

evaluating : (ns : List ℕ) (n : ℕ) (p : Policy) → Spares (evaluated ns n p)
unfolding evaluated domains_test
evaluating ns n p =
    follows (domains_test ns n) _
    (choice (ltb (min (length ns) (limit 7)) n) (off 15 (spot (min (length ns) (limit 7))) refl)
    (choice (ltb (first_past (take n ns)) n) (off 15 (spot (first_past (take n ns))) refl) (fine _)))
    (λ u. fine _)

pub checking : (file s : List ℕ) → Spares (checked_of file s)
unfolding checked_of read_then held_to weighed
checking file s =
    choice (ltb file_limit (length file)) (off 14 (spot 0) refl)
    (follows (whole_text s) _ (text s) (λ u.
    follows (module_at file limits) _ (read file limits) (λ m.
    follows (read_policy s) _ (policy s) (λ p.
    follows (module_rows file _ _ _) _ (asking file _ _ _) (λ l. evaluating _ _ p)))))
