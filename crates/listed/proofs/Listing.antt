-- The tokens of a list, counted and put one after another. Assumes nothing.
use Rattle.std.specs.Prelude.{Option, Some, None, Result, Ok, Err}
use Prim.Native.Nat.{ℕ, ◌+◌, ◌*◌, ◌≤◌, ◌<◌}
use native.Mathlib.Omega.{arith}
use mathlib.Core.Path.{◌≡◌, refl, sym, ap, ◌∙◌, subst}
use mathlib.Core.Bool.{true}
use mathlib.Core.List.{List, [], ◌∷◌, ◌++◌}
use lib.ListN.{length}
use lib.Dec.{leb}
use borrow.Author.Tests.{le-leb}
use Rattle.refusal.specs.Said.{Said, accepted, refused_by, said_by, spot}
use Rattle.refusal.specs.declared.Part.{Part}
use Rattle.refusal.specs.declared.Refusal.{Refusal}
use Rattle.refusal.proofs.Following.{follow-stops, follow-goes}
use Rattle.refusal.specs.Sizes.{text_limit}
use Rattle.table.specs.Table.{cells, put}
use Rattle.table.proofs.Laws.{length-cells, length-put}
use Rattle.output.specs.Cells.{cell_bytes, Puts}
use Rattle.output.proofs.CellLaws.{length-bytes, bytes-append}
use Rattle.output.proofs.Putting.{put-none, put-append}
use Rattle.text.specs.Piece as pieces
use Rattle.domains.specs.Domain.{nothing, just, domain_number, numbered}
use Rattle.domains.specs.declared.Domain.{Domain}
use Rattle.policy.specs.Eight.{policy_test}
use Rattle.policy.specs.Reader.{read_policy}
use Rattle.policy.specs.declared.Policy.{Policy}
use Rattle.policy.proofs.EightLaws.{tested}
use Rattle.verdicts.specs.Evaluate.{effective_of}
use Rattle.verdicts.specs.declared.Rule.{Rule}
use Rattle.output.specs.Bytes.{room_for}
use Rattle.policy_text.specs.Token as tokens
use Rattle.policy_text.specs.Token.{token, token_from, found_token, tokens_in, all_tokens}
use Rattle.policy_text.specs.declared.token.Token.{Token}
use Rattle.policy_text.proofs.Asking.{no-domain, a-domain, read-stops, read_goes}
use Rattle.policy_text.proofs.TokenLaws.{list-fits}
use Rattle.policy_text.proofs.TokenLists.{More, tokens-done, tokens-more}
use Rattle.listed.specs.declared.tokens.TokensTold.{TokensTold}
use Rattle.listed.specs.Delivered.{Lays, Delivers}
use Rattle.listed.specs.Tokens.{no_tokens, tokens_by, token_cells, tokens_bytes, tokens_told, tokens_asked, tokens_read}
use Rattle.listed.proofs.Laying.{Begins, whole, no_room, lays, delivers}

-- ---- the first token of what is left, or none
module _ (s : List ℕ) (i e : ℕ) where
  abbrev Told : Option Token → Type 0
  Told t = found_token t ≡ token_from i 0 (pieces.bytes_between s i e)

  pub found-more : {t : Option Token} {x : Token} → Told t → t ≡ Some x → More s i e x.part.from x.part.len x.next
  found-more {t} {x} h q =
      let z : token_from i 0 (pieces.bytes_between s i e) ≡ token x.part.from x.part.len x.next = sym h ∙ ap found_token q in
      tokens-more s i e z

  pub found_none : {t : Option Token} → Told t → t ≡ None → tokens_in s i e ≡ []
  found_none h q =
      let z : token_from i 0 (pieces.bytes_between s i e) ≡ tokens.nothing = sym h ∙ ap found_token q in
      tokens-done s i e z

-- ---- their ranges as bytes
pub tokens-long : (xs : List Part) → length (tokens_bytes xs) ≡ length xs * 16
unfolding tokens_bytes
tokens-long xs = omega (arith, length-bytes (cells token_cells xs), length-cells token_cells 2 (λ x. refl) xs)

bytes_next : (x : Part) (xs : List Part) → tokens_bytes (x ∷ xs) ≡ cell_bytes (token_cells x) ++ tokens_bytes xs
unfolding tokens_bytes cells
bytes_next x xs = bytes-append (token_cells x) (cells token_cells xs)

pub put_last : (d : List ℕ) (o : ℕ) → put d o (tokens_bytes []) ≡ d
unfolding tokens_bytes cells
put_last d o = put-none d o

-- a range is put, then those after it
pub record Turned (d : List ℕ) (o : ℕ) (x : Part) (xs : List Part) (r : ℕ) (y : List ℕ) : Type 0 where
  pub next : r ≡ o + 16
  pub long : length y ≡ length d
  pub rest : put y r (tokens_bytes xs) ≡ put d o (tokens_bytes (x ∷ xs))

pub turned : (d : List ℕ) (o : ℕ) (x : Part) (xs : List Part) {r : ℕ} {y : List ℕ} → o + 16 ≤ length d → Puts (token_cells x) o d r y
    → Turned d o x xs r y
turned d o x xs {r} {y} h p =
    let b : List ℕ = cell_bytes (token_cells x) in
    let l : length b ≡ 16 = length-bytes (token_cells x) in
    let room : leb (o + 2 * 8) (length d) ≡ true = le-leb (o + 2 * 8) (length d) (omega arith) in
    let next : r ≡ o + 16 = p.next ∙ rw room in
    let put_is : y ≡ put d o b = p.output ∙ rw room in
    let after : r ≡ o + length b = omega arith in
    record {
      next = next;
      long = ap length put_is ∙ length-put d b o (omega arith);
      rest = ap (λ (t : List ℕ). put t r (tokens_bytes xs)) put_is
          ∙ ap (λ (k : ℕ). put (put d o b) k (tokens_bytes xs)) after
          ∙ put-append d o b (tokens_bytes xs) (omega arith)
          ∙ ap (put d o) (sym (bytes_next x xs));
    }

-- ---- what is told of them
module _ (xs : List Part) (d : List ℕ) {k n : ℕ} (counted : k ≡ length xs) (needed : n ≡ k * 16) where
  cells-long : length (cells token_cells xs) * 8 ≡ n
  cells-long = omega (arith, length-cells token_cells 2 (λ x. refl) xs)

  pub tokens-full : {r : TokensTold} → length d < n → r ≡ no_tokens 16 (spot n)
      → Lays (tokens_by (length xs)) (room_for (tokens_bytes xs) (length d)) d r d
  unfolding tokens_bytes
  tokens-full h e = lays (tokens_by (length xs)) (no_room d (cells token_cells xs) (sym cells-long) h) e

  pub tokens-laid : {y : List ℕ} → n ≤ length d → y ≡ put d 0 (tokens_bytes xs)
      → Lays (tokens_by (length xs)) (room_for (tokens_bytes xs) (length d)) d (record { number = 0; place = 0; count = k; bytes = n }) y
  unfolding tokens_bytes
  tokens-laid {y} h e =
      let b : Begins d (cells token_cells xs) n y = record { next = sym cells-long; output = e } in
      lays (tokens_by (length xs)) (whole d (cells token_cells xs) (omega (arith, cells-long)) b)
      (ap (λ (j : ℕ). record { number = 0; place = 0; count = j; bytes = n }) counted)

-- of a rule's list
module _ (s : List ℕ) (p : Policy) (d : Domain) {a : Result (Unit {0}) Refusal} (said : said_by a ≡ policy_test s p) where
  pub rule-refused : {w : Refusal} → a ≡ Err w → all_tokens s p (domain_number d) ≡ refused_by w
  unfolding all_tokens
  rule-refused e = sym (follow-stops _ (sym said ∙ ap said_by e))

  pub rule-short : a ≡ (Ok tt) → {r : Rule} → r ≡ effective_of p (domain_number d) → r.from + r.len ≤ text_limit
  rule-short e q =
      let t : policy_test s p ≡ accepted tt = sym said ∙ ap said_by e in
      omega (arith, list-fits s p d t q, (tested s p t).short)

  pub rule-listed : a ≡ (Ok tt) → {r : Rule} → r ≡ effective_of p (domain_number d)
      → all_tokens s p (domain_number d) ≡ accepted (tokens_in s r.from (r.from + r.len))
  unfolding all_tokens
  rule-listed e {r} q =
      let l : Rule → List Part = λ (x : Rule). tokens_in s x.from (x.from + x.len) in
      sym (follow-goes _ (sym said ∙ ap said_by e) (ap (λ (x : Rule). accepted (l x)) q))

-- of a value that is known
pub tokens-delivered : {x : Said (List Part)} (xs : List Part) {d y : List ℕ} {r : TokensTold} → x ≡ accepted xs
    → Lays (tokens_by (length xs)) (room_for (tokens_bytes xs) (length d)) d r y → Delivers tokens_bytes tokens_told x d r y
tokens-delivered xs e l = delivers tokens_bytes tokens_told (tokens_by (length xs)) xs e refl (λ n p. refl) l

pub tokens-as : {x z : Said (List Part)} {d y : List ℕ} {r : TokensTold} → x ≡ z → Delivers tokens_bytes tokens_told x d r y
    → Delivers tokens_bytes tokens_told z d r y
tokens-as {d = d} {y = y} {r = r} e k = subst (λ (v : Said (List Part)). Delivers tokens_bytes tokens_told v d r y) e k

-- of a text that was read
module _ (s : List ℕ) (k : ℕ) (r : Result Policy Refusal) (h : said_by r ≡ read_policy s) where
  pub text-refused : {w : Refusal} → r ≡ Err w → tokens_read s k ≡ refused_by w
  unfolding tokens_read
  text-refused e = sym (read-stops (λ (p : Policy). tokens_asked s p k) (read_policy s) r h e)

  module _ {p : Policy} (e : r ≡ Ok p) where
    text-asked : tokens_asked s p k ≡ tokens_read s k
    unfolding tokens_read
    text-asked = read_goes (λ (p : Policy). tokens_asked s p k) (read_policy s) r h e

    pub text-none : nothing ≡ numbered k → tokens_read s k ≡ accepted []
    text-none q = sym (no-domain k (accepted []) (all_tokens s p k) q ∙ text-asked)

    pub text-rule : {n : ℕ} → just n ≡ numbered k → all_tokens s p n ≡ tokens_read s k
    text-rule q = a-domain k (accepted []) (all_tokens s p) q ∙ text-asked
