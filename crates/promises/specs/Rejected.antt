-- Answers that a promise rules out. Assumes nothing.
use Rattle.std.specs.Prelude.{Result, Ok, Err, ℕ, ◌<◌, ◌≡◌, refl, Bool, true, false, List, [], ◌∷◌, ◌++◌, map, ltb, length, take, drop}
use Rattle.std.proofs.Common.{arith, sym, ◌∙◌, take_at}
use Rattle.std.proofs.Math.Path.{ap}
use contract.Lifetimes.{Lfts}
use borrow.Fn.Kinds.{Dens, res_t, ended_of}
use denote.Triple.Clauses.{AtExit}
use Rattle.std.specs.Int.Count.{ones}
use Rattle.refusal.specs.Pick.{pick}
use Rattle.refusal.specs.Said.{Said, accepted, refused, follow, said_by, spot}
use Rattle.refusal.specs.declared.Refusal.{Refusal}
use Rattle.refusal.proofs.Following.{never, followed}
use Rattle.text.specs.Ranges.{in_some}
use Rattle.text.specs.White.{whites, is_white}
use Rattle.text.specs.Chars.{code_by, code_of, more_by, more, chars_from, chars}
use Rattle.text.specs.Trim.{start_len, end_len, trim_start, trim_end}
use Rattle.text.specs.Lines.{cr_before, line_len, line_step}
use Rattle.text.specs.Find.{seek, begins, same, index_of}
use Rattle.text.specs.Scan.{scan}
use Rattle.text.specs.Utf8.{up_to, seq_len, after, follow_in, covers, utf8_table}
use Rattle.text.specs.Utf8.{followers}
use Rattle.domains.specs.Domain.{words, word_in, domain_of}
use Rattle.text.specs.Whole.{whole_text}
use Rattle.text.specs.Piece.{trim}
use Rattle.policy.specs.Piece.{lines_from, lines_of}
use Rattle.policy.specs.Directive.{plain_by, listed_by, rule_directive, policy_worded, policy_spoken, policy_core, policy_directive, fault}
use Rattle.policy.specs.Reader.{run, read_with, zero_policy, stance_of, obey, read_policy, policy_of}
use Rattle.policy.specs.Eight.{slot_of, policy_test}
use Rattle.policy.specs.View.{says}
use Rattle.verdicts.specs.Evaluate.{effective_of, violates, bits, members, outcome, outcome_of, no_outcome, domains_test, evaluated}
use Rattle.verdicts.specs.Evaluate.{Outcome, said_evaluation}
use Rattle.told.specs.Check.{evaluation_told}
use Rattle.policy.specs.declared.Policy.{Policy}
use Rattle.verdicts.proofs.MemberLaws.{ones-bits}
use Rattle.policy.proofs.read_policy.Kinds as read-policy-kinds
use Rattle.policy.proofs.read_policy.Reads as read-policy
use Rattle.verdicts.proofs.evaluate_domains.Kinds as evaluate-domains-kinds
use Rattle.verdicts.proofs.evaluate_domains.Reads as evaluate-domains
use Rattle.output.specs.Bytes.{room_for, written_count, left, WriterTells}
use Rattle.policy_text.specs.Writer.{name_line, form_lines, unlines, form, written}
use Rattle.policy_text.proofs.write_policy.Kinds as write-policy-kinds
use Rattle.policy_text.proofs.write_policy.Reads as write-policy
use Rattle.leb.specs.Grammar.{U}
use Rattle.leb.specs.Answers.{answer_from, unread_at}
use Rattle.leb.specs.declared.Cursor.{Cursor}
use Rattle.leb.proofs.Conform.{u64-read}
use Rattle.wasm.specs.Lending.{sizes_of}
use Rattle.wasm.specs.Module.{Sizes, Parsed, module_at, module_of}
use Rattle.wasm.specs.declared.Module.{Module}
use Rattle.wasm.proofs.read_module.Kinds as read-module-kinds
use Rattle.wasm.proofs.read_module.Reads as read_module
use Rattle.wit.specs.Manifest.{State, manifest_at, manifest_of}
use Rattle.wit.specs.Manifest.{manifest_sizes}
use Rattle.wit.specs.declared.Manifest.{Manifest}
use Rattle.wit.proofs.read_manifest.Kinds as read-manifest-kinds
use Rattle.wit.proofs.read_manifest.Reads as read-manifest
use Rattle.leb.proofs.Cursor.uleb128.Kinds as uleb128-kinds
use Rattle.leb.proofs.Cursor.uleb128.Reads as uleb128

-- a reader that refuses a number of the specification, and so one that refuses everything
pub refuses-number : (κs : Lfts 1) (a : Dens κs uleb128-kinds.ps) (s : AtExit (ended_of 1 uleb128-kinds.ps uleb128-kinds.r) κs)
    (why : Refusal) (back : Cursor) (v k : ℕ)
    → U 64 (drop a.0.at a.1.0.now) v k → uleb128.Post κs a (Err (unread_at why back)) s → ⊥
unfolding answer_from
refuses-number κs a s why back v k u p =
    let e = p ∙ ap (answer_from a.0.at) (u64-read a.1.0.now a.0.at v k u) in
    let z : ◌≡◌ {A = ℕ} 0 1 = cc in
    omega arith

-- a module reader that refuses a file that is read: one that refuses everything
module _ (κs : Lfts 3) (a : Dens κs read-module-kinds.ps) (s : AtExit (ended_of 3 read-module-kinds.ps read-module-kinds.r) κs) where
  abbrev lent : Sizes
  lent = sizes_of a.1.0.now

  pub refuses-module : (m : Parsed) (why : Refusal) → module_at a.0.now lent ≡ accepted m
      → read_module.Post κs a (Err why) s → ⊥
  unfolding follow
  refuses-module m why e p = never (p.1.answer-is ∙ ap (λ (x : Said Parsed). follow x (λ n. accepted (module_of (length a.0.now) n))) e)

  -- the answer to a file that is read is that file's, so no answer serves two files that are read differently: one module for all files
  pub own-module : (m : Parsed) (r : Module) → module_at a.0.now lent ≡ accepted m
      → read_module.Post κs a (Ok r) s → r ≡ module_of (length a.0.now) m
  unfolding follow
  own-module m r e p =
      let q = p.1.answer-is ∙ ap (λ (x : Said Parsed). follow x (λ n. accepted (module_of (length a.0.now) n))) e in
      cc

-- a policy reader that obeys the first line only: `allow fs`, and after it `deny fs`
abbrev first_line : List ℕ
first_line = 97 ∷ 108 ∷ 108 ∷ 111 ∷ 119 ∷ 32 ∷ 102 ∷ 115 ∷ 10 ∷ []

abbrev both_lines : List ℕ
both_lines = first_line ++ (100 ∷ 101 ∷ 110 ∷ 121 ∷ 32 ∷ 102 ∷ 115 ∷ 10 ∷ [])

first-allows : (effective_of (policy_of (read_policy first_line)) 0).allow ≡ true
unfolding read_policy read_with whole_text run zero_policy obey stance_of lines_of lines_from line_len line_step cr_before
    policy_directive
    policy_core policy_spoken policy_worded rule_directive plain_by fault domain_of words word_in trim trim_start trim_end start_len
    end_len chars
    chars_from
    more more_by code_of code_by is_white whites in_some up_to scan seq_len after followers follow_in covers utf8_table same seek
    begins index_of
    follow effective_of
first-allows = refl

later-denies : (effective_of (policy_of (read_policy both_lines)) 0).allow ≡ false
unfolding read_policy read_with whole_text run zero_policy obey stance_of lines_of lines_from line_len line_step cr_before
    policy_directive
    policy_core policy_spoken policy_worded rule_directive plain_by fault domain_of words word_in trim trim_start trim_end start_len
    end_len chars
    chars_from
    more more_by code_of code_by is_white whites in_some up_to scan seq_len after followers follow_in covers utf8_table same seek
    begins index_of
    follow effective_of
later-denies = refl

pub first-line-only : (κs : Lfts 1) (a : Dens κs read-policy-kinds.ps) (s : AtExit (ended_of 1 read-policy-kinds.ps read-policy-kinds.r) κs)
    (r : Result Policy Refusal) → a.0.now ≡ both_lines → policy_of (said_by r) ≡ policy_of (read_policy first_line)
    → read-policy.Post κs a r s → ⊥
first-line-only κs a s r e f p =
    let q : policy_of (read_policy first_line) ≡ policy_of (read_policy both_lines) =
    sym f ∙ ap policy_of p ∙ ap (λ (t : List ℕ). policy_of (read_policy t)) e in
    let k : true ≡ false = sym first-allows ∙ ap (λ (v : Policy). (effective_of v 0).allow) q ∙ later-denies in
    let z : ◌≡◌ {A = ℕ} 0 1 = cc in
    omega arith

-- a policy reader that keeps the tokens of a rule that is replaced: `allow fs: a`, and after it `deny fs`
abbrev list_then_none : List ℕ
list_then_none =
    97 ∷ 108 ∷ 108 ∷ 111 ∷ 119 ∷ 32 ∷ 102 ∷ 115 ∷ 58 ∷ 32 ∷ 97 ∷ 10 ∷ (100 ∷ 101 ∷ 110 ∷ 121 ∷ 32 ∷ 102 ∷ 115 ∷ 10 ∷ [])

no-tokens : (slot_of (policy_of (read_policy list_then_none)) 0).len ≡ 0
unfolding read_policy read_with whole_text run zero_policy obey stance_of lines_of lines_from line_len line_step cr_before
    policy_directive
    policy_core policy_spoken policy_worded rule_directive plain_by listed_by fault domain_of words word_in trim trim_start trim_end
    start_len
    end_len chars chars_from
    more more_by code_of code_by is_white whites in_some up_to scan seq_len after followers follow_in covers utf8_table same seek
    begins index_of
    follow
no-tokens = refl

pub tokens-kept : (κs : Lfts 1) (a : Dens κs read-policy-kinds.ps) (s : AtExit (ended_of 1 read-policy-kinds.ps read-policy-kinds.r) κs)
    (r : Result Policy Refusal) → a.0.now ≡ list_then_none → 0 < (slot_of (policy_of (said_by r)) 0).len
    → read-policy.Post κs a r s → ⊥
tokens-kept κs a s r e f p =
    let q : policy_of (said_by r) ≡ policy_of (read_policy list_then_none) =
    ap policy_of p ∙ ap (λ (t : List ℕ). policy_of (read_policy t)) e in
    let k : (slot_of (policy_of (said_by r)) 0).len ≡ 0 = ap (λ (v : Policy). (slot_of v 0).len) q ∙ no-tokens in
    omega (arith, k)

-- a violation number unlike the set
counted-set : (ns : List ℕ) (n : ℕ) (p : Policy) (o : Said Outcome) → o ≡ evaluated ns n p → (outcome_of o).count ≡ ones (outcome_of o).set
unfolding evaluated follow outcome no_outcome bits members
counted-set ns n p o e = by (domains_test ns n) (ap outcome_of e) where
  by : (t : Said (Unit {0})) → outcome_of o ≡ outcome_of (follow t (λ ok. accepted (outcome p (take n ns))))
      → (outcome_of o).count ≡ ones (outcome_of o).set
  by (accepted u) q = rw q (sym (ones-bits (map violates (outcome p (take n ns)).verdicts)))
  by (refused m k) q = rw q (sym (ones-bits []))

-- of the verdicts that are answered
pub unlike-set : (κs : Lfts 1) (a : Dens κs evaluate-domains-kinds.ps) (r : (res_t evaluate-domains-kinds.r κs).Denot)
    (s : AtExit (ended_of 1 evaluate-domains-kinds.ps evaluate-domains-kinds.r) κs)
    → ((outcome_of (said_evaluation r)).count ≡ ones (outcome_of (said_evaluation r)).set → ⊥) → evaluate-domains.Post κs a r s → ⊥
unlike-set κs a r s h p = h (counted-set a.0.now a.1.0 a.1.1.0 (said_evaluation r) p)

-- and of what is told of them, the zeros of a refusal too
told-set : (o : Said Outcome) → (outcome_of o).count ≡ ones (outcome_of o).set → (evaluation_told o).count ≡ ones (evaluation_told o).set
unfolding no_outcome
told-set (accepted o) e = e
told-set (refused m k) e = e

pub told-unlike-set : (κs : Lfts 1) (a : Dens κs evaluate-domains-kinds.ps) (r : (res_t evaluate-domains-kinds.r κs).Denot)
    (s : AtExit (ended_of 1 evaluate-domains-kinds.ps evaluate-domains-kinds.r) κs)
    → ((evaluation_told (said_evaluation r)).count ≡ ones (evaluation_told (said_evaluation r)).set → ⊥)
    → evaluate-domains.Post κs a r s → ⊥
told-unlike-set κs a r s h p = h (told-set (said_evaluation r) (counted-set a.0.now a.1.0 a.1.1.0 (said_evaluation r) p))

-- a writer that writes nothing: the bytes it says it wrote are the policy's text, which is never empty
wrote : (w : List ℕ) (room : ℕ) {v : List ℕ} → room_for w room ≡ accepted v → v ≡ w
unfolding room_for
wrote w room {v} e = by (ltb room (length w)) e where
  by : (t : Bool) → pick t (refused 16 (spot (length w))) (accepted w) ≡ accepted v → v ≡ w
  by true e = absurd (never e)
  by false e = cc

told_text : (t : List ℕ) (p : Policy) (d x : List ℕ) (n : ℕ) → WriterTells (written t p (length d)) d (Ok n) x
    → (take n x ≡ form (says t p)) × (n ≡ length (form (says t p)))
unfolding written
told_text t p d x n h = by (written t p (length d)) refl h.answer h.output where
  by : (o : Said (List ℕ)) → written t p (length d) ≡ o → accepted n ≡ written_count o → x ≡ left d o
      → (take n x ≡ form (says t p)) × (n ≡ length (form (says t p)))
  by (accepted w) e q f =
      let g = followed (policy_test t p) (λ ok. room_for (form (says t p)) (length d)) e in
      let v : w ≡ form (says t p) = wrote (form (says t p)) (length d) g.then in
      let k : n ≡ length w = cc in
      (ap (take n) f ∙ take_at w (drop (length w) d) n (sym k) ∙ v, k ∙ ap length v)
  by (refused m i) e q f = absurd (never (sym q))

module _ (κs : Lfts 2) (a : Dens κs write-policy-kinds.ps) (s : AtExit (ended_of 2 write-policy-kinds.ps write-policy-kinds.r) κs) where
  pub writes-its-text : (n : ℕ) → write-policy.Post κs a (Ok n) s
      → take n s.1.1.0.now ≡ form (says a.0.now a.1.0)
  writes-its-text n p = (told_text a.0.now a.1.0 a.1.1.0.now s.1.1.0.now n p).0

  pub writes_nothing : write-policy.Post κs a (Ok 0) s → ⊥
  unfolding form form_lines unlines name_line
  writes_nothing p = let e = (told_text a.0.now a.1.0 a.1.1.0.now s.1.1.0.now 0 p).1 in omega (arith, e)

-- a manifest reader that refuses a text that is read; and one that gives one manifest for all texts
module _ (κs : Lfts 3) (a : Dens κs read-manifest-kinds.ps) (s : AtExit (ended_of 3 read-manifest-kinds.ps read-manifest-kinds.r) κs) where
  pub refuses-manifest : (t : State) (why : Refusal)
      → manifest_at a.0.now (manifest_sizes a.1.0.now a.1.1.0.now) ≡ accepted t
      → read-manifest.Post κs a (Err why) s → ⊥
  unfolding follow
  refuses-manifest t why e p = never (p.answer-is ∙ ap (λ (x : Said State). follow x (λ n. accepted (manifest_of n))) e)

  pub own-manifest : (t : State) (r : Manifest)
      → manifest_at a.0.now (manifest_sizes a.1.0.now a.1.1.0.now) ≡ accepted t
      → read-manifest.Post κs a (Ok r) s → r ≡ manifest_of t
  unfolding follow
  own-manifest t r e p = let q = p.answer-is ∙ ap (λ (x : Said State). follow x (λ n. accepted (manifest_of n))) e in cc
