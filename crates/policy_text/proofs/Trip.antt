-- THE ROUND TRIP: what is written of a policy that was read is read as the same policy. Assumes nothing.
use mathlib.Core.Path.{◌≡◌, refl, ap, ◌∙◌}
use mathlib.Core.Bool.{Bool, true, false, not}
use mathlib.Core.List.{List, [], ◌∷◌, ◌++◌, append-nil}
use Prim.Native.Nat.{ℕ, zero, suc, ◌+◌, ◌≤◌, ◌<◌}
use native.Mathlib.Omega.{arith}
use lib.Dec.{eqb, ltb}
use lib.ListN.{length, take, drop, set, replicate, length-append}
use lib.Seq.{take-length, take-append_seam, drop-append-add, append_snoc, set-append_seam}
use borrow.Author.Tests.{lt-ltb, le-ltb, ne_eqb}
use Rattle.refusal.specs.Pick.{both}
use Rattle.refusal.specs.Sizes.{text_limit}
use Rattle.refusal.specs.Said.{accepted, follow}
use Rattle.text.specs.Find.{index_of, begins, same}
use Rattle.text.specs.White.{is_white, whites}
use Rattle.text.specs.Ranges.{in_some}
use Rattle.text.specs.Trim.{start_len, end_len, trim_start, trim_end, trim_of}
use Rattle.text.proofs.Laws.{both-and}
use Rattle.text.proofs.SplitLaws.{well, well-upto, well-one, well-ascii, ascii-one}
use Rattle.text.proofs.TrimLaws.{trim-whole, end_after}
use Rattle.domains.specs.Domain.{just, words, slugs, slug, word_in, domain_of}
use Rattle.text.specs.Piece.{Piece, beyond, trim}
use Rattle.policy.specs.Piece.{until, past_byte, bare, lines_from, lines_of}
use Rattle.policy.specs.Directive.{policy_w, default_w, allow_w, deny_w, allow, deny, Directive, called, preset, plain, listed, defaulted}
use Rattle.policy.specs.Directive.{plain_by, listed_by, rule_directive, policy_worded, policy_spoken, policy_core, policy_directive, fault}
use Rattle.policy.specs.Reader.{run, read_with}
use Rattle.policy.specs.View.{RuleView, silent, ruling, PolicyView, tokens, first_view, sets, heed, meaning}
use Rattle.text.specs.Whole.{whole_text}
use Rattle.text.proofs.PieceLaws.{trim-bytes}
use Rattle.policy_text.specs.Writer.{stance_word, name_line, default_line, joined, list_part, rule_line, rule_lines, form_lines, unlines}
use Rattle.policy_text.specs.Writer.{form}
use Rattle.text.proofs.LackLaws.{lacks, lacks-append, lacks-cons, index-none, index_at}
use Rattle.policy_text.proofs.Bytes.{Inner, ascii, well-word, FineName}
use Rattle.policy_text.proofs.Bytes.{quoted-name}
use Rattle.refusal.specs.Each.{Each, each_nil, each-cons}
use Rattle.policy_text.proofs.Tokens.{FineToken, tokens-back, blank-end}
use Rattle.policy_text.proofs.Written.{lines-front, well-none, chars-none}
use Rattle.policy_text.proofs.Fine.{stated, EachRule, rule, FineView, meaning-fine}

-- ---- a line that is read whole
pub record WholeLine (l : List ℕ) : Type 0 where
  pub inner : Inner l
  pub start : trim_start l ≡ 0
  pub end : trim_end l ≡ length l
  pub some : 0 < length l

abbrev line : ℕ → List ℕ → Piece
line at l = record { at = at; bytes = l }

core-whole : (at : ℕ) (l : List ℕ) → WholeLine l → (policy_core (line at l)).bytes ≡ l
unfolding policy_core
core-whole at l w =
    trim-bytes (until 35 (line at l)) ∙ rw (index-none 35 l w.inner.hash, take-length l) (trim-whole l w.start w.end)

directive-whole : (at : ℕ) (l : List ℕ) → WholeLine l → policy_directive (line at l) ≡ policy_worded (policy_core (line at l))
unfolding policy_directive policy_spoken
directive-whole at l w = rw (core-whole at l w, ne_eqb (length l) 0 (λ z. omega (arith, w.some)))

-- ---- the ends of a line
start_none : (x : ℕ) (s : List ℕ) → x < 0x80 → is_white x ≡ false → trim_start (x ∷ s) ≡ 0
unfolding trim_start start_len
start_none x s h e = rw (ascii-one x s h, e)

one_end : (x : ℕ) → x < 0x80 → is_white x ≡ false → trim_end (x ∷ []) ≡ 1
unfolding trim_end end_len
one_end x h e = rw (ascii-one x [] h, e, chars-none)

end-ascii : (w : List ℕ) (x : ℕ) → x < 0x80 → is_white x ≡ false → trim_end (w ++ x ∷ []) ≡ length (w ++ x ∷ [])
end-ascii w x h e = end_after w x [] h (one_end x h e)

-- after a blank
end-blank : (w s : List ℕ) → trim_end s ≡ length s → 0 < length s → trim_end (w ++ 32 ∷ s) ≡ length (w ++ 32 ∷ s)
end-blank w s e h = end_after w 32 s (omega arith) (blank-end s e h)

-- ---- the line of the name
name-whole : (n : List ℕ) → FineName n → WholeLine (name_line n)
unfolding name_line lacks ascii is_white in_some whites
name-whole n f =
    let g : both (well n) (well []) ≡ true = both-and (well n) (well []) f.inner.good well-none in
    let q : well (n ++ 34 ∷ []) ≡ true = well-ascii n 34 [] (omega arith) ∙ g in
    record {
      inner = record {
        good = well-word (policy_w ++ 34 ∷ []) (n ++ 34 ∷ []) refl ∙ q;
        lf = lacks-append 10 n (34 ∷ []) f.inner.lf refl;
        hash = lacks-append 35 n (34 ∷ []) f.inner.hash refl;
      };
      start = start_none 112 (drop 1 (name_line n)) (omega arith) refl;
      end = end-ascii (policy_w ++ 34 ∷ n) 34 (omega arith) refl;
      some = omega arith;
    }

name-rest : (c : Piece) (n : List ℕ) → c.bytes ≡ name_line n → (trim (beyond 7 c)).bytes ≡ 34 ∷ (n ++ 34 ∷ [])
unfolding name_line is_white in_some whites
name-rest c n e =
    trim-bytes (beyond 7 c)
    ∙ rw e (trim-whole (34 ∷ (n ++ 34 ∷ [])) (start_none 34 (n ++ 34 ∷ []) (omega arith) refl)
    (end-ascii (34 ∷ n) 34 (omega arith) refl))

name-bare : (p : Piece) (n : List ℕ) → FineName n → p.bytes ≡ 34 ∷ (n ++ 34 ∷ []) → (bare p).bytes ≡ n
unfolding bare
name-bare p n f e = rw e (quoted-name n f)

-- what a line does
pub record Does (p : Piece) (v w : PolicyView) : Type 0 where
  pub right : fault (policy_directive p) ≡ 0
  pub now : heed (policy_directive p) v ≡ w

name-does : (at : ℕ) (n : List ℕ) (v : PolicyView) → FineName n → Does (line at (name_line n)) v
    (record { name = n; permit = v.permit; rules = v.rules })
name-does at n v f =
    let w = name-whole n f in
    let c = policy_core (line at (name_line n)) in
    let e = core-whole at (name_line n) w in
    let d : policy_worded c ≡ called (bare (trim (beyond 7 c))) = unfold policy_worded begins name_line in rw e in
    let q = directive-whole at (name_line n) w ∙ d in
    let b = name-bare (trim (beyond 7 c)) n f (name-rest c n e) in
    record { right = rw q (unfold fault in refl); now = rw q (unfold heed in rw b) }

-- ---- the line of the default
default-whole : (t : Bool) → WholeLine (default_line t)
unfolding default_line stance_word lacks ascii is_white in_some whites
default-whole true = record {
  inner = record { good = well-word (default_w ++ allow) [] refl ∙ well-none; lf = refl; hash = refl };
  start = start_none 100 (drop 1 (default_line true)) (omega arith) refl;
  end =
      end-ascii (default_w ++ 97 ∷ 108 ∷ 108 ∷ 111 ∷ []) 119 (omega arith) refl;
  some = omega arith;
}
default-whole false =
    record {
      inner = record { good = well-word (default_w ++ deny) [] refl ∙ well-none; lf = refl; hash = refl };
      start =
          start_none 100 (drop 1 (default_line false)) (omega arith) refl;
      end =
          end-ascii (default_w ++ 100 ∷ 101 ∷ 110 ∷ []) 121 (omega arith) refl;
      some = omega arith;
    }

stance-trim : (t : Bool) → trim_of (stance_word t) ≡ stance_word t
unfolding stance_word is_white in_some whites
stance-trim true = trim-whole allow (start_none 97 (108 ∷ 108 ∷ 111 ∷ 119 ∷ []) (omega arith) refl)
    (end-ascii (97 ∷ 108 ∷ 108 ∷ 111 ∷ []) 119 (omega arith) refl)
stance-trim false = trim-whole deny (start_none 100 (101 ∷ 110 ∷ 121 ∷ []) (omega arith) refl)
    (end-ascii (100 ∷ 101 ∷ 110 ∷ []) 121 (omega arith) refl)

stance-back : (t : Bool) → defaulted (stance_word t) ≡ preset t
unfolding defaulted stance_word same
stance-back true = refl
stance-back false = refl

default-worded : (c : Piece) (t : Bool) → c.bytes ≡ default_line t → policy_worded c ≡ defaulted (trim (beyond 8 c)).bytes
unfolding policy_worded begins default_line
default-worded c t e = rw e

default-does : (at : ℕ) (t : Bool) (v : PolicyView) → Does (line at (default_line t)) v
    (record { name = v.name; permit = t; rules = v.rules })
default-does at t v =
    let w = default-whole t in
    let c = policy_core (line at (default_line t)) in
    let e = core-whole at (default_line t) w in
    let r : (trim (beyond 8 c)).bytes ≡ stance_word t = trim-bytes (beyond 8 c) ∙ rw e (unfold default_line in stance-trim t) in
    let q : policy_directive (line at (default_line t)) ≡ preset t = directive-whole at (default_line t) w ∙ default-worded c t e
    ∙ ap defaulted r ∙ stance-back t in
    record { right = rw q (unfold fault in refl); now = rw q (unfold heed in refl) }

-- ---- the slugs
pub record FineSlug (d : ℕ) : Type 0 where
  pub plain : ascii (slug d) ≡ true
  pub lf : lacks 10 (slug d) ≡ true
  pub hash : lacks 35 (slug d) ≡ true
  pub colon : lacks 58 (slug d) ≡ true
  pub start : trim_start (slug d) ≡ 0
  pub end : trim_end (slug d) ≡ length (slug d)
  pub some : 0 < length (slug d)
  pub back : domain_of (slug d) ≡ just d

slug-fine : (d : ℕ) → d < 7 → FineSlug d
unfolding slug slugs lacks ascii is_white in_some whites domain_of words word_in same
slug-fine zero h = record {
  plain = refl;
  lf = refl;
  hash = refl;
  colon = refl;
  start =
      start_none 102 (drop 1 (slug 0)) (omega arith) refl;
  end = end-ascii (take 1 (slug 0)) 115 (omega arith) refl;
  some =
      omega arith;
  back = refl;
}
slug-fine (suc zero) h =
    record {
      plain = refl;
      lf = refl;
      hash = refl;
      colon = refl;
      start = start_none 101 (drop 1 (slug 1)) (omega arith) refl;
      end =
          end-ascii (take 2 (slug 1)) 118 (omega arith) refl;
      some = omega arith;
      back = refl;
    }
slug-fine (suc (suc zero)) h =
    record {
      plain = refl;
      lf = refl;
      hash = refl;
      colon = refl;
      start = start_none 99 (drop 1 (slug 2)) (omega arith) refl;
      end =
          end-ascii (take 4 (slug 2)) 107 (omega arith) refl;
      some = omega arith;
      back = refl;
    }
slug-fine (suc (suc (suc zero))) h =
    record {
      plain = refl;
      lf = refl;
      hash = refl;
      colon = refl;
      start = start_none 110 (drop 1 (slug 3)) (omega arith) refl;
      end =
          end-ascii (take 6 (slug 3)) 107 (omega arith) refl;
      some = omega arith;
      back = refl;
    }
slug-fine (suc (suc (suc (suc zero)))) h =
    record {
      plain = refl;
      lf = refl;
      hash = refl;
      colon = refl;
      start = start_none 114 (drop 1 (slug 4)) (omega arith) refl;
      end =
          end-ascii (take 5 (slug 4)) 109 (omega arith) refl;
      some = omega arith;
      back = refl;
    }
slug-fine (suc (suc (suc (suc (suc zero))))) h =
    record {
      plain = refl;
      lf = refl;
      hash = refl;
      colon = refl;
      start = start_none 115 (drop 1 (slug 5)) (omega arith) refl;
      end =
          end-ascii (take 4 (slug 5)) 111 (omega arith) refl;
      some = omega arith;
      back = refl;
    }
slug-fine (suc (suc (suc (suc (suc (suc zero)))))) h = record {
  plain = refl;
  lf = refl;
  hash = refl;
  colon = refl;
  start = start_none 117 (drop 1 (slug 6)) (omega arith) refl;
  end =
      end-ascii (take 6 (slug 6)) 110 (omega arith) refl;
  some = omega arith;
  back = refl;
}
slug-fine (suc (suc (suc (suc (suc (suc (suc d))))))) h = absurd (omega arith)

-- ---- the written list
joined-well : (t : List ℕ) (ts : List (List ℕ)) → Each FineToken (t ∷ ts) → well (t ++ joined ts) ≡ true
unfolding joined
joined-well t [] (each-cons f fs) = rw (append-nil t) f.inner.good
joined-well t (u ∷ ts) (each-cons f fs) =
    well-ascii t 44 (32 ∷ (u ++ joined ts)) (omega arith)
    ∙ both-and (well t) (well (32 ∷ (u ++ joined ts))) f.inner.good (well-one 32 (u ++ joined ts) (omega arith) ∙ joined-well u ts fs)

joined-lacks : (b : ℕ) → eqb 44 b ≡ false → eqb 32 b ≡ false → (t : List ℕ) (ts : List (List ℕ))
    → Each (λ (t : List ℕ). lacks b t ≡ true) (t ∷ ts) → lacks b (t ++ joined ts) ≡ true
unfolding joined
joined-lacks b p q t [] (each-cons f fs) = rw (append-nil t) f
joined-lacks b p q t (u ∷ ts) (each-cons f fs) = lacks-append b t (44 ∷ 32 ∷ (u ++ joined ts)) f
    (lacks-cons b 44 (32 ∷ (u ++ joined ts)) p (lacks-cons b 32 (u ++ joined ts) q (joined-lacks b p q u ts fs)))

each-lf : (ts : List (List ℕ)) → Each FineToken ts → Each (λ (t : List ℕ). lacks 10 t ≡ true) ts
each-lf [] each_nil = each_nil
each-lf (t ∷ ts) (each-cons f fs) = each-cons f.inner.lf (each-lf ts fs)

each-hash : (ts : List (List ℕ)) → Each FineToken ts → Each (λ (t : List ℕ). lacks 35 t ≡ true) ts
each-hash [] each_nil = each_nil
each-hash (t ∷ ts) (each-cons f fs) = each-cons f.inner.hash (each-hash ts fs)

joined_end : (t : List ℕ) (ts : List (List ℕ)) → Each FineToken (t ∷ ts) → trim_end (t ++ joined ts) ≡ length (t ++ joined ts)
unfolding joined
joined_end t [] (each-cons f fs) = rw (append-nil t) f.end
joined_end t (u ∷ ts) (each-cons f fs) =
    rw (append_snoc t 44 (32 ∷ (u ++ joined ts))) at
    (end-blank (t ++ 44 ∷ []) (u ++ joined ts) (joined_end u ts fs) (by fs))
  where
    by : Each FineToken (u ∷ ts) → 0 < length (u ++ joined ts)
    by (each-cons g gs) = omega (arith, g.some, length-append u (joined ts))

joined-some : (t : List ℕ) (ts : List (List ℕ)) → Each FineToken (t ∷ ts) → 0 < length (t ++ joined ts)
joined-some t ts (each-cons g gs) = omega (arith, g.some, length-append t (joined ts))

-- what follows the stance's word each-cons a blank
pub record Body (b : List ℕ) : Type 0 where
  pub inner : Inner b
  pub end : trim_end b ≡ length b
  pub some : 0 < length b

body-fine : (d : ℕ) (ts : List (List ℕ)) → FineSlug d → Each FineToken ts → Body (slug d ++ list_part ts)
unfolding list_part
body-fine d [] s fs =
    rw (append-nil (slug d))
    (record {
      inner = record {
        good = rw (append-nil (slug d)) at (well-word (slug d) [] s.plain ∙ well-none);
        lf = s.lf;
        hash =
            s.hash;
      };
      end = s.end;
      some = s.some;
    })
body-fine d (t ∷ ts) s fs =
    let y = t ++ joined ts in
    let g : well (58 ∷ 32 ∷ y) ≡ true = well-one 58 (32 ∷ y) (omega arith) ∙ well-one 32 y (omega arith) ∙ joined-well t ts fs in
    let l : lacks 10 (58 ∷ 32 ∷ y) ≡ true = lacks-cons 10 58 (32 ∷ y) refl
    (lacks-cons 10 32 y refl (joined-lacks 10 refl refl t ts (each-lf (t ∷ ts) fs))) in
    let h : lacks 35 (58 ∷ 32 ∷ y) ≡ true = lacks-cons 35 58 (32 ∷ y) refl
    (lacks-cons 35 32 y refl (joined-lacks 35 refl refl t ts (each-hash (t ∷ ts) fs))) in
    record {
      inner = record {
        good = well-word (slug d) (58 ∷ 32 ∷ y) s.plain ∙ g;
        lf =
            lacks-append 10 (slug d) (58 ∷ 32 ∷ y) s.lf l;
        hash = lacks-append 35 (slug d) (58 ∷ 32 ∷ y) s.hash h;
      };
      end = rw (append_snoc (slug d) 58 (32 ∷ y)) at (end-blank (slug d ++ 58 ∷ []) y (joined_end t ts fs) (joined-some t ts fs));
      some = omega (arith, s.some, length-append (slug d) (58 ∷ 32 ∷ y));
    }

rule-whole : (t : Bool) (d : ℕ) (ts : List (List ℕ)) → Body (slug d ++ list_part ts) → WholeLine (rule_line t d ts)
unfolding rule_line stance_word ascii lacks is_white in_some whites
rule-whole true d ts b =
    let y = slug d ++ list_part ts in
    record {
      inner = record {
        good = well-word (allow ++ 32 ∷ []) y refl ∙ b.inner.good;
        lf = b.inner.lf;
        hash =
            b.inner.hash;
      };
      start = start_none 97 (108 ∷ 108 ∷ 111 ∷ 119 ∷ 32 ∷ y) (omega arith) refl;
      end =
          end-blank allow y b.end b.some;
      some = omega arith;
    }
rule-whole false d ts b =
    let y = slug d ++ list_part ts in
    record {
      inner = record {
        good = well-word (deny ++ 32 ∷ []) y refl ∙ b.inner.good;
        lf = b.inner.lf;
        hash =
            b.inner.hash;
      };
      start = start_none 100 (101 ∷ 110 ∷ 121 ∷ 32 ∷ y) (omega arith) refl;
      end =
          end-blank deny y b.end b.some;
      some = omega arith;
    }

-- ---- the line of a rule, read
ruled-plain : (t : Bool) (b : Piece) (d : ℕ) → FineSlug d → b.bytes ≡ slug d → rule_directive t b ≡ plain t d
unfolding rule_directive plain_by
ruled-plain t b d s e =
    let i = index-none 58 (slug d) s.colon in
    let r : (trim b).bytes ≡ slug d = trim-bytes b ∙ rw e (trim-whole (slug d) s.start s.end) in
    let l : ltb (index_of 58 b.bytes) (length b.bytes) ≡ false =
    rw (e, i) (le-ltb (length (slug d)) (length (slug d)) (omega arith)) in
    rw (l, r, s.back)

ruled-listed : (t : Bool) (b : Piece) (d : ℕ) (y : List ℕ) → FineSlug d → b.bytes ≡ slug d ++ 58 ∷ y
    → rule_directive t b ≡ listed t d (past_byte 58 b)
unfolding rule_directive listed_by
ruled-listed t b d y s e =
    let i : index_of 58 b.bytes ≡ length (slug d) = rw e (index_at 58 (slug d) y s.colon) in
    let u : (until 58 b).bytes ≡ slug d = rw (i, e) (take-append_seam (slug d) (58 ∷ y)) in
    let r : (trim (until 58 b)).bytes ≡ slug d = trim-bytes (until 58 b) ∙ rw u (trim-whole (slug d) s.start s.end) in
    let l : ltb (index_of 58 b.bytes) (length b.bytes) ≡ true =
    rw (i, e) (lt-ltb (length (slug d)) (length (slug d ++ 58 ∷ y)) (omega (arith, length-append (slug d) (58 ∷ y)))) in
    rw (l, r, s.back)

past_bytes : (b : Piece) (d : ℕ) (y : List ℕ) → FineSlug d → b.bytes ≡ slug d ++ 58 ∷ y → (past_byte 58 b).bytes ≡ y
past_bytes b d y s e =
    let i : index_of 58 b.bytes ≡ length (slug d) = rw e (index_at 58 (slug d) y s.colon) in
    rw (i, e) (drop-append-add (slug d) (58 ∷ y) 1)

pub record Rules (t : Bool) (d : ℕ) (ts : List (List ℕ)) (x : Directive) (v : PolicyView) : Type 0 where
  pub right : fault x ≡ 0
  pub now : heed x v ≡ sets d (ruling t ts) v

ruled-does : (t : Bool) (b : Piece) (d : ℕ) (ts : List (List ℕ)) (v : PolicyView) → FineSlug d → Each FineToken ts
    → b.bytes ≡ slug d ++ list_part ts → Rules t d ts (rule_directive t b) v
unfolding list_part fault heed
ruled-does t b d [] v s fs e =
    let q = ruled-plain t b d s (e ∙ append-nil (slug d)) in
    record { right = rw q; now = rw q }
ruled-does t b d (x ∷ ts) v s fs e =
    let y : List ℕ = 32 ∷ (x ++ joined ts) in
    let q = ruled-listed t b d y s e in
    let p = past_bytes b d y s e in
    let k : tokens (past_byte 58 b).bytes ≡ x ∷ ts = ap tokens p ∙ tokens-back x ts fs in
    record { right = rw q; now = rw (q, k) }

begins-rule : (t : Bool) (d : ℕ) (ts : List (List ℕ)) → (begins policy_w (rule_line t d ts) ≡ false)
    × (begins default_w (rule_line t d ts) ≡ false) × (begins allow_w (rule_line t d ts) ≡ t) × (begins deny_w (rule_line t d ts) ≡ not t)
unfolding begins rule_line stance_word
begins-rule true d ts = (refl, refl, refl, refl)
begins-rule false d ts = (refl, refl, refl, refl)

rule-worded : (c : Piece) (t : Bool) (d : ℕ) (ts : List (List ℕ)) (v : PolicyView) → FineSlug d → Each FineToken ts
    → c.bytes ≡ rule_line t d ts → Rules t d ts (policy_worded c) v
unfolding policy_worded rule_line stance_word
rule-worded c true d ts v s fs e =
    let b = begins-rule true d ts in
    let p : begins policy_w c.bytes ≡ false = ap (begins policy_w) e ∙ b.0 in
    let q : begins default_w c.bytes ≡ false = ap (begins default_w) e ∙ b.1 in
    let r : begins allow_w c.bytes ≡ true = ap (begins allow_w) e ∙ b.2 in
    let z : drop 6 c.bytes ≡ slug d ++ list_part ts = rw e in
    rw (p, q, r) (ruled-does true (beyond 6 c) d ts v s fs z)
rule-worded c false d ts v s fs e =
    let b = begins-rule false d ts in
    let p : begins policy_w c.bytes ≡ false = ap (begins policy_w) e ∙ b.0 in
    let q : begins default_w c.bytes ≡ false = ap (begins default_w) e ∙ b.1 in
    let r : begins allow_w c.bytes ≡ false = ap (begins allow_w) e ∙ b.2 in
    let o : begins deny_w c.bytes ≡ true = ap (begins deny_w) e ∙ b.3 in
    let z : drop 5 c.bytes ≡ slug d ++ list_part ts = rw e in
    rw (p, q, r, o) (ruled-does false (beyond 5 c) d ts v s fs z)

rule-does : (at : ℕ) (t : Bool) (d : ℕ) (ts : List (List ℕ)) (v : PolicyView) → FineSlug d → Each FineToken ts
    → Does (line at (rule_line t d ts)) v (sets d (ruling t ts) v)
rule-does at t d ts v s fs =
    let l = rule_line t d ts in
    let w = rule-whole t d ts (body-fine d ts s fs) in
    let r = rule-worded (policy_core (line at l)) t d ts v s fs (core-whole at l w) in
    let q = directive-whole at l w in
    record { right = rw q r.right; now = rw q r.now }

-- ---- line after line
run-line : (n at : ℕ) (l s : List ℕ) (v u : PolicyView) → WholeLine l → Does (line at l) v u
    → run heed n v (lines_from at 0 (l ++ 10 ∷ s)) ≡ run heed (n + 1) u (lines_from (at + (length l + 1)) 0 s)
unfolding run
run-line n at l s v u w d = rw (lines-front l s w.inner.lf w.end w.some at) (rw (d.right, run) (rw d.now))

abbrev viewed : List ℕ → Bool → List RuleView → PolicyView
viewed n t rs = record { name = n; permit = t; rules = rs }

snoc-length : (rs : List RuleView) (r : RuleView) → length (rs ++ r ∷ []) ≡ suc (length rs)
snoc-length rs r = omega (arith, length-append rs (r ∷ []))

rules-run : (name : List ℕ) (t : Bool) (done rs : List RuleView) (d : ℕ) → d ≡ length done → d + length rs ≡ 7 → EachRule rs → (n at : ℕ)
    → run heed n (viewed name t (done ++ replicate (length rs) silent)) (lines_from at 0 (unlines (rule_lines d rs))) ≡ accepted
    (viewed name t (done ++ rs))
unfolding rule_lines unlines
rules-run name t done [] d p q fs n at = unfold run lines_from in refl
rules-run name t done (silent ∷ rs) d p q (rule f fs) n at =
    let i = rules-run name t (done ++ silent ∷ []) rs (suc d) (omega (arith, snoc-length done silent)) (omega arith) fs n at in
    rw (append_snoc done silent (replicate (length rs) silent), append_snoc done silent rs) at i
rules-run name t done (ruling b ts ∷ rs) d p q (rule (stated f) fs) n at =
    let s = slug-fine d (omega arith) in
    let v = viewed name t (done ++ silent ∷ replicate (length rs) silent) in
    let x = ruling b ts in
    let l = rule_line b d ts in
    let w = rule-whole b d ts (body-fine d ts s f) in
    let j : set (done ++ silent ∷ replicate (length rs) silent) d x ≡ done ++ x ∷ replicate (length rs) silent =
    rw p (set-append_seam done silent (replicate (length rs) silent) x) in
    let a = run-line n at l (unlines (rule_lines (suc d) rs)) v (sets d x v) w (rule-does at b d ts v s f) in
    let i = rules-run name t (done ++ x ∷ []) rs (suc d) (omega (arith, snoc-length done x)) (omega arith) fs (n + 1)
    (at + (length l + 1)) in
    let k = rw (append_snoc done x (replicate (length rs) silent), append_snoc done x rs) at i in
    a ∙ rw j k

-- ---- the whole text
unlines-well : (ls : List (List ℕ)) → Each WholeLine ls → well (unlines ls) ≡ true
unfolding unlines
unlines-well [] each_nil = well-none
unlines-well (l ∷ ls) (each-cons w ws) = well-ascii l 10 (unlines ls) (omega arith)
    ∙ both-and (well l) (well (unlines ls)) w.inner.good (unlines-well ls ws)

rules-whole : (rs : List RuleView) (d : ℕ) → d + length rs ≡ 7 → EachRule rs → Each WholeLine (rule_lines d rs)
unfolding rule_lines
rules-whole [] d q fs = each_nil
rules-whole (silent ∷ rs) d q (rule f fs) = rules-whole rs (suc d) (omega arith) fs
rules-whole (ruling b ts ∷ rs) d q (rule (stated f) fs) = each-cons (rule-whole b d ts (body-fine d ts (slug-fine d (omega arith)) f))
    (rules-whole rs (suc d) (omega arith) fs)

form-well : (v : PolicyView) → FineView v → well (form v) ≡ true
unfolding form form_lines
form-well v f = unlines-well (form_lines v)
    (each-cons (name-whole v.name f.name)
    (each-cons (default-whole v.permit) (rules-whole v.rules 0 (omega (arith, f.count)) f.rules)))

form-run : (v : PolicyView) → FineView v → run heed 1 first_view (lines_of (form v)) ≡ accepted v
unfolding form form_lines unlines lines_of first_view
form-run v f =
    let s₂ = unlines (rule_lines 0 v.rules) in
    let l₁ = name_line v.name in
    let l₂ = default_line v.permit in
    let at₁ = 0 + (length l₁ + 1) in
    let v₁ = viewed v.name false (replicate 7 silent) in
    let v₂ = viewed v.name v.permit (replicate 7 silent) in
    let a = run-line 1 0 l₁ (l₂ ++ 10 ∷ s₂) first_view v₁ (name-whole v.name f.name) (name-does 0 v.name first_view f.name) in
    let b = run-line 2 at₁ l₂ s₂ v₁ v₂ (default-whole v.permit) (default-does at₁ v.permit v₁) in
    let c = rules-run v.name v.permit [] v.rules 0 refl (omega (arith, f.count)) f.rules 3 (at₁ + (length l₂ + 1)) in
    a ∙ b ∙ rw f.count at c

-- what is written of a fine policy is read as it
pub back : (v : PolicyView) → FineView v → length (form v) ≤ text_limit → meaning (form v) ≡ accepted v
unfolding meaning read_with follow whole_text
back v f h =
    let g = well-upto (form v) (form-well v f) in
    rw (le-ltb text_limit (length (form v)) h, g, le-ltb (length (form v)) (length (form v)) (omega arith)) (form-run v f)

-- THE ROUND TRIP
pub round_trip : (s : List ℕ) (v : PolicyView) → meaning s ≡ accepted v → length (form v) ≤ text_limit → meaning (form v) ≡ accepted v
round_trip s v e h = back v (meaning-fine s v e) h
