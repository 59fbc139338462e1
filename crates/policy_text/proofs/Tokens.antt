-- The tokens of a list: what they are, and that a written list gives them back. Assumes nothing.
use mathlib.Core.Path.{◌≡◌, refl, sym, ap, ◌∙◌}
use mathlib.Core.Bool.{Bool, true, false}
use mathlib.Core.List.{List, [], ◌∷◌, ◌++◌, map, append-nil}
use Prim.Native.Nat.{ℕ, suc, ◌+◌, ◌≤◌, ◌<◌}
use native.Mathlib.Omega.{arith}
use lib.Dec.{eqb}
use lib.ListN.{length, take, drop}
use lib.Seq.{take_all, take-length}
use borrow.Author.Tests.{eqb-true, ne_eqb}
use Rattle.refusal.specs.Pick.{both}
use Rattle.text.specs.White.{is_white, whites}
use Rattle.text.specs.Ranges.{in_some}
use Rattle.text.specs.Find.{index_of}
use Rattle.text.specs.Trim.{start_len, end_len, trim_start, trim_end, trim_of}
use Rattle.text.proofs.Laws.{both_one, both-two}
use Rattle.text.proofs.SplitLaws.{well, well-ascii, ascii-one}
use Rattle.text.proofs.TrimLaws.{trim_start-whole, trim_end-whole}
use Rattle.policy.specs.View.{Parts, comma, split, commas, full, tokens}
use Rattle.policy_text.specs.Writer.{joined}
use Rattle.refusal.specs.Each.{Each, each_nil, each-cons}
use Rattle.text.proofs.LackLaws.{lacks, lacks-head, lacks-tail, lacks-cons, index-split, until-lacks}
use Rattle.policy_text.proofs.Bytes.{lacks-trim, Inner, inner-trim}

-- ---- the parts between commas
module _ (b : ℕ) where
  pub record Apart (p : Parts) : Type 0 where
    pub head : lacks b p.head ≡ true
    pub rest : Each (λ (t : List ℕ). lacks b t ≡ true) p.rest

  pub split-lacks : (s : List ℕ) → lacks b s ≡ true → Apart (split s)
  unfolding split lacks
  split-lacks [] e = record { head = refl; rest = each_nil }
  split-lacks (x ∷ s) e = by (eqb x 44) (split-lacks s (lacks-tail b x s e))
    where
      by : (t : Bool) → Apart (split s) → Apart (comma t x (split s))
      by true a = record { head = refl; rest = each-cons a.head a.rest }
      by false a = record { head = lacks-cons b x (split s).head (lacks-head b x s e) a.head; rest = a.rest }

pub split-commas : (s : List ℕ) → Apart 44 (split s)
unfolding split lacks
split-commas [] = record { head = refl; rest = each_nil }
split-commas (x ∷ s) = by (eqb x 44) refl (split-commas s)
  where
    by : (t : Bool) → eqb x 44 ≡ t → Apart 44 (split s) → Apart 44 (comma t x (split s))
    by true q a = record { head = refl; rest = each-cons a.head a.rest }
    by false q a = record { head = lacks-cons 44 x (split s).head q a.head; rest = a.rest }

-- put together again
unfoldable pub glue : List (List ℕ) → List ℕ
glue [] = []
glue (t ∷ ts) = 44 ∷ (t ++ glue ts)

pub split-glue : (s : List ℕ) → (split s).head ++ glue (split s).rest ≡ s
unfolding split glue
split-glue [] = refl
split-glue (x ∷ s) = by (eqb x 44) refl (split-glue s)
  where
    by : (t : Bool) → eqb x 44 ≡ t → (split s).head ++ glue (split s).rest ≡ s
        → (comma t x (split s)).head ++ glue (comma t x (split s)).rest ≡ x ∷ s
    by true q ih = rw (ih, eqb-true x 44 q)
    by false q ih = rw ih

pub record Sound (p : Parts) : Type 0 where
  pub head : well p.head ≡ true
  pub rest : Each (λ (t : List ℕ). well t ≡ true) p.rest

glue-well : (t : List ℕ) (ts : List (List ℕ)) → well (t ++ glue ts) ≡ true → (well t ≡ true) × Each (λ (t : List ℕ). well t ≡ true) ts
unfolding glue
glue-well t [] e = (rw (append-nil t) at e, each_nil)
glue-well t (u ∷ ts) e =
    let z : both (well t) (well (u ++ glue ts)) ≡ true = sym (well-ascii t 44 (u ++ glue ts) (omega arith)) ∙ e in
    let i = glue-well u ts (both-two (well t) (well (u ++ glue ts)) z) in
    (both_one (well t) (well (u ++ glue ts)) z, each-cons i.0 i.1)

split-well : (s : List ℕ) → well s ≡ true → Sound (split s)
split-well s e =
    let i = glue-well (split s).head (split s).rest (rw (split-glue s) e) in
    record { head = i.0; rest = i.1 }

-- ---- a token: no comment, no LF, no comma, trimmed, not empty
pub record FineToken (t : List ℕ) : Type 0 where
  pub inner : Inner t
  pub comma : lacks 44 t ≡ true
  pub start : trim_start t ≡ 0
  pub end : trim_end t ≡ length t
  pub some : 0 < length t

full-fine : (ts : List (List ℕ)) → Each (λ (t : List ℕ). well t ≡ true) ts → Each (λ (t : List ℕ). lacks 10 t ≡ true) ts
    → Each (λ (t : List ℕ). lacks 35 t ≡ true) ts → Each (λ (t : List ℕ). lacks 44 t ≡ true) ts → Each FineToken (full (map trim_of ts))
unfolding full
full-fine [] each_nil each_nil each_nil each_nil = each_nil
full-fine (t ∷ ts) (each-cons w ws) (each-cons l ls) (each-cons h hs) (each-cons c cs) = by (trim_of t) refl (full-fine ts ws ls hs cs)
  where
    by : (u : List ℕ) → trim_of t ≡ u → Each FineToken (full (map trim_of ts)) → Each FineToken (full (u ∷ map trim_of ts))
    by [] e ih = ih
    by (x ∷ u) e ih =
        let k : 0 < length (trim_of t) = rw e (omega arith) in
        let f : FineToken (trim_of t) = fine k in
        each-cons (rw e at f) ih
      where
        fine : 0 < length (trim_of t) → FineToken (trim_of t)
        fine k = record {
          inner = inner-trim t (record { good = w; lf = l; hash = h });
          comma = lacks-trim 44 t c;
          start =
              trim_start-whole t;
          end = trim_end-whole t;
          some = k;
        }

pub tokens-fine : (s : List ℕ) → Inner s → Each FineToken (tokens s)
unfolding tokens commas
tokens-fine s i =
    let w = split-well s i.good in
    let l = split-lacks 10 s i.lf in
    let h = split-lacks 35 s i.hash in
    let c = split-commas s in
    full-fine ((split s).head ∷ (split s).rest) (each-cons w.head w.rest) (each-cons l.head l.rest)
    (each-cons h.head h.rest)
    (each-cons c.head c.rest)

-- ---- a written list read back
pub split_one : (s : List ℕ) → lacks 44 s ≡ true → split s ≡ record { head = s; rest = [] }
unfolding split
split_one [] e = refl
split_one (x ∷ s) e = rw (lacks-head 44 x s e, split_one s (lacks-tail 44 x s e))

pub split_at : (s t : List ℕ) → lacks 44 s ≡ true → split (s ++ 44 ∷ t) ≡ record { head = s; rest = (split t).head ∷ (split t).rest }
unfolding split
split_at [] t e = refl
split_at (x ∷ s) t e = rw (lacks-head 44 x s e, split_at s t (lacks-tail 44 x s e))

-- at its first comma, if it has one
pub split-first : (b : List ℕ) → index_of 44 b < length b
    → (let r = drop (index_of 44 b + 1) b in split b ≡ record { head = take (index_of 44 b) b; rest = (split r).head ∷ (split r).rest })
split-first b h = ap split (index-split 44 b h) ∙ split_at (take (index_of 44 b) b) (drop (index_of 44 b + 1) b) (until-lacks 44 b)

pub split-whole : (b : List ℕ) → length b ≤ index_of 44 b → split b ≡ record { head = take (index_of 44 b) b; rest = [] }
split-whole b h = ap split (sym (take_all (index_of 44 b) b h)) ∙ split_one (take (index_of 44 b) b) (until-lacks 44 b)

commas-joined : (a : List ℕ) (ts : List (List ℕ)) → lacks 44 a ≡ true → Each FineToken ts
    → commas (a ++ joined ts) ≡ a ∷ map (λ (t : List ℕ). 32 ∷ t) ts
unfolding commas joined
commas-joined a [] e each_nil = rw (append-nil a, split_one a e)
commas-joined a (t ∷ ts) e (each-cons f fs) =
    let i = commas-joined (32 ∷ t) ts (lacks-cons 44 32 t refl f.comma) fs in
    rw (split_at a (32 ∷ (t ++ joined ts)) e) (ap (λ (l : List (List ℕ)). a ∷ l) i)

-- a blank before a trimmed part
pub blank-end : (t : List ℕ) → trim_end t ≡ length t → 0 < length t → trim_end (32 ∷ t) ≡ suc (length t)
unfolding trim_end end_len is_white in_some whites
blank-end t e h = rw (ascii-one 32 t (omega arith), e, ne_eqb (length t) 0 (λ z. omega arith)) (omega arith)

blank-start : (t : List ℕ) → trim_start t ≡ 0 → trim_start (32 ∷ t) ≡ 1
unfolding trim_start start_len is_white in_some whites
blank-start t e = rw (ascii-one 32 t (omega arith), e)

blank-trim : (t : List ℕ) → FineToken t → trim_of (32 ∷ t) ≡ t
unfolding trim_of
blank-trim t f = rw (blank-start t f.start, f.end, take-length t)

full-blank : (ts : List (List ℕ)) → Each FineToken ts → full (map trim_of (map (λ (t : List ℕ). 32 ∷ t) ts)) ≡ ts
unfolding full
full-blank [] each_nil = refl
full-blank (t ∷ ts) (each-cons f fs) = rw (blank-trim t f) (by t f.some (full-blank ts fs))
  where
    by : (t : List ℕ) → 0 < length t → full (map trim_of (map (λ (t : List ℕ). 32 ∷ t) ts)) ≡ ts
        → full (t ∷ map trim_of (map (λ (t : List ℕ). 32 ∷ t) ts)) ≡ t ∷ ts
    by [] h ih = absurd (omega arith)
    by (x ∷ t) h ih = rw ih

pub tokens-back : (t : List ℕ) (ts : List (List ℕ)) → Each FineToken (t ∷ ts) → tokens (32 ∷ (t ++ joined ts)) ≡ t ∷ ts
unfolding tokens
tokens-back t ts (each-cons f fs) =
    ap (λ (l : List (List ℕ)). full (map trim_of l)) (commas-joined (32 ∷ t) ts (lacks-cons 44 32 t refl f.comma) fs)
    ∙ full-blank (t ∷ ts) (each-cons f fs)
