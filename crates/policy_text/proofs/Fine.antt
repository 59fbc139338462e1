-- What the reader gives: a name and tokens that can be written so that they are read back. Assumes nothing.
use mathlib.Core.Path.{◌≡◌, refl, ◌∙◌}
use mathlib.Core.Bool.{Bool, true, false}
use mathlib.Core.List.{List, [], ◌∷◌, ◌++◌}
use Prim.Native.Nat.{ℕ, zero, suc, ◌+◌, ◌≤◌, ◌<◌, suc-le-suc}
use native.Mathlib.Omega.{arith}
use lib.Dec.{eqb, ltb}
use lib.ListN.{length, take, drop, set, length-set}
use borrow.Author.Tests.{ltb-true, ltb-false}
use Rattle.refusal.specs.Pick.{pick}
use Rattle.refusal.specs.Sizes.{text_limit}
use Rattle.refusal.specs.Said.{Said, accepted, refused, offset, spot}
use Rattle.refusal.proofs.Following.{never, followed}
use Rattle.text.specs.Find.{index_of, begins, same}
use Rattle.text.specs.Utf8.{up_to, seq_len}
use Rattle.text.specs.Scan.{scan}
use Rattle.text.proofs.SplitLaws.{well, upto-well}
use Rattle.domains.specs.Domain.{Perhaps, nothing, just, domain_of}
use Rattle.text.specs.Piece.{Piece, beyond, trim, shorn}
use Rattle.policy.specs.Piece.{until, past_byte, bare, quotes, lines_of}
use Rattle.policy.specs.Directive.{policy_w, default_w, allow_w, deny_w, allow, deny, Directive, blank, wrong, called, preset, plain}
use Rattle.policy.specs.Directive.{listed, defaulted, plain_by, listed_by, rule_directive, policy_worded, policy_spoken, policy_core}
use Rattle.policy.specs.Directive.{policy_directive, fault}
use Rattle.policy.specs.Reader.{run, read_with}
use Rattle.policy.specs.View.{RuleView, silent, ruling, PolicyView, tokens, no_name, first_view, heed, meaning}
use Rattle.text.specs.Whole.{whole_text}
use Rattle.domains.proofs.DomainLaws.{Small, no, yes, domain-small}
use Rattle.text.proofs.PieceLaws.{trim-bytes}
use Rattle.policy.proofs.Lines.{EachPiece, more}
use Rattle.text.proofs.LackLaws.{lacks, lacks-take, until-lacks, well-until}
use Rattle.policy_text.proofs.Bytes.{Inner, inner-trim, inner-past, inner-word, ascii}
use Rattle.policy_text.proofs.Bytes.{well-word, FineName, fine-name}
use Rattle.refusal.specs.Each.{Each, each_nil}
use Rattle.policy_text.proofs.Tokens.{FineToken, tokens-fine}
use Rattle.policy_text.proofs.Written.{GoodLine, lines-good, well-none}

pub data FineRule : RuleView → Type 0 where
  quiet : FineRule silent
  stated : {t : Bool} {ts : List (List ℕ)} → Each FineToken ts → FineRule (ruling t ts)

pub data EachRule : List RuleView → Type 0 where
  no_rule : EachRule []
  rule : {r : RuleView} {rs : List RuleView} → FineRule r → EachRule rs → EachRule (r ∷ rs)

pub record FineView (v : PolicyView) : Type 0 where
  pub name : FineName v.name
  pub count : length v.rules ≡ 7
  pub rules : EachRule v.rules

pub data FineDirective : Directive → Type 0 where
  f-blank : FineDirective blank
  f-wrong : {k : ℕ} → FineDirective (wrong k)
  f-called : {p : Piece} → FineName p.bytes → FineDirective (called p)
  f-preset : {t : Bool} → FineDirective (preset t)
  f-plain : {t : Bool} {d : ℕ} → d < 7 → FineDirective (plain t d)
  f-listed : {t : Bool} {d : ℕ} {p : Piece} → d < 7 → Inner p.bytes → FineDirective (listed t d p)

choose : (t : Bool) (a b : Directive) → (t ≡ true → FineDirective a) → (t ≡ false → FineDirective b) → FineDirective (pick t a b)
choose true a b f g = f refl
choose false a b f g = g refl

plain-fine : (t : Bool) (d : Perhaps) → Small d → FineDirective (plain_by t d)
unfolding plain_by
plain-fine t nothing no = f-wrong
plain-fine t (just d) (yes h) = f-plain h

listed-fine : (t : Bool) (d : Perhaps) (p : Piece) → Small d → Inner p.bytes → FineDirective (listed_by t d p)
unfolding listed_by
listed-fine t nothing p no i = f-wrong
listed-fine t (just d) p (yes h) i = f-listed h i

-- ---- a line's directive
ruled-fine : (t : Bool) (b : Piece) → Inner b.bytes → FineDirective (rule_directive t b)
unfolding rule_directive
ruled-fine t b i =
    choose (ltb (index_of 58 b.bytes) (length b.bytes)) _ _
    (λ e. listed-fine t (domain_of (trim (until 58 b)).bytes) (past_byte 58 b) (domain-small (trim (until 58 b)).bytes)
    (inner-past 58 b.bytes (omega arith) (ltb-true (index_of 58 b.bytes) (length b.bytes) e) i))
    (λ e. plain-fine t (domain_of (trim b).bytes) (domain-small (trim b).bytes))

bare-fine : (p : Piece) → Inner p.bytes → FineName (bare p).bytes
unfolding bare
bare-fine p i = fine-name p.bytes i

defaulted-fine : (s : List ℕ) → FineDirective (defaulted s)
unfolding defaulted
defaulted-fine s = choose (same allow s) _ _ (λ e. f-preset) (λ e. choose (same deny s) _ _ (λ e. f-preset) (λ e. f-wrong))

worded-fine : (c : Piece) → Inner c.bytes → FineDirective (policy_worded c)
unfolding policy_worded ascii
worded-fine c i =
    choose (begins policy_w c.bytes) _ _
    (λ e. f-called (bare-fine (trim (beyond 7 c))
    (rw (trim-bytes (beyond 7 c)) (inner-trim (drop 7 c.bytes) (inner-word policy_w c.bytes refl e i)))))
    (λ e. choose (begins default_w c.bytes) _ _
    (λ e. defaulted-fine (trim (beyond 8 c)).bytes)
    (λ e. choose (begins allow_w c.bytes) _ _
    (λ e. ruled-fine true (beyond 6 c) (inner-word allow_w c.bytes refl e i))
    (λ e. choose (begins deny_w c.bytes) _ _
    (λ e. ruled-fine false (beyond 5 c) (inner-word deny_w c.bytes refl e i))
    (λ e. f-wrong))))

core-inner : (p : Piece) → GoodLine p → Inner (policy_core p).bytes
unfolding policy_core
core-inner p g =
    let s = p.bytes in
    let i : Inner (take (index_of 35 s) s) =
    record { good = well-until 35 (omega arith) s g.good; lf = lacks-take 10 (index_of 35 s) s g.lf; hash = until-lacks 35 s } in
    rw (trim-bytes (until 35 p)) (inner-trim (take (index_of 35 s) s) i)

pub directive-fine : (p : Piece) → GoodLine p → FineDirective (policy_directive p)
unfolding policy_directive policy_spoken
directive-fine p g = choose (eqb (length (policy_core p).bytes) 0) _ _ (λ e. f-blank) (λ e. worded-fine (policy_core p) (core-inner p g))

-- ---- the policy after it
each_set : (rs : List RuleView) (d : ℕ) (r : RuleView) → EachRule rs → FineRule r → EachRule (set rs d r)
each_set [] d r no_rule f = no_rule
each_set (q ∷ rs) zero r (rule g gs) f = rule f gs
each_set (q ∷ rs) (suc d) r (rule g gs) f = rule g (each_set rs d r gs f)

heed-fine : (d : Directive) (v : PolicyView) → FineDirective d → FineView v → FineView (heed d v)
unfolding heed
heed-fine blank v f g = g
heed-fine (wrong k) v f g = g
heed-fine (called p) v (f-called n) g = record { name = n; count = g.count; rules = g.rules }
heed-fine (preset t) v f g = record { name = g.name; count = g.count; rules = g.rules }
heed-fine (plain t d) v f g =
    record {
      name = g.name;
      count = length-set v.rules d (ruling t []) ∙ g.count;
      rules =
          each_set v.rules d (ruling t []) g.rules (stated each_nil);
    }
heed-fine (listed t d p) v (f-listed h i) g =
    let ts = tokens p.bytes in
    record {
      name = g.name;
      count = length-set v.rules d (ruling t ts) ∙ g.count;
      rules =
          each_set v.rules d (ruling t ts) g.rules (stated (tokens-fine p.bytes i));
    }

pub run-fine : (n : ℕ) (v w : PolicyView) (ps : List Piece) → EachPiece GoodLine ps → FineView v → run heed n v ps ≡ accepted w → FineView w
unfolding run
run-fine n v w [] gs f e = let z : v ≡ w = cc in rw z at f
run-fine n v w (p ∷ ps) (more g gs) f e = by (fault (policy_directive p)) refl
    (run-fine (n + 1) (heed (policy_directive p) v) w ps gs (heed-fine (policy_directive p) v (directive-fine p g) f))
  where
    by : (k : ℕ) → fault (policy_directive p) ≡ k → (run heed (n + 1) (heed (policy_directive p) v) ps ≡ accepted w → FineView w) → FineView w
    by zero q ih = ih (rw (q, run) at e)
    by (suc k) q ih =
        let b : refused (suc k) (spot n) ≡ accepted w = rw (q, run) at e in
        absurd (let z : ◌≡◌ {A = ℕ} 0 1 = cc in omega arith)

-- ---- a text that is read
pub record Read (s : List ℕ) (w : PolicyView) : Type 0 where
  pub good : well s ≡ true
  pub ran : run heed 1 first_view (lines_of s) ≡ accepted w

scan-le : (f : List ℕ → ℕ) (k : ℕ) (s : List ℕ) → scan f k s ≤ length s
unfolding scan
scan-le f zero [] = omega arith
scan-le f (suc k) [] = omega arith
scan-le f (suc k) (x ∷ s) = suc-le-suc (scan-le f k s)
scan-le f zero (x ∷ s) = by (f (x ∷ s)) refl (λ (k : ℕ). scan-le f k s)
  where
    by : (k : ℕ) → f (x ∷ s) ≡ k → ((k : ℕ) → scan f k s ≤ length s) → scan f 0 (x ∷ s) ≤ suc (length s)
    by zero q ih = rw (q, scan) (omega arith)
    by (suc k) q ih = rw (q, scan) (suc-le-suc (ih k))

whole-well : (s : List ℕ) → whole_text s ≡ accepted tt → well s ≡ true
unfolding whole_text
whole-well s e = by (ltb text_limit (length s)) (ltb (up_to s) (length s)) refl e
  where
    all : up_to s ≤ length s
    all = unfold up_to in scan-le seq_len 0 s

    by : (t u : Bool) → ltb (up_to s) (length s) ≡ u
        → ◌≡◌ {A = Said (Unit {0})} (pick t (refused 14 (spot 0)) (pick u (refused 4 (offset (up_to s))) (accepted tt))) (accepted tt)
        → well s ≡ true
    by true u q e = absurd (never e)
    by false true q e = absurd (never e)
    by false false q e = upto-well s (omega (arith, all, ltb-false (up_to s) (length s) q))

read-parts : (s : List ℕ) (w : PolicyView) → meaning s ≡ accepted w → Read s w
unfolding meaning read_with
read-parts s w e =
    let f = followed (whole_text s) (λ ok. run heed 1 first_view (lines_of s)) e in
    record { good = whole-well s f.first; ran = f.then }

first_fine : FineView first_view
unfolding first_view lacks quotes shorn ascii
first_fine =
    let w : well (no_name ++ []) ≡ true = well-word no_name [] refl ∙ well-none in
    record {
      name = record { inner = record { good = w; lf = refl; hash = refl }; front = refl; back = refl };
      count = refl;
      rules =
          rule quiet (rule quiet (rule quiet (rule quiet (rule quiet (rule quiet (rule quiet no_rule))))));
    }

pub meaning-fine : (s : List ℕ) (w : PolicyView) → meaning s ≡ accepted w → FineView w
meaning-fine s w e = let r = read-parts s w e in run-fine 1 first_view w (lines_of s) (lines-good s r.good) first_fine r.ran
