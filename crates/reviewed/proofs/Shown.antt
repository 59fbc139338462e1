-- A name as it is shown holds no control byte, and no two names are shown alike. Assumes nothing.
use mathlib.Core.Path.{◌≡◌, refl, sym, ap, ◌∙◌}
use mathlib.Core.Bool.{Bool, true, false, not, false≢true}
use mathlib.Core.List.{List, [], ◌∷◌, ◌++◌}
use Prim.Native.Nat.{ℕ, zero, suc, ◌+◌, ◌-◌, ◌*◌, ◌/◌, ◌%◌, ◌≤◌, ◌<◌}
use native.Mathlib.Omega.{arith}
use lib.Dec.{ltb, leb, eqb}
use lib.ListN.{get_or}
use borrow.Author.Tests.{lt-ltb, le-ltb, ltb-true, ltb-false, le-leb, leb-true, ne_eqb}
use Rattle.refusal.specs.Pick.{pick, both, within}
use Rattle.text.proofs.Laws.{both_one, both-two}
use Rattle.kinds.specs.Kinds.{hex_of}
use Rattle.text.proofs.LackLaws.{lacks, lacks-cons}
use Rattle.reviewed.specs.Escape.{shown_plain, shown, escaped}

-- every number is a byte
unfoldable pub bytes : List ℕ → Bool
bytes [] = true
bytes (b ∷ s) = both (ltb b 256) (bytes s)

-- every byte is printable ASCII
unfoldable pub printable : List ℕ → Bool
printable [] = true
printable (b ∷ s) = both (within 32 126 b) (printable s)

join : (a b : Bool) → a ≡ true → b ≡ true → both a b ≡ true
join a b e f = rw (e, f)

inside : (b : ℕ) → 32 ≤ b → b ≤ 126 → within 32 126 b ≡ true
inside b h i = rw (le-leb 32 b h, le-leb b 126 i)

-- ---- digits of base sixteen
module _ (n : ℕ) (h : n < 16) where
  hex-inside : within 32 126 (hex_of n) ≡ true
  hex-inside = by (ltb n 10) refl
    where
      by : (t : Bool) → ltb n 10 ≡ t → within 32 126 (pick t (48 + n) (97 + (n - 10))) ≡ true
      by true q = inside (48 + n) (omega arith) (omega (arith, ltb-true n 10 q))
      by false q = inside (97 + (n - 10)) (omega arith) (omega arith)

-- the digit that a byte stands for
abbrev pub digit_of : ℕ → ℕ
digit_of c = pick (ltb c 58) (c - 48) (c - 87)

digit-back : (n : ℕ) → n < 16 → digit_of (hex_of n) ≡ n
digit-back n h = by (ltb n 10) refl
  where
    by : (t : Bool) → ltb n 10 ≡ t → digit_of (pick t (48 + n) (97 + (n - 10))) ≡ n
    by true q = rw (lt-ltb (48 + n) 58 (omega (arith, ltb-true n 10 q))) (omega arith)
    by false q = rw (le-ltb (97 + (n - 10)) 58 (omega arith)) (omega (arith, ltb-false n 10 q))

-- ---- a byte that is shown as it is
other : (u : Bool) → not u ≡ true → u ≡ false
other true e = absurd (false≢true e)
other false e = refl

module _ (b : ℕ) (q : shown_plain b ≡ true) where
  marks : both (not (eqb b 34)) (not (eqb b 92)) ≡ true
  unfolding shown_plain
  marks = both-two (within 32 126 b) (both (not (eqb b 34)) (not (eqb b 92))) q

  no-quote : eqb b 34 ≡ false
  no-quote = other (eqb b 34) (both_one (not (eqb b 34)) (not (eqb b 92)) marks)

  no-backslash : eqb b 92 ≡ false
  no-backslash = other (eqb b 92) (both-two (not (eqb b 34)) (not (eqb b 92)) marks)

-- ---- no control byte
print-append : (s t : List ℕ) → printable s ≡ true → printable t ≡ true → printable (s ++ t) ≡ true
unfolding printable
print-append [] t e f = f
print-append (b ∷ s) t e f =
    join (within 32 126 b) (printable (s ++ t)) (both_one (within 32 126 b) (printable s) e)
    (print-append s t (both-two (within 32 126 b) (printable s) e) f)

shown-printable : (b : ℕ) → b < 256 → printable (shown b) ≡ true
unfolding printable shown shown_plain
shown-printable b h = by (shown_plain b) refl
  where
    by : (t : Bool) → shown_plain b ≡ t
        → printable (pick t (b ∷ []) (92 ∷ 120 ∷ hex_of (b / 16) ∷ hex_of (b % 16) ∷ [])) ≡ true
    by true q = rw (both_one (within 32 126 b) (both (not (eqb b 34)) (not (eqb b 92))) q)
    by false q = rw (hex-inside (b / 16) (omega arith), hex-inside (b % 16) (omega arith))

pub escaped-printable : (s : List ℕ) → bytes s ≡ true → printable (escaped s) ≡ true
unfolding bytes printable escaped
escaped-printable [] e = refl
escaped-printable (b ∷ s) e =
    print-append (shown b) (escaped s) (shown-printable b (ltb-true b 256 (both_one (ltb b 256) (bytes s) e)))
    (escaped-printable s (both-two (ltb b 256) (bytes s) e))

printable-lacks : (c : ℕ) → c < 32 → (s : List ℕ) → printable s ≡ true → lacks c s ≡ true
unfolding printable lacks
printable-lacks c h [] e = refl
printable-lacks c h (b ∷ s) e =
    let i = both_one (within 32 126 b) (printable s) e in
    let j : 32 ≤ b = leb-true 32 b (both_one (leb 32 b) (leb b 126) i) in
    lacks-cons c b s (ne_eqb b c (λ q. absurd (omega (arith, q)))) (printable-lacks c h s (both-two (within 32 126 b) (printable s) e))

-- so LF, CR and the escape character do not occur: a name cannot end a line, nor start one over
pub no-control : (c : ℕ) → c < 32 → (s : List ℕ) → bytes s ≡ true → lacks c (escaped s) ≡ true
no-control c h s e = printable-lacks c h (escaped s) (escaped-printable s e)

-- ---- no quote: a name in quotes ends where they do
hex-no-quote : (n : ℕ) → n < 16 → eqb (hex_of n) 34 ≡ false
hex-no-quote n h = by (ltb n 10) refl
  where
    by : (t : Bool) → ltb n 10 ≡ t → eqb (pick t (48 + n) (97 + (n - 10))) 34 ≡ false
    by true q = ne_eqb (48 + n) 34 (λ e. absurd (omega (arith, e)))
    by false q = ne_eqb (97 + (n - 10)) 34 (λ e. absurd (omega (arith, e)))

shown-lacks : (b : ℕ) (t : List ℕ) → b < 256 → lacks 34 t ≡ true → lacks 34 (shown b ++ t) ≡ true
unfolding shown
shown-lacks b t h e = by (shown_plain b) refl
  where
    by : (u : Bool) → shown_plain b ≡ u → lacks 34 (pick u (b ∷ []) (92 ∷ 120 ∷ hex_of (b / 16) ∷ hex_of (b % 16) ∷ []) ++ t) ≡ true
    by true q = lacks-cons 34 b t (no-quote b q) e
    by false q =
        lacks-cons 34 92 _ refl
        (lacks-cons 34 120 _ refl
        (lacks-cons 34 (hex_of (b / 16)) _ (hex-no-quote (b / 16) (omega arith))
        (lacks-cons 34 (hex_of (b % 16)) t (hex-no-quote (b % 16) (omega arith)) e)))

pub escaped-no-quote : (s : List ℕ) → bytes s ≡ true → lacks 34 (escaped s) ≡ true
unfolding bytes escaped lacks
escaped-no-quote [] e = refl
escaped-no-quote (b ∷ s) e =
    shown-lacks b (escaped s) (ltb-true b 256 (both_one (ltb b 256) (bytes s) e))
    (escaped-no-quote s (both-two (ltb b 256) (bytes s) e))

-- ---- read back: k bytes of a code are to be passed over
unfoldable pub read_back : ℕ → List ℕ → List ℕ
read_back k [] = []
read_back zero (b ∷ s) =
    pick (eqb b 92) ((digit_of (get_or s 1 0) * 16 + digit_of (get_or s 2 0)) ∷ read_back 3 s) (b ∷ read_back 0 s)
read_back (suc k) (b ∷ s) = read_back k s

shown-back : (b : ℕ) (t : List ℕ) → b < 256 → read_back 0 (shown b ++ t) ≡ b ∷ read_back 0 t
unfolding read_back shown shown_plain
shown-back b t h = by (shown_plain b) refl
  where
    by : (u : Bool) → shown_plain b ≡ u
        → read_back 0 (pick u (b ∷ []) (92 ∷ 120 ∷ hex_of (b / 16) ∷ hex_of (b % 16) ∷ []) ++ t) ≡ b ∷ read_back 0 t
    by true q = rw (no-backslash b q)
    by false q =
        let z : b / 16 * 16 + b % 16 ≡ b = omega arith in
        rw (digit-back (b / 16) (omega arith), digit-back (b % 16) (omega arith), z)

pub escaped-back : (s : List ℕ) → bytes s ≡ true → read_back 0 (escaped s) ≡ s
unfolding read_back escaped bytes
escaped-back [] e = refl
escaped-back (b ∷ s) e =
    shown-back b (escaped s) (ltb-true b 256 (both_one (ltb b 256) (bytes s) e))
    ∙ ap (λ (l : List ℕ). b ∷ l) (escaped-back s (both-two (ltb b 256) (bytes s) e))

pub shown-apart : (s t : List ℕ) → bytes s ≡ true → bytes t ≡ true → escaped s ≡ escaped t → s ≡ t
shown-apart s t e f q = sym (escaped-back s e) ∙ ap (read_back 0) q ∙ escaped-back t f
