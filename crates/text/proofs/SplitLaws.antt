-- The characters of a text that is put together or taken apart: at a byte that begins one, whatever stands before it;
-- at a cut between two. Assumes nothing.
use mathlib.Core.Path.{◌≡◌, refl, sym, ap, ◌∙◌}
use mathlib.Core.Bool.{Bool, true, false, false≢true}
use mathlib.Core.List.{List, [], ◌∷◌, ◌++◌}
use mathlib.Core.Logic.{◌⊎◌, inl, inr}
use Prim.Native.Nat.{ℕ, zero, suc, ◌+◌, ◌%◌, ◌≤◌, ◌<◌}
use native.Mathlib.Omega.{arith}
use native.Mathlib.Nat.{not-suc-le-zero, le_of_suc-le-suc}
use lib.ListN.{length, get_or, take, drop, get_or-append, take-append-drop}
use lib.Seq.{length-take-le}
use lib.Dec.{ltb, leb}
use borrow.Author.Tests.{lt-ltb, lt-leb, leb-true}
use Rattle.refusal.specs.Pick.{pick, both, within}
use Rattle.text.specs.Scan.{scan}
use Rattle.text.specs.Ranges.{Range, ◌to◌, in_range}
use Rattle.text.specs.Utf8.{Utf8Row, row, Follow, none, these, utf8_table, follow_in, followers, covers, after, seq_len, up_to}
use Rattle.text.specs.Chars.{more, code_by, code_of, more_by, Char, char, chars_from, chars}
use Rattle.text.proofs.Utf8Laws.{seq-long, seq-ascii}
use Rattle.text.proofs.CharLaws.{bytes_of, chars-bytes}
use Rattle.text.proofs.Laws.{both_one, both-two, both-and}

-- ---- every byte after the first is from 80 to BF
unfoldable tails : List Range → Bool
tails [] = true
tails ((lo to hi) ∷ rs) = both (both (leb 0x80 lo) (leb hi 0xBF)) (tails rs)

unfoldable tail_rows : List Utf8Row → Bool
tail_rows [] = true
tail_rows (row r rs ∷ rows) = both (tails rs) (tail_rows rows)

unfoldable tail_follow : Follow → Bool
tail_follow none = true
tail_follow (these rs) = tails rs

rows-tail : (rows : List Utf8Row) (a : ℕ) → tail_rows rows ≡ true → tail_follow (follow_in rows a) ≡ true
unfolding tail_rows tail_follow follow_in
rows-tail [] a e = refl
rows-tail (row r rs ∷ rows) a e = by (in_range r a) (rows-tail rows a (both-two (tails rs) _ e))
  where
    by : (t : Bool) → tail_follow (follow_in rows a) ≡ true → tail_follow (pick t (these rs) (follow_in rows a)) ≡ true
    by true ih = both_one (tails rs) (tail_rows rows) e
    by false ih = ih

follow-tail : (a : ℕ) → tail_follow (followers a) ≡ true
unfolding followers utf8_table tail_rows tails
follow-tail a = rows-tail utf8_table a refl

-- a byte that is none of those begins a character, whatever stands before it
abbrev pub Starts : ℕ → Type 0
Starts x = (x < 0x80) ⊎ (0xBF < x)

-- ---- a sequence, with more after it
out_of : (lo hi x : ℕ) → 0x80 ≤ lo → hi ≤ 0xBF → Starts x → within lo hi x ≡ false
out_of lo hi x l h (inl b) = rw (lt-leb lo x (omega arith))
out_of lo hi x l h (inr b) = by (leb lo x)
  where
    by : (t : Bool) → both t (leb x hi) ≡ false
    by true = lt-leb x hi (omega arith)
    by false = refl

covers-start : (rs : List Range) (s : List ℕ) (x : ℕ) (t : List ℕ) → tails rs ≡ true → Starts x → covers rs (s ++ x ∷ t) ≡ covers rs s
unfolding covers tails
covers-start [] s x t e h = refl
covers-start ((lo to hi) ∷ rs) [] x t e h =
    let i = both_one (both (leb 0x80 lo) (leb hi 0xBF)) (tails rs) e in
    let l = leb-true 0x80 lo (both_one (leb 0x80 lo) (leb hi 0xBF) i) in
    let u = leb-true hi 0xBF (both-two (leb 0x80 lo) (leb hi 0xBF) i) in
    rw (out_of lo hi x l u h)
covers-start ((lo to hi) ∷ rs) (y ∷ s) x t e h =
    ap (both (within lo hi y)) (covers-start rs s x t (both-two (both (leb 0x80 lo) (leb hi 0xBF)) (tails rs) e) h)

after-start : (f : Follow) (s : List ℕ) (x : ℕ) (t : List ℕ) → tail_follow f ≡ true → Starts x → after f (s ++ x ∷ t) ≡ after f s
unfolding after tail_follow
after-start none s x t e h = refl
after-start (these rs) s x t e h = rw (covers-start rs s x t e h)

seq_start : (y : ℕ) (s : List ℕ) (x : ℕ) (t : List ℕ) → Starts x → seq_len (y ∷ (s ++ x ∷ t)) ≡ seq_len (y ∷ s)
unfolding seq_len
seq_start y s x t h = after-start (followers y) s x t (follow-tail y) h

covers_less : (rs : List Range) (a b : List ℕ) → covers rs (a ++ b) ≡ false → covers rs a ≡ false
unfolding covers
covers_less [] a b e = absurd (false≢true (sym e))
covers_less (r ∷ rs) [] b e = refl
covers_less (r ∷ rs) (y ∷ a) b e = by (in_range r y) (covers_less rs a b) e
  where
    by : (t : Bool) → (covers rs (a ++ b) ≡ false → covers rs a ≡ false) → both t (covers rs (a ++ b)) ≡ false
        → both t (covers rs a) ≡ false
    by true ih e = ih e
    by false ih e = refl

covers-cut : (rs : List Range) (a b : List ℕ) → covers rs (a ++ b) ≡ true → length rs ≤ length a → covers rs a ≡ true
unfolding covers
covers-cut [] a b e h = refl
covers-cut (r ∷ rs) [] b e h = absurd (not-suc-le-zero h)
covers-cut (r ∷ rs) (y ∷ a) b e h =
    let i = covers-cut rs a b (both-two (in_range r y) _ e) (le_of_suc-le-suc h) in
    both-and (in_range r y) (covers rs a) (both_one (in_range r y) _ e) i

after-cut : (f : Follow) (a b : List ℕ) → more_by (after f (a ++ b)) ≤ length a → after f (a ++ b) ≡ after f a
unfolding after more_by
after-cut none a b h = refl
after-cut (these rs) a b h = by (covers rs (a ++ b)) refl h
  where
    by : (t : Bool) → covers rs (a ++ b) ≡ t → more_by (pick t (suc (length rs)) 0) ≤ length a
        → pick t (suc (length rs)) 0 ≡ pick (covers rs a) (suc (length rs)) 0
    by true e h = rw (covers-cut rs a b e h)
    by false e h = rw (covers_less rs a b e)

seq-cut : (y : ℕ) (a b : List ℕ) → more (y ∷ (a ++ b)) ≤ length a → seq_len (y ∷ (a ++ b)) ≡ seq_len (y ∷ a)
unfolding seq_len more
seq-cut y a b h = after-cut (followers y) a b h

code-more : (k : ℕ) (a b : List ℕ) → k ≤ length a → code_by k (a ++ b) ≡ code_by k a
unfolding code_by
code-more zero a b h = refl
code-more (suc zero) a b h = rw (get_or-append a b 0 0 (omega arith))
code-more (suc (suc zero)) a b h =
    rw (
      get_or-append a b 0 0 (omega arith),
      get_or-append a b 0 1 (omega arith),
    )
code-more (suc (suc (suc zero))) a b h =
    rw (
      get_or-append a b 0 0 (omega arith),
      get_or-append a b 0 1 (omega arith),
      get_or-append a b 0 2 (omega arith),
    )
code-more (suc (suc (suc (suc k)))) a b h =
    rw (
      get_or-append a b 0 0 (omega arith),
      get_or-append a b 0 1 (omega arith),
      get_or-append a b 0 2 (omega arith),
      get_or-append a b 0 3 (omega arith),
    )

-- the first character is the same where its sequence is as long
pub record Front (y : ℕ) (a b : List ℕ) : Type 0 where
  pub code : code_of (y ∷ (a ++ b)) ≡ code_of (y ∷ a)
  pub rest : more (y ∷ (a ++ b)) ≡ more (y ∷ a)

front : (y : ℕ) (a b : List ℕ) → seq_len (y ∷ (a ++ b)) ≡ seq_len (y ∷ a) → Front y a b
unfolding code_of more
front y a b e = record { code = rw e (code-more (seq_len (y ∷ a)) (y ∷ a) b (seq-long (y ∷ a))); rest = rw e }

more-le : (y : ℕ) (a : List ℕ) → more (y ∷ a) ≤ length a
unfolding more more_by
more-le y a = by (seq_len (y ∷ a)) (seq-long (y ∷ a))
  where
    by : (k : ℕ) → k ≤ suc (length a) → more_by k ≤ length a
    by zero h = omega arith
    by (suc k) h = omega arith

-- ---- such a byte parts the characters
start-from : (k : ℕ) (s : List ℕ) (x : ℕ) (t : List ℕ) → Starts x → k ≤ length s
    → chars_from k (s ++ x ∷ t) ≡ chars_from k s ++ chars_from 0 (x ∷ t)
unfolding chars_from
start-from zero [] x t h b = refl
start-from (suc k) [] x t h b = absurd (not-suc-le-zero b)
start-from (suc k) (y ∷ s) x t h b = start-from k s x t h (le_of_suc-le-suc b)
start-from zero (y ∷ s) x t h b =
    let f = front y s (x ∷ t) (seq_start y s x t h) in
    rw (f.code, f.rest, start-from (more (y ∷ s)) s x t h (more-le y s))

pub chars-start : (s : List ℕ) (x : ℕ) (t : List ℕ) → Starts x → chars (s ++ x ∷ t) ≡ chars s ++ chars (x ∷ t)
unfolding chars
chars-start s x t h = start-from 0 s x t h (omega arith)

-- an ASCII byte is one
pub chars_ascii : (s : List ℕ) (x : ℕ) (t : List ℕ) → x < 0x80 → chars (s ++ x ∷ t) ≡ chars s ++ chars (x ∷ t)
chars_ascii s x t h = chars-start s x t (inl h)

-- ---- a cut between two characters
cut-from : (k : ℕ) (a b : List ℕ) (ps qs : List Char) → chars_from k (a ++ b) ≡ ps ++ qs → k + bytes_of ps ≡ length a
    → (chars_from k a ≡ ps) × (chars_from 0 b ≡ qs)
unfolding chars_from bytes_of
cut-from zero [] b [] qs e h = (refl, e)
cut-from zero [] b (char c m ∷ ps) qs e h = absurd (omega arith)
cut-from (suc k) [] b ps qs e h = absurd (omega arith)
cut-from (suc k) (y ∷ a) b ps qs e h = cut-from k a b ps qs e (omega arith)
cut-from zero (y ∷ a) b [] qs e h = absurd (omega arith)
cut-from zero (y ∷ a) b (char c m ∷ ps) qs e h =
    let m₀ : more (y ∷ (a ++ b)) ≡ m = cc in
    let c₀ : code_of (y ∷ (a ++ b)) ≡ c = cc in
    let r₀ : chars_from (more (y ∷ (a ++ b))) (a ++ b) ≡ ps ++ qs = cc in
    let f = front y a b (seq-cut y a b (omega arith)) in
    let r₁ : chars_from m (a ++ b) ≡ ps ++ qs = rw m₀ at r₀ in
    let i = cut-from m a b ps qs r₁ (omega arith) in
    let m₁ : more (y ∷ a) ≡ m = sym f.rest ∙ m₀ in
    let c₁ : code_of (y ∷ a) ≡ c = sym f.code ∙ c₀ in
    (rw (m₁, c₁, i.0), i.1)

pub record Cut (s : List ℕ) (n : ℕ) (ps qs : List Char) : Type 0 where
  pub left : chars (take n s) ≡ ps
  pub right : chars (drop n s) ≡ qs

-- the characters before and after a cut between two
pub chars-cut : (s : List ℕ) (n : ℕ) (ps qs : List Char) → chars s ≡ ps ++ qs → bytes_of ps ≡ n → n ≤ length s → Cut s n ps qs
unfolding chars
chars-cut s n ps qs e h b =
    let j : chars_from 0 (take n s ++ drop n s) ≡ ps ++ qs = rw (take-append-drop n s) e in
    let i = cut-from 0 (take n s) (drop n s) ps qs j (omega (arith, length-take-le n s b)) in
    record { left = i.0; right = i.1 }

-- the characters take all the bytes
pub bytes-all : (s : List ℕ) → bytes_of (chars s) ≡ length s
unfolding chars
bytes-all s = omega (arith, chars-bytes 0 s (omega arith))

-- ---- well formed, by the characters: one that is a byte alone is ASCII
unfoldable pub proper : Char → Bool
proper (char c zero) = ltb c 0x80
proper (char c (suc m)) = true

unfoldable pub all_proper : List Char → Bool
all_proper [] = true
all_proper (c ∷ cs) = both (proper c) (all_proper cs)

pub proper-append : (cs ds : List Char) → all_proper (cs ++ ds) ≡ both (all_proper cs) (all_proper ds)
unfolding all_proper
proper-append [] ds = refl
proper-append (c ∷ cs) ds = rw (proper-append cs ds) (by (proper c))
  where
    by : (t : Bool) → both t (both (all_proper cs) (all_proper ds)) ≡ both (both t (all_proper cs)) (all_proper ds)
    by true = refl
    by false = refl

-- a text is well formed
unfoldable pub well : List ℕ → Bool
well s = all_proper (chars s)

proper-seq : (k : ℕ) (s : List ℕ) → proper (char (code_by (suc k) s) k) ≡ true
unfolding proper code_by
proper-seq zero s = lt-ltb (get_or s 0 0 % 128) 0x80 (omega arith)
proper-seq (suc k) s = refl

upto_from : (k : ℕ) (s : List ℕ) → scan seq_len k s ≡ length s → all_proper (chars_from k s) ≡ true
unfolding scan chars_from all_proper code_of more more_by
upto_from k [] e = refl
upto_from (suc k) (x ∷ s) e = upto_from k s (omega arith)
upto_from zero (x ∷ s) e = by (seq_len (x ∷ s)) refl (λ (k : ℕ). upto_from k s)
  where
    by : (k : ℕ) → seq_len (x ∷ s) ≡ k → ((k : ℕ) → scan seq_len k s ≡ length s → all_proper (chars_from k s) ≡ true)
        → both (proper (char (code_of (x ∷ s)) (more (x ∷ s)))) (all_proper (chars_from (more (x ∷ s)) s)) ≡ true
    by zero q ih = absurd (let z : ◌≡◌ {A = ℕ} 0 (suc (length s)) = rw (q, scan) at e in omega arith)
    by (suc k) q ih =
        let z : suc (scan seq_len k s) ≡ suc (length s) = rw (q, scan) at e in
        rw q (both-and _ _ (proper-seq k (x ∷ s)) (ih k (omega arith)))

-- a text is well formed where all of it stands before the first ill-formed sequence
pub upto-well : (s : List ℕ) → up_to s ≡ length s → well s ≡ true
unfolding well up_to chars
upto-well s e = upto_from 0 s e

from-upto : (k : ℕ) (s : List ℕ) → all_proper (chars_from k s) ≡ true → k ≤ length s → scan seq_len k s ≡ length s
unfolding scan chars_from all_proper code_of code_by more more_by proper
from-upto zero [] e h = refl
from-upto (suc k) [] e h = absurd (not-suc-le-zero h)
from-upto (suc k) (x ∷ s) e h = ap suc (from-upto k s e (le_of_suc-le-suc h))
from-upto zero (x ∷ s) e h = by (seq_len (x ∷ s)) refl (λ (k : ℕ). from-upto k s) (seq-long (x ∷ s))
  where
    by : (k : ℕ) → seq_len (x ∷ s) ≡ k → ((k : ℕ) → all_proper (chars_from k s) ≡ true → k ≤ length s → scan seq_len k s ≡ length s)
        → seq_len (x ∷ s) ≤ suc (length s)
        → scan seq_len 0 (x ∷ s) ≡ suc (length s)
    by zero q ih b = absurd (false≢true (rw q at e))
    by (suc k) q ih b =
        let z : both (proper (char (code_by (suc k) (x ∷ s)) k)) (all_proper (chars_from k s)) ≡ true = rw q at e in
        rw (q, scan) (ap suc (ih k (both-two (proper (char (code_by (suc k) (x ∷ s)) k)) (all_proper (chars_from k s)) z) (omega arith)))

-- and the other way round
pub well-upto : (s : List ℕ) → well s ≡ true → up_to s ≡ length s
unfolding well up_to chars
well-upto s e = from-upto 0 s e (omega arith)

-- ---- an ASCII byte is a character alone
pub ascii-one : (x : ℕ) (t : List ℕ) → x < 0x80 → chars (x ∷ t) ≡ char x 0 ∷ chars t
unfolding chars chars_from code_of code_by more more_by
ascii-one x t h =
    let e : x % 128 ≡ x = omega arith in
    rw (seq-ascii x t h, e)

pub well-one : (x : ℕ) (t : List ℕ) → x < 0x80 → well (x ∷ t) ≡ well t
unfolding well all_proper proper
well-one x t h = rw (ascii-one x t h, lt-ltb x 0x80 h)

-- an ASCII byte parts a text into two that are well formed or not by themselves
pub well-ascii : (w : List ℕ) (x : ℕ) (t : List ℕ) → x < 0x80 → well (w ++ x ∷ t) ≡ both (well w) (well t)
unfolding well
well-ascii w x t h = rw (chars_ascii w x t h)
    (proper-append (chars w) (chars (x ∷ t)) ∙ ap (both (all_proper (chars w))) (unfold well in well-one x t h))
