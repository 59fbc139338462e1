-- Names as they are shown, byte by byte. Assumes nothing.
use mathlib.Core.Path.{◌≡◌, refl, sym, ap, ◌∙◌}
use mathlib.Core.Bool.{Bool, true, false}
use mathlib.Core.Logic.{◌⊎◌, inl, inr}
use mathlib.Core.List.{List, [], ◌∷◌, ◌++◌, append-nil, append_assoc}
use Prim.Native.Nat.{ℕ, zero, suc, ◌+◌, ◌*◌, ◌/◌, ◌%◌, ◌≤◌, ◌<◌}
use native.Mathlib.Nat.{suc-add}
use native.Mathlib.Omega.{arith}
use lib.ListN.{length, take, get_or, length-append}
use lib.Seq.{take_all}
use borrow.Author.Tests.{lt-leb, le-leb, ne_eqb}
use Rattle.refusal.specs.Pick.{pick}
use Rattle.kinds.specs.Kinds.{hex_of}
use Rattle.output.specs.Writing.{Added}
use Rattle.output.specs.declared.bytes.Writer.{Writer}
use Rattle.output.proofs.Writing.{added_none, added_then}
use Rattle.reviewed.specs.Escape.{shown_plain, shown, escaped}

-- ---- lists byte by byte
take_next : (s : List ℕ) (i : ℕ) → i < length s → take i s ++ (get_or s i 0 ∷ []) ≡ take (i + 1) s
take_next [] i h = absurd (omega arith)
take_next (x ∷ s) zero h = refl
take_next (x ∷ s) (suc i) h = rw (suc-add i 1) (ap (λ (l : List ℕ). x ∷ l) (take_next s i (omega arith)))

escaped-append : (s t : List ℕ) → escaped (s ++ t) ≡ escaped s ++ escaped t
unfolding escaped
escaped-append [] t = refl
escaped-append (b ∷ s) t = ap (λ (l : List ℕ). shown b ++ l) (escaped-append s t) ∙ sym (append_assoc (shown b) (escaped s) (escaped t))

escaped-one : (b : ℕ) → escaped (b ∷ []) ≡ shown b
unfolding escaped
escaped-one b = append-nil (shown b)

escaped-next : (s : List ℕ) (i : ℕ) → i < length s → escaped (take i s) ++ shown (get_or s i 0) ≡ escaped (take (i + 1) s)
escaped-next s i h =
    ap (λ (l : List ℕ). escaped (take i s) ++ l) (sym (escaped-one (get_or s i 0)))
    ∙ sym (escaped-append (take i s) (get_or s i 0 ∷ [])) ∙ ap escaped (take_next s i h)

shown-long : (b : ℕ) → length (shown b) ≤ 4
unfolding shown
shown-long b = by (shown_plain b) (hex_of (b / 16)) (hex_of (b % 16))
  where
    by : (t : Bool) (x y : ℕ) → length (pick t (b ∷ []) (92 ∷ 120 ∷ x ∷ y ∷ [])) ≤ 4
    by true x y = omega arith
    by false x y = omega arith

pub escaped-long : (s : List ℕ) → length (escaped s) ≤ 4 * length s
unfolding escaped
escaped-long [] = omega arith
escaped-long (b ∷ s) = omega (arith, length-append (shown b) (escaped s), shown-long b, escaped-long s)

-- ---- bytes that are put one after another
pub name-none : (a : Writer) (s : List ℕ) → Added a (escaped (take 0 s)) a
unfolding escaped
name-none a s = added_none a

module _ {a b : Writer} (s : List ℕ) (i : ℕ) where
  pub name-next : {c : Writer} → i < length s → Added a (escaped (take i s)) b → Added b (shown (get_or s i 0)) c
      → Added a (escaped (take (i + 1) s)) c
  name-next h f g = rw (escaped-next s i h) at (added_then f g)

  pub name-all : length s ≤ i → Added a (escaped (take i s)) b → Added a (escaped s) b
  name-all h f = rw (take_all i s h) at f

-- ---- a byte as it is shown
module _ (b : ℕ) where
  pub shown-plain : true ≡ shown_plain b → b ∷ [] ≡ shown b
  unfolding shown
  shown-plain e = rw (← e)

  pub shown-coded : {u v : ℕ} → false ≡ shown_plain b → u ≡ hex_of (b / 16) → v ≡ hex_of (b % 16) → 92 ∷ 120 ∷ u ∷ v ∷ [] ≡ shown b
  unfolding shown
  shown-coded e p q = rw (← e, p, q)

-- ---- bytes that are shown as they are
module _ (b : ℕ) where
  pub plain-low : b < 32 → false ≡ shown_plain b
  unfolding shown_plain
  plain-low h = rw (lt-leb 32 b h)

  pub plain-high : 126 < b → false ≡ shown_plain b
  unfolding shown_plain
  plain-high h = rw (le-leb 32 b (omega arith), lt-leb b 126 h)

  pub plain-marked : (b ≡ 34) ⊎ (b ≡ 92) → false ≡ shown_plain b
  unfolding shown_plain
  plain-marked (inl e) = rw e
  plain-marked (inr e) = rw e

  pub plain-mid : 32 ≤ b → b ≤ 126 → ((b ≡ 34) ⊎ (b ≡ 92) → ⊥) → true ≡ shown_plain b
  unfolding shown_plain
  plain-mid h i n = rw (le-leb 32 b h, le-leb b 126 i, ne_eqb b 34 (λ e. n (inl e)), ne_eqb b 92 (λ e. n (inr e)))
