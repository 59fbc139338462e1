-- 98,340 bytes hold all that `rewrite` prints; and the other claims. Assumes nothing.
use mathlib.Core.Path.{◌≡◌, refl, sym, ap, ◌∙◌, subst}
use mathlib.Core.Bool.{Bool, true, false}
use mathlib.Core.List.{List, [], ◌∷◌}
use Prim.Native.Nat.{ℕ, zero, suc, ◌+◌, ◌≤◌, ◌<◌}
use native.Mathlib.Omega.{arith}
use lib.Dec.{ltb}
use lib.ListN.{length}
use borrow.Author.Tests.{lt-ltb, le-ltb, ltb-true, ltb-false}
use Rattle.refusal.specs.Pick.{pick}
use Rattle.refusal.specs.Sizes.{text_limit}
use Rattle.refusal.specs.Said.{Said, accepted, refused, follow, offset, spot, Place, number_at, beside_at}
use Rattle.refusal.proofs.Following.{never}
use Rattle.text.specs.Find.{begins}
use Rattle.text.specs.Utf8.{up_to}
use Rattle.text.specs.Piece.{Piece}
use Rattle.text.specs.Whole.{whole_text}
use Rattle.policy.specs.Piece.{lines_from, lines_of}
use Rattle.policy.specs.Directive.{policy_w, policy_directive, fault}
use Rattle.policy.specs.Reader.{run, read_with, read_policy, obey, zero_policy}
use Rattle.policy.specs.View.{says}
use Rattle.policy.specs.declared.Policy.{Policy}
use Rattle.output.specs.Bytes.{room_for}
use Rattle.report.specs.Decimal.{decimal_of, digits}
use Rattle.report.specs.Words.{refused_w}
use Rattle.report.specs.Texts.{refused_text}
use Rattle.report.specs.Prints.{Prints, whole_in}
use Rattle.report.proofs.Short.{refused-short}
use Rattle.report.proofs.Printing.{within}
use Rattle.policy_text.specs.Writer.{form, form_lines, unlines, name_line, written}
use Rattle.policy_text.proofs.Rewrite.{written_read}
use Rattle.rewritten.specs.Printed.{told, told_in, printed_of, printed_in, enough}
use Rattle.rewritten.specs.Claims.{Printing}
use Rattle.rewritten.proofs.Long.{fault-small, all_lines, whole-short, longer-by-half, rewritten-most}

-- ---- where a text is refused: a number of the table, and a line or a byte of a text
pub record Placed (n : ℕ) (p : Place) : Type 0 where
  pub number : n ≤ 14
  pub place : number_at p ≤ 65537
  pub beside : beside_at p ≡ 0

run-placed : (n : ℕ) (v : Policy) (ps : List Piece) {k : ℕ} {q : Place} → n + length ps ≤ 65538 → run obey n v ps ≡ refused k q → Placed k q
unfolding run
run-placed n v [] h e = absurd (never (sym e))
run-placed n v (p ∷ ps) {k} {q} h e = by (fault (policy_directive p)) refl (run-placed (n + 1) (obey (policy_directive p) v) ps (omega arith))
  where
    by : (f : ℕ) → fault (policy_directive p) ≡ f → (run obey (n + 1) (obey (policy_directive p) v) ps ≡ refused k q → Placed k q)
        → Placed k q
    by zero z ih = ih (rw (z, run) at e)
    by (suc m) z ih =
        let b : refused (suc m) (spot n) ≡ refused k q = rw (z, run) at e in
        let i : suc m ≡ k = cc in
        let j : spot n ≡ q = cc in
        record { number = omega (arith, fault-small p, z, i); place = omega (arith, ap number_at j); beside = sym (ap beside_at j) }

whole-placed : (s : List ℕ) {n : ℕ} {p : Place} → whole_text s ≡ refused n p → Placed n p
unfolding whole_text
whole-placed s {n} {p} e = by (ltb text_limit (length s)) refl (ltb (up_to s) (length s)) refl e
  where
    by : (t : Bool) → ltb text_limit (length s) ≡ t → (u : Bool) → ltb (up_to s) (length s) ≡ u
        → ◌≡◌ {A = Said (Unit {0})} (pick t (refused 14 (spot 0)) (pick u (refused 4 (offset (up_to s))) (accepted tt))) (refused n p)
        → Placed n p
    by true q u r e =
        let i : 14 ≡ n = cc in
        let j : spot 0 ≡ p = cc in
        record { number = omega (arith, i); place = omega (arith, ap number_at j); beside = sym (ap beside_at j) }
    by false q true r e =
        let i : 4 ≡ n = cc in
        let j : offset (up_to s) ≡ p = cc in
        record {
          number = omega (arith, i);
          place = omega (arith, ap number_at j, ltb-false text_limit (length s) q, ltb-true (up_to s) (length s) r);
          beside = sym (ap beside_at j);
        }
    by false q false r e = absurd (never (sym e))

unit-free : {m n : ℕ} {k p : Place} → ◌≡◌ {A = Said Policy} (refused m k) (refused n p)
    → ◌≡◌ {A = Said (Unit {0})} (refused m k) (refused n p)
unit-free {m} {n} {k} {p} e = let i : m ≡ n = cc in let j : k ≡ p = cc in rw (i, j)

pub read-placed : (s : List ℕ) {n : ℕ} {p : Place} → read_policy s ≡ refused n p → Placed n p
unfolding read_policy read_with follow lines_of
read-placed s {n} {p} e = by (whole_text s) refl e
  where
    by : (x : Said (Unit {0})) → whole_text s ≡ x → follow x (λ ok. run obey 1 zero_policy (lines_of s)) ≡ refused n p → Placed n p
    by (accepted ok) q e =
        run-placed 1 zero_policy (lines_from 0 0 s) (omega (arith, whole-short s q, (all_lines (length s) 0 s (omega arith)).1)) e
    by (refused m k) q e = whole-placed s (q ∙ unit-free e)

refused-most : (s : List ℕ) {n : ℕ} {p : Place} → read_policy s ≡ refused n p → length (refused_text n (number_at p)) ≤ 53
refused-most s {n} {p} e =
    let q = read-placed s e in
    refused-short n (number_at p) (omega (arith, q.number)) (omega (arith, q.place))

-- ---- into a buffer that is long enough, what is printed is a function of the input alone
pub enough-room : (s : List ℕ) → length (printed_of s) ≤ enough
unfolding printed_of follow
enough-room s = by (read_policy s) refl
  where
    by : (o : Said Policy) → read_policy s ≡ o → length (told (follow o (λ p. accepted (form (says s p))))) ≤ enough
    by (accepted p) e = rewritten-most s p e
    by (refused n p) e = omega (arith, refused-most s e)

pub same-in-room : (s : List ℕ) (room : ℕ) → enough ≤ room → printed_in room s ≡ printed_of s
unfolding printed_in printed_of follow room_for whole_in
same-in-room s room h = by (read_policy s) refl
  where
    by : (o : Said Policy) → read_policy s ≡ o
        → told_in room (follow o (λ p. written s p room)) ≡ told (follow o (λ p. accepted (form (says s p))))
    by (accepted p) e =
        let l = rewritten-most s p e in
        rw (written_read s p e room, le-ltb room (length (form (says s p))) (omega arith))
    by (refused n p) e = rw (le-ltb room (length (refused_text n (number_at p))) (omega (arith, refused-most s e)))

-- the three promises of `rewrite_text`, from the first
pub promised : (s d : List ℕ) {r : ℕ} {x : List ℕ} → Prints (printed_in (length d) s) d r x
    → Prints (printed_in (length d) s) d r x × ((enough ≤ length d → Prints (printed_of s) d r x) × (r ≤ length x))
promised s d {r} {x} p =
    (p, ((λ h. subst (λ (w : List ℕ). Prints w d r x) (same-in-room s (length d) h) p), within (printed_in (length d) s) d p))

-- ---- the claims
too_long : (s : List ℕ) → text_limit < length s
    → printed_of s ≡ 114 ∷ 101 ∷ 102 ∷ 117 ∷ 115 ∷ 101 ∷ 100 ∷ 32 ∷ 49 ∷ 52 ∷ 32 ∷ 97 ∷ 116 ∷ 32 ∷ 48 ∷ 10 ∷ []
unfolding printed_of read_policy read_with whole_text follow refused_text decimal_of digits
too_long s h = rw (lt-ltb text_limit (length s) h)

policy-begins : (s : List ℕ) (p : Policy) → read_policy s ≡ accepted p → begins policy_w (printed_of s) ≡ true
unfolding printed_of follow form form_lines unlines name_line begins
policy-begins s p e = rw e

refusal-begins : (s : List ℕ) (n : ℕ) (p : Place) → read_policy s ≡ refused n p → begins refused_w (printed_of s) ≡ true
unfolding printed_of follow refused_text begins
refusal-begins s n p e = rw e

pub printing : Printing
printing =
    record {
      longer-by-half = longer-by-half;
      enough-room = enough-room;
      same-in-room = same-in-room;
      policy-begins = policy-begins;
      refusal-begins = refusal-begins;
      too_long = too_long;
    }
