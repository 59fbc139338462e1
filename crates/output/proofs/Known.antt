-- An answer is known by what its promise says of it, and so is the content of the buffer. Assumes nothing.
use Rattle.std.specs.Prelude.{Result, Ok}
use mathlib.Core.Path.{◌≡◌, sym, ap, ◌∙◌}
use mathlib.Core.List.{List}
use Prim.Native.Nat.{ℕ, ◌≤◌}
use native.Mathlib.Omega.{arith}
use lib.ListN.{length, drop, length-append}
use Rattle.refusal.specs.declared.Refusal.{Refusal}
use Rattle.refusal.specs.Said.{Said, accepted, refused, said_by}
use Rattle.refusal.proofs.Known.{result-known}
use Rattle.refusal.proofs.Following.{never}
use Rattle.output.specs.Bytes.{WriterTells, WriterTellsFrom}

module _ {o : Said (List ℕ)} {d : List ℕ} {a b : Result ℕ Refusal} {x y : List ℕ} (p : WriterTells o d a x) (q : WriterTells o d b y) where
  pub one_answer : a ≡ b
  one_answer = result-known a b (p.answer ∙ sym q.answer)

  pub one-output : x ≡ y
  one-output = p.output ∙ sym q.output

pub one-answer-from : {at : ℕ} {o : Said (List ℕ)} {d : List ℕ} {a b : Result ℕ Refusal} {x y : List ℕ} → WriterTellsFrom at o d a x
    → WriterTellsFrom at o d b y
    → a ≡ b
one-answer-from {a = a} {b = b} p q = result-known a b (p.answer ∙ sym q.answer)

-- ---- the bytes that are counted lie in the buffer
pub written-within : (o : Said (List ℕ)) (d : List ℕ) {a : Result ℕ Refusal} {n : ℕ} {x : List ℕ}
    → WriterTells o d a x → a ≡ Ok n → n ≤ length x
written-within (accepted w) d {a} {n} {x} t e =
    let z : accepted n ≡ accepted (length w) = sym (ap said_by e) ∙ t.answer in
    let y : n ≡ length w = cc in
    omega (arith, ap length t.output, length-append w (drop (length w) d))
written-within (refused k q) d {a} {n} t e = absurd (never (sym t.answer ∙ ap said_by e))
