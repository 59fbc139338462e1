-- A policy that was read, then its bytes, by what the calls promise. Assumes nothing.
use Prim.Native.Nat.{ℕ}
use mathlib.Core.Path.{◌≡◌, refl, ◌∙◌, ap, subst}
use mathlib.Core.List.{List}
use Rattle.std.specs.Prelude.{Result, Ok, Err}
use Rattle.refusal.specs.Said.{Said, refused_by, said_by}
use Rattle.refusal.specs.declared.Refusal.{Refusal}
use Rattle.output.specs.Bytes.{WriterTells, written_count, left}
use Rattle.told.specs.declared.policies.WrittenTold.{WrittenTold}
use Rattle.told.specs.Policies.{written_told, WriteTells}

module _ {o : Said (List ℕ)} {b : List ℕ} where
  pub write-stops : {w : Refusal} → refused_by w ≡ o → WriterTells o b (Err w) b
  write-stops {w} e = subst (λ (x : Said (List ℕ)). WriterTells x b (Err w) b) e (record { answer = refl; output = refl })

  pub write-goes : {q : Said (List ℕ)} {r : Result ℕ Refusal} {x : List ℕ} → q ≡ o → WriterTells q b r x → WriterTells o b r x
  write-goes {q} {r} {x} e w = subst (λ (y : Said (List ℕ)). WriterTells y b r x) e w

  pub write-told : {r : Result ℕ Refusal} {x : List ℕ} {t : WrittenTold} → t ≡ written_told (said_by r) → WriterTells o b r x
      → WriteTells o b t x
  write-told h w = record { answer-is = h ∙ ap written_told w.answer; output-is = w.output }
