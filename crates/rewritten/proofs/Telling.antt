-- What is printed, by what the writer said. Assumes nothing.
use Rattle.std.specs.Prelude.{Result, Ok, Err}
use mathlib.Core.Path.{◌≡◌, refl, sym, ap, ◌∙◌}
use mathlib.Core.List.{List}
use Prim.Native.Nat.{ℕ, ◌≤◌}
use native.Mathlib.Omega.{arith}
use lib.ListN.{length}
use Rattle.refusal.specs.Said.{Said, accepted, refused, refused_by, said_by, number_of, place_of, where_of, number_at, follow}
use Rattle.refusal.specs.declared.Refusal.{Refusal}
use Rattle.refusal.proofs.Following.{never}
use Rattle.table.specs.Table.{range_of}
use Rattle.output.specs.Bytes.{most, WriterTells, written_count, left}
use Rattle.report.specs.declared.line.Line.{Line}
use Rattle.report.specs.Line.{line_of}
use Rattle.report.specs.Prints.{Prints, whole_in}
use Rattle.report.specs.Texts.{refused_text}
use Rattle.report.proofs.Short.{refused-short}
use Rattle.report.proofs.Telling.{line-text}
use Rattle.rewritten.specs.Printed.{told_in}

-- ---- the line of a refusal, which is short
module _ (why : Refusal) {n p : ℕ} (number : n ≡ number_of why) (place : p ≡ place_of why) (few : n ≤ most) (small : p ≤ most) where
  pub line-short : length (refused_text (number_of why) (place_of why)) ≤ 53
  line-short = rw (sym number, sym place) (refused-short n p few small)

  pub line-is : {t : List ℕ} {l : Line} → t ≡ range_of l.bytes 0 l.len → l ≡ line_of (refused_text n p)
      → t ≡ refused_text (number_of why) (place_of why)
  line-is e f =
      let short = refused-short n p few small in
      rw (sym number, sym place) (e ∙ line-text (refused_text n p) (omega (arith, short)) f)

-- ---- what the writer said
module _ {o : Said (List ℕ)} {d : List ℕ} {a : Result ℕ Refusal} {y : List ℕ} where
  pub line-told : {why : Refusal} {r : ℕ} {x : List ℕ} → WriterTells o d a y → a ≡ Err why
      → Prints (whole_in (length y) (refused_text (number_of why) (place_of why))) y r x → Prints (told_in (length d) o) d r x
  line-told {why} {r} {x} t e p = by o (sym (ap said_by e) ∙ t.answer) t.output
    where
      by : (q : Said (List ℕ)) → refused_by why ≡ written_count q → y ≡ left d q → Prints (told_in (length d) q) d r x
      by (accepted w) f z = absurd (never f)
      by (refused n k) f z =
          let i : number_of why ≡ n = cc in
          let h : where_of why ≡ k = cc in
          let j : place_of why ≡ number_at k = ap number_at h in
          rw (z, i, j) at p

  pub bytes-told : {n : ℕ} → WriterTells o d a y → a ≡ Ok n → Prints (told_in (length d) o) d n y
  bytes-told {n} t e = by o (sym (ap said_by e) ∙ t.answer) t.output
    where
      by : (q : Said (List ℕ)) → accepted n ≡ written_count q → y ≡ left d q → Prints (told_in (length d) q) d n y
      by (accepted w) f z = let i : n ≡ length w = cc in record { count-is = i; output-is = z }
      by (refused m k) f z = absurd (never (sym f))

-- ---- a writer of what is read
module _ {A : Type 0} {x : Said A} (f : A → Said (List ℕ)) {d : List ℕ} where
  pub tells-stop : {why : Refusal} → x ≡ refused_by why → WriterTells (follow x f) d (Err why) d
  unfolding follow
  tells-stop e = rw e (record { answer = refl; output = refl })

  pub tells-go : {v : A} {r : Result ℕ Refusal} {y : List ℕ} → x ≡ accepted v → WriterTells (f v) d r y → WriterTells (follow x f) d r y
  unfolding follow
  tells-go e t = rw e t
