-- One call after another: what was refused is handed on, and what was accepted is gone on with. Assumes nothing.
use Rattle.std.specs.Prelude.{Result, Ok, Err}
use mathlib.Core.Path.{◌≡◌, sym, ◌∙◌, ap, subst}
use mathlib.Core.List.{List, map}
use Prim.Native.Nat.{ℕ, ◌*◌, ◌≤◌, ◌<◌}
use lib.ListN.{length, take}
use borrow.Author.Tests.{lt-ltb, le-ltb}
use native.Mathlib.Omega.{arith}
use Rattle.refusal.specs.Said.{Said, accepted, refused, refused_by, follow, said_by, spot, Place}
use Rattle.refusal.specs.declared.Refusal.{Refusal}
use Rattle.refusal.specs.contracts.Refusal.{the_row, the_type as refusals}
use Rattle.std.specs.contracts.result.Result.{the_type as results}
use denote.Enum.Declared.{tag_of}
use Rattle.refusal.proofs.Known.{full-tagged}
use Rattle.refusal.proofs.Following.{never, one_value, first-refused, followed, follow-stops, follow-goes}
use Rattle.policy.specs.declared.Policy.{Policy}
use Rattle.text.specs.Whole.{whole_text}
use Rattle.verdicts.specs.Evaluate.{Outcome, evaluated, said_evaluation}
use Rattle.verdicts.specs.declared.Evaluation.{Evaluation}
use Rattle.verdicts.specs.contracts.Evaluation.{the_row as evaluation}
use Rattle.refusal.specs.Sizes.{file_limit}
use Rattle.table.specs.Table.{laid, cells}
use Rattle.table.specs.Shape.{width, limit}
use Rattle.table.specs.Listing.{rows_in}
use Rattle.table.proofs.Larger.{Sure, same, spare, sure-same, sure-follow}
use Rattle.table.proofs.Larger as larger
use Rattle.wasm.specs.declared.Module.{Module}
use Rattle.wasm.specs.Rows.{import_cells}
use Rattle.wasm.specs.Module.{Sizes, module_at, said_module, Lent, ModuleIs}
use Rattle.conform.specs.Sound.{few, limits}
use Rattle.conform.proofs.Found.{module-refused, module-found, imports-taken, many-imports}
use Rattle.conform.proofs.Larger.{larger-sure, limits-largest}
use Rattle.requirements.specs.Requirements.{room_of, row_domain, module_rows, Requires}
use Rattle.checking.specs.Checking.{weighed, held_to, read_then, checked_of}

-- ---- what is tested first
module _ (file text : List ℕ) where
  pub too_long : file_limit < length file → refused 14 (spot 0) ≡ checked_of file text
  unfolding checked_of
  too_long h = rw (lt-ltb file_limit (length file) h)

  pub text-bad : {n : ℕ} {p : Place} → length file ≤ file_limit → refused n p ≡ whole_text text → refused n p ≡ checked_of file text
  unfolding checked_of follow
  text-bad h e = rw (le-ltb file_limit (length file) h, ← e)

  pub text-good : length file ≤ file_limit → accepted tt ≡ whole_text text → {x : Said Outcome} → x ≡ read_then limits file text
      → x ≡ checked_of file text
  unfolding checked_of follow
  text-good h e q = rw (le-ltb file_limit (length file) h, ← e) q

-- ---- a policy that was read
pub policy-refused : {d : Said Policy} {r : Result Policy Refusal} {why : Refusal} → said_by r ≡ d → r ≡ Err why → d ≡ refused_by why
policy-refused h e = sym h ∙ ap said_by e

pub policy-accepted : {d : Said Policy} {r : Result Policy Refusal} {p : Policy} → said_by r ≡ d → r ≡ Ok p → d ≡ accepted p
policy-accepted h e = sym h ∙ ap said_by e

-- ---- requirements that were listed, in two columns of 1,024 cells
module _ (file imports : List ℕ) (n : ℕ) (p : Policy) {domains domains1 rows rows1 : List ℕ} (r : Result ℕ Refusal)
    (long : length domains ≡ limit 7) (wide : length rows ≡ limit 7)
    (h : Requires (row_domain file imports) (module_rows file imports n (room_of (length domains) (length rows)))
    domains domains1 rows rows1 (said_by r)) where
  room : room_of (length domains) (length rows) ≡ limit 7
  room = rw (long, wide)

  answer : said_by r ≡ follow (module_rows file imports n (limit 7)) (λ l. accepted (length l))
  answer = subst (λ (m : ℕ). said_by r ≡ follow (module_rows file imports n m) (λ l. accepted (length l))) room h.answer-is

  column : domains1 ≡ laid (limit 7) (map (row_domain file imports) (rows_in (module_rows file imports n (limit 7))))
  column =
      h.domains-are
      ∙ ap
      (λ (m : ℕ). laid m (map (row_domain file imports)
      (rows_in (module_rows file imports n (room_of (length domains) (length rows)))))) long
      ∙ ap (λ (m : ℕ). laid (limit 7) (map (row_domain file imports) (rows_in (module_rows file imports n m)))) room

  pub weigh-stops : {why : Refusal} → r ≡ Err why → refused_by why ≡ weighed file imports n p
  unfolding weighed
  weigh-stops {why} e = follow-stops _ (first-refused (module_rows file imports n (limit 7)) length (sym answer ∙ ap said_by e))

  pub weigh-goes : {k : ℕ} {x : Said Outcome} → r ≡ Ok k → x ≡ evaluated domains1 k p → x ≡ weighed file imports n p
  unfolding weighed
  weigh-goes {k} q y =
      let f = followed (module_rows file imports n (limit 7)) (λ l. accepted (length l)) (sym answer ∙ ap said_by q) in
      let many : k ≡ length f.what = sym (one_value f.then) in
      let held : domains1 ≡ laid (limit 7) (map (row_domain file imports) f.what) =
      column ∙ ap (λ (x : Said (List ℕ)). laid (limit 7) (map (row_domain file imports) (rows_in x))) f.first in
      follow-goes _ f.first
      (y ∙ ap (λ (ds : List ℕ). evaluated ds k p) held
      ∙ ap (λ (m : ℕ). evaluated (laid (limit 7) (map (row_domain file imports) f.what)) m p) many)

-- ---- a module that was read, with tables of any sizes
module _ (file text : List ℕ) (z : Sizes) {l : Lent} {r : Result Module Refusal}
    (h : ModuleIs (length file) z (module_at file z) l (said_module r)) where
  pub read-stops : {why : Refusal} → r ≡ Err why → refused_by why ≡ read_then z file text
  unfolding read_then
  read-stops e = follow-stops _ (module-refused file z h e)

  pub read_goes : {m : Module} {x : Said Outcome} → r ≡ Ok m → x ≡ held_to file (take (m.imports * width 2) l.imports) m.imports text
      → x ≡ read_then z file text
  unfolding read_then
  read_goes {m} e y =
      let q = module-found file z h e in
      follow-goes _ q.first
      (y ∙ ap (λ (t : List ℕ). held_to file t m.imports text) (imports-taken q)
      ∙ ap (λ (k : ℕ). held_to file (cells import_cells q.what.tables.imports) k text) (many-imports q))

-- ---- tables for few rows: what is not refused for want of room is the answer
module _ (file text : List ℕ) where
  few-sure : Sure larger.Full (read_then few file text) (read_then limits file text)
  unfolding read_then
  few-sure = sure-follow _ _ _ _ (larger-sure file few limits (limits-largest few)) (λ m. sure-same _)

  settled : {x : Said Outcome} → x ≡ read_then few file text → ((p : Place) → x ≡ refused 13 p → ⊥) → x ≡ read_then limits file text
  settled {x} h other = by few-sure
    where
      by : Sure larger.Full (read_then few file text) (read_then limits file text) → x ≡ read_then limits file text
      by (same e) = h ∙ e
      by (spare n p full e) = absurd (other p (h ∙ e ∙ ap (λ (k : ℕ). refused k p) full))

  -- a refusal that is not Full is no 13
  pub settled-refused : (w : Refusal) → refused_by w ≡ read_then few file text → (tag_of refusals w ≡ 11 → ⊥)
      → refused_by w ≡ read_then limits file text
  settled-refused w h other = settled h (λ p z. other (full-tagged w (number-of z)))
    where
      number-of : {n m : ℕ} {p o : Place} → ◌≡◌ {A = Said Outcome} (refused n p) (refused m o) → n ≡ m
      number-of z = cc

  -- and what is accepted is none
  pub settled-accepted : (r : Result Evaluation Refusal) → said_evaluation r ≡ read_then few file text
      → tag_of (results evaluation the_row) r ≡ 0 → said_evaluation r ≡ read_then limits file text
  settled-accepted (Ok e) h k = settled h (λ p z. never (sym z))
  settled-accepted (Err w) h k = absurd (omega (arith, k))
