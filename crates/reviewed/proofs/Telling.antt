-- Lines put into the buffer, by what they tell of. Assumes nothing.
use mathlib.Core.Path.{◌≡◌, refl}
use mathlib.Core.Bool.{Bool, true, false}
use mathlib.Core.List.{List, [], ◌++◌}
use Prim.Native.Nat.{ℕ, ◌<◌}
use native.Mathlib.Omega.{arith}
use borrow.Author.Tests.{lt-ltb, le-ltb, le-leb, eq-eqb, ne_eqb}
use lib.ListN.{length}
use Rattle.refusal.specs.Said.{accepted, number_of, beside_of}
use Rattle.refusal.specs.declared.Refusal.{Refusal}
use Rattle.refusal.specs.declared.Refusal.TheVariants.{UnexpectedEof, BadMagic, BadUtf8, MalformedSection, Directive, BadDefault}
use Rattle.refusal.specs.declared.Refusal.TheVariants.{BadDomain, PackageInWorld, NoName, Unmatched}
use Rattle.refusal.specs.declared.Refusal.TheVariants.{Outside, Full, TooLong, BadTable, NoRoom, TooManyBytes, TenthByte, AboveU32}
use Rattle.refusal.specs.declared.Refusal.TheVariants.{NotStrict}
use Rattle.table.specs.Table.{range_of}
use Rattle.table.specs.Shape.{width, cell_in}
use Rattle.sorting.specs.Keys.{row_name}
use Rattle.import_rows.specs.Queries.{kind_is}
use Rattle.policy.specs.Reader.{read_policy}
use Rattle.policy.specs.View.{no_name, says}
use Rattle.policy.specs.declared.Policy.{Policy}
use Rattle.policy.proofs.EightLaws.{tested}
use Rattle.policy.proofs.Fitting.{read-tested}
use Rattle.verdicts.specs.Evaluate.{violates}
use Rattle.verdicts.specs.declared.Verdict.{Verdict}
use Rattle.requirements.specs.Requirements.{row_domain}
use Rattle.differences.specs.View.{export_key_at}
use Rattle.differences.specs.Differences.{kind_slug}
use Rattle.output.specs.Writing.{Added}
use Rattle.output.specs.declared.bytes.Writer.{Writer}
use Rattle.report.specs.Decimal.{decimal_of}
use Rattle.reviewed.specs.Texts.{nth, beside_text, violation_text, kind_text, removed_text, added_text}
use Rattle.reviewed.specs.Words.{offset_w}
use Rattle.reviewed.specs.Review.{violation_row, removed_row, added_row, shown_name}

-- ---- the same bytes
pub added-same : {a b : Writer} {w v : List ℕ} → w ≡ v → Added a w b → Added a v b
added-same e p = rw e at p

-- ---- what stands beside a refusal's place
pub beside-some : {why : Refusal} {kind offset : ℕ} → why ≡ MalformedSection kind offset
    → offset_w ++ decimal_of offset ≡ beside_text (number_of why) (beside_of why)
unfolding beside_text
beside-some e = rw e

pub beside-none : (why : Refusal) → ((kind offset : ℕ) → why ≡ MalformedSection kind offset → ⊥)
    → [] ≡ beside_text (number_of why) (beside_of why)
unfolding beside_text
beside-none (UnexpectedEof at) h = refl
beside-none (BadMagic at) h = refl
beside-none (BadUtf8 at) h = refl
beside-none (MalformedSection kind offset) h = absurd (h kind offset refl)
beside-none (Directive at) h = refl
beside-none (BadDefault at) h = refl
beside-none (BadDomain at) h = refl
beside-none (PackageInWorld at) h = refl
beside-none (NoName at) h = refl
beside-none (Unmatched at) h = refl
beside-none (Outside at) h = refl
beside-none (Full at) h = refl
beside-none TooLong h = refl
beside-none (BadTable at) h = refl
beside-none (NoRoom at) h = refl
beside-none (TooManyBytes at) h = refl
beside-none (TenthByte at) h = refl
beside-none (AboveU32 at) h = refl
beside-none (NotStrict at) h = refl

-- ---- a policy's name
pub named-yes : (s : List ℕ) (p : Policy) {n : List ℕ} → n ≡ range_of s p.start p.size → p.named ≡ true → n ≡ shown_name s p
unfolding shown_name
named-yes s p e t = rw t e

pub named-no : (s : List ℕ) (p : Policy) → p.named ≡ false → no_name ≡ shown_name s p
unfolding shown_name
named-no s p t = rw t

pub name-said : (s : List ℕ) (p : Policy) → read_policy s ≡ accepted p → shown_name s p ≡ (says s p).name
unfolding shown_name says range_of
name-said s p e = rw (le-leb _ (length s) (tested s p (read-tested s p e)).name)

-- ---- an import that is not allowed
module _ (file imports : List ℕ) (vs : List Verdict) (i : ℕ) where
  pub no-function : {k : ℕ} → k ≡ cell_in 2 imports i 4 → (k ≡ 0 → ⊥) → [] ≡ violation_row file imports vs i
  unfolding violation_row kind_is
  no-function {k} e h = rw (← e, ne_eqb k 0 h)

  module _ {k : ℕ} (function : k ≡ cell_in 2 imports i 4) (zero : k ≡ 0) {source field : List ℕ}
      (source_is : source ≡ row_name file imports (width 2) 0 1 i) (field_is : field ≡ row_name file imports (width 2) 2 3 i)
      {n : ℕ} (domain-is : n ≡ row_domain file imports i) {t : Bool} (test-is : t ≡ violates (nth vs n)) where
    pub no-violation : t ≡ false → [] ≡ violation_row file imports vs i
    unfolding violation_row kind_is
    no-violation e = rw (← function, eq-eqb k 0 zero, ← domain-is, ← test-is, e)

    pub a-violation : t ≡ true → violation_text n field source ≡ violation_row file imports vs i
    unfolding violation_row kind_is
    a-violation e = rw (← function, eq-eqb k 0 zero, ← domain-is, ← test-is, e, source_is, field_is)

-- ---- an export that is gone
pub kind-none : (kind : ℕ) → (kind < 256 → ⊥) → [] ≡ kind_text kind
unfolding kind_text
kind-none kind h = rw (lt-ltb 255 kind (omega (arith, h)))

pub kind-some : {byte kind : ℕ} → (kind < 256) × (byte ≡ kind) → kind_slug byte ≡ kind_text kind
unfolding kind_text
kind-some {byte} {kind} h = rw (h.1, le-ltb 255 kind (omega (arith, h.0)))

module _ (file exports xd : List ℕ) (i : ℕ) {change : ℕ} (change-is : change ≡ cell_in 8 xd i 0) where
  pub removed-some : {row : ℕ} → change ≡ 0 → row ≡ cell_in 8 xd i 1
      → removed_text (export_key_at file exports row).name (export_key_at file exports row).kind ≡ removed_row file exports xd i
  unfolding removed_row
  removed-some h r = rw (← change-is, eq-eqb change 0 h, r)

  pub removed-none : (change ≡ 0 → ⊥) → [] ≡ removed_row file exports xd i
  unfolding removed_row
  removed-none h = rw (← change-is, ne_eqb change 0 h)

-- ---- a capability that is new
module _ (file imports cd : List ℕ) (i : ℕ) {change : ℕ} (change-is : change ≡ cell_in 9 cd i 0) where
  pub no-added : change ≡ 0 → [] ≡ added_row file imports cd i
  unfolding added_row
  no-added h = rw (← change-is, eq-eqb change 0 h)

  pub added-some : {domain row : ℕ} → (change ≡ 0 → ⊥) → domain ≡ cell_in 9 cd i 1 → row ≡ cell_in 9 cd i 2
      → added_text domain (row_name file imports (width 2) 0 1 row) ≡ added_row file imports cd i
  unfolding added_row
  added-some h d r = rw (← change-is, ne_eqb change 0 h, d, r)
