-- A refusal is known by its number and place, so `refused_by` loses nothing. Assumes nothing.
use Prim.Native.Nat.{ℕ}
use native.Mathlib.Omega.{arith}
use mathlib.Core.Path.{◌≡◌, refl, sym, ◌∙◌, ap}
use lib.Dec.{eqb}
use denote.Enum.Declared.{tag_of}
use Rattle.std.specs.Prelude.{Result, Ok, Err}
use Rattle.refusal.specs.Pick.{pick}
use Rattle.refusal.specs.Said.{Said, accepted, refused, Place, number_at, beside_at, number_of, where_of, moved_by, moved_on}
use Rattle.refusal.specs.Said.{refused_by, relocated, said_by}
use Rattle.refusal.specs.contracts.Refusal.{the_type as refusals}
use Rattle.refusal.specs.declared.Refusal.{Refusal}
use Rattle.refusal.specs.declared.Refusal.TheVariants.{UnexpectedEof, BadMagic, BadUtf8, MalformedSection, Directive}
use Rattle.refusal.specs.declared.Refusal.TheVariants.{BadDefault, BadDomain, PackageInWorld, NoName, Unmatched, Outside}
use Rattle.refusal.specs.declared.Refusal.TheVariants.{Full, TooLong, BadTable, NoRoom, TooManyBytes, TenthByte, AboveU32}
use Rattle.refusal.specs.declared.Refusal.TheVariants.{NotStrict}

-- the refusal that has a number and a place
abbrev pub refusal_by : ℕ → ℕ → ℕ → Refusal
refusal_by n p o =
    pick (eqb n 1) (UnexpectedEof p)
    (pick (eqb n 2) (BadMagic p)
    (pick (eqb n 4) (BadUtf8 p)
    (pick (eqb n 5) (MalformedSection p o)
    (pick (eqb n 6) (Directive p)
    (pick (eqb n 7) (BadDefault p)
    (pick (eqb n 8) (BadDomain p)
    (pick (eqb n 9) (PackageInWorld p)
    (pick (eqb n 10) (NoName p)
    (pick (eqb n 11) (Unmatched p)
    (pick (eqb n 12) (Outside p)
    (pick (eqb n 13) (Full p)
    (pick (eqb n 14) TooLong
    (pick (eqb n 15) (BadTable p)
    (pick (eqb n 16) (NoRoom p)
    (pick (eqb n 17) (TooManyBytes p)
    (pick (eqb n 18) (TenthByte p)
    (pick (eqb n 19) (AboveU32 p)
    (NotStrict p))))))))))))))))))

abbrev pub refusal_of : ℕ → Place → Refusal
refusal_of n p = refusal_by n (number_at p) (beside_at p)

pub known : (w : Refusal) → refusal_of (number_of w) (where_of w) ≡ w
known (UnexpectedEof p) = refl
known (BadMagic p) = refl
known (BadUtf8 p) = refl
known (MalformedSection p o) = refl
known (Directive p) = refl
known (BadDefault p) = refl
known (BadDomain p) = refl
known (PackageInWorld p) = refl
known (NoName p) = refl
known (Unmatched p) = refl
known (Outside p) = refl
known (Full p) = refl
known TooLong = refl
known (BadTable p) = refl
known (NoRoom p) = refl
known (TooManyBytes p) = refl
known (TenthByte p) = refl
known (AboveU32 p) = refl
known (NotStrict p) = refl

pub same-refusal : (v w : Refusal) → number_of v ≡ number_of w → where_of v ≡ where_of w → v ≡ w
same-refusal v w n p = sym (known v) ∙ ap (λ (k : ℕ). refusal_of k (where_of v)) n ∙ ap (refusal_of (number_of w)) p ∙ known w

-- 3 is no refusal's number
pub never-three : (w : Refusal) → number_of w ≡ 3 → ⊥
never-three w e =
    let last : 20 ≡ number_of w = ap number_of (ap (λ (n : ℕ). refusal_of n (where_of w)) (sym e) ∙ known w) in
    omega (arith, last, e)

-- 13 is what `Full` says
pub full-tagged : (w : Refusal) → number_of w ≡ 13 → tag_of refusals w ≡ 11
full-tagged w e = ap (tag_of refusals) (sym (known w) ∙ ap (λ (n : ℕ). refusal_of n (where_of w)) e)

-- what can be taken back is known, so `said` loses nothing
pub taken_back : {A O : Type 0} {said : A → O} (back : O → A) → ((a : A) → back (said a) ≡ a) → (a b : A) → said a ≡ said b → a ≡ b
taken_back back is a b e = sym (is a) ∙ ap back e ∙ is b

pub result-known : {X : Type 0} (a b : Result X Refusal) → said_by a ≡ said_by b → a ≡ b
result-known {X = X} = taken_back back is where
  back : Said X → Result X Refusal
  back (accepted v) = Ok v
  back (refused n p) = Err (refusal_of n p)

  is : (a : Result X Refusal) → back (said_by a) ≡ a
  is (Ok v) = refl
  is (Err w) = ap Err (known w)

-- a refusal that is moved has its number, and its place is moved
pub moves : (by : ℕ) (w : Refusal) → (number_of (moved_on by w) ≡ number_of w) × (where_of (moved_on by w) ≡ moved_by by (where_of w))
moves by (UnexpectedEof p) = (refl, refl)
moves by (BadMagic p) = (refl, refl)
moves by (BadUtf8 p) = (refl, refl)
moves by (MalformedSection p o) = (refl, refl)
moves by (Directive p) = (refl, refl)
moves by (BadDefault p) = (refl, refl)
moves by (BadDomain p) = (refl, refl)
moves by (PackageInWorld p) = (refl, refl)
moves by (NoName p) = (refl, refl)
moves by (Unmatched p) = (refl, refl)
moves by (Outside p) = (refl, refl)
moves by (Full p) = (refl, refl)
moves by TooLong = (refl, refl)
moves by (BadTable p) = (refl, refl)
moves by (NoRoom p) = (refl, refl)
moves by (TooManyBytes p) = (refl, refl)
moves by (TenthByte p) = (refl, refl)
moves by (AboveU32 p) = (refl, refl)
moves by (NotStrict p) = (refl, refl)

-- so a refusal that the code moves is what was read, moved
pub moved-said : {X : Type 0} (by : ℕ) (w : Refusal) → ◌≡◌ {A = Said X} (refused_by (moved_on by w)) (relocated by (refused_by w))
unfolding relocated
moved-said by w = let m = moves by w in rw (m.0, m.1)
