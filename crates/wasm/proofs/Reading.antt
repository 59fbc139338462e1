-- How a read's answer is heard at a `?`, and what a chain of reads then comes to. Assumes nothing.
use Prim.Native.Nat.{ℕ, ◌+◌, ◌-◌, ◌≤◌, ◌<◌}
use native.Mathlib.Omega.{arith}
use mathlib.Core.List.{List}
use lib.ListN.{length}
use mathlib.Core.Path.{◌≡◌, sym, ◌∙◌, ap}
use Rattle.std.specs.Prelude.{Result, Ok, Err, IsErr, IsErrAnd}
use Rattle.refusal.specs.Said.{Said, accepted, refused_by, said_by, Got, got, onward}
use Rattle.refusal.specs.declared.Refusal.{Refusal}
use Rattle.refusal.specs.declared.Part.{Part}
use Rattle.leb.specs.Answers.{read, refused_with, answer_from, finding_of}
use Rattle.leb.specs.declared.Cursor.{Cursor}
use Rattle.leb.specs.declared.Unread.{Unread}
use Rattle.leb.specs.Reads.{name_at, counted_at, taken_at}
use Rattle.leb.proofs.Answering.{heard-from}
use Rattle.leb.proofs.Bounds.{name_in, counted-in, take_in}
use Rattle.wasm.specs.Answers.{said_got}

-- what a read found
pub heard : {X : Type 0} (at : ℕ) (x : Said (Got X)) {v : X} {d : ℕ} → read v d ≡ answer_from at x → x ≡ accepted (got v d)
heard at x e = sym (heard-from at x) ∙ ap finding_of (sym e)

pub unheard : {X : Type 0} (at : ℕ) (x : Said (Got X)) (u : Unread) → refused_with u ≡ answer_from at x → x ≡ refused_by u.why
unheard at x u e = sym (heard-from at x) ∙ ap finding_of (sym e)

-- what `?` gives back
pub given_back : {X : Type 0} (r : Result (X × Cursor) Refusal) (w : Refusal) → IsErr r × IsErrAnd r (λ why. why ≡ w)
    → said_got r ≡ refused_by w
given_back (Ok v) w (e, i) = absurd i
given_back (Err why) w (e, i) = ap refused_by i

pub answered : {X : Type 0} (r : Result X Refusal) (w : Refusal) → IsErr r × IsErrAnd r (λ why. why ≡ w) → said_by r ≡ refused_by w
answered (Ok v) w (e, i) = absurd i
answered (Err why) w (e, i) = ap refused_by i

-- a chain of reads
module _ {X Y : Type 0} where
  pub on_read : (at : ℕ) (x : Said (Got X)) (f : X → ℕ → Said Y) (v : X) (d : ℕ) → read v d ≡ answer_from at x → onward x f ≡ f v d
  unfolding onward
  on_read at x f v d e = rw (heard at x e)

  pub on_unread : (at : ℕ) (x : Said (Got X)) (f : X → ℕ → Said Y) (u : Unread) → refused_with u ≡ answer_from at x
      → onward x f ≡ refused_by u.why
  unfolding onward
  on_unread at x f u e = rw (unheard at x u e)

  pub on_got : (x : Said (Got X)) (f : X → ℕ → Said Y) (v : X) (d : ℕ) → accepted (got v d) ≡ x → onward x f ≡ f v d
  unfolding onward
  on_got x f v d e = rw (sym e)

  pub on_refused : (x : Said (Got X)) (f : X → ℕ → Said Y) (w : Refusal) → refused_by w ≡ x → onward x f ≡ refused_by w
  unfolding onward
  on_refused x f w e = rw (sym e)

pub ruleset reads = (given_back, on_read, on_unread, on_got, on_refused)

-- a name that was read lies in the bytes
pub name_inside : (s : List ℕ) (at : ℕ) (p : Part) (d : ℕ) → read p d ≡ answer_from at (name_at s at) → p.from + p.len ≤ length s
name_inside s at p d e =
    let w = name_in s at p d (heard at (name_at s at) e) in
    omega (arith, w.end, w.in-s)

pub counted_inside : (s : List ℕ) (at : ℕ) (p : Part) (d : ℕ) → read p d ≡ answer_from at (counted_at s at)
    → p.from + p.len ≤ length s
counted_inside s at p d e =
    let w = counted-in s at p d (heard at (counted_at s at) e) in
    omega (arith, w.end, w.in-s)

pub taken_inside : (s : List ℕ) (at n : ℕ) (p : Part) (d : ℕ) → read p d ≡ answer_from at (taken_at s at n)
    → p.from + p.len ≤ length s
taken_inside s at n p d e =
    let w = take_in s at n p d (heard at (taken_at s at n) e) in
    omega (arith, w.start, w.size, w.in-s)

-- how many entries are left of n after i
pub left_all : (n : ℕ) → n - 0 ≡ n
left_all n = omega arith

pub left_before : {n i : ℕ} → i < n → 0 < n - i
left_before h = omega arith

pub left_after : (n i : ℕ) → n - (i + 1) ≡ n - i - 1
left_after n i = omega arith

pub left_none : {n i : ℕ} → n ≤ i → n - i ≤ 0
left_none h = omega arith
