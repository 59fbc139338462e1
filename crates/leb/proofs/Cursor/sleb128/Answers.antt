-- `leb::Cursor::sleb128` meets its contract: the loop's invariant is `SReading`, over the bits of the i64, and each need is a lemma of
-- `proofs/Signed.antt`. Assumes nothing.
use Prim.Native.Nat.{ℕ, ◌<◌, ◌^◌}
use native.Mathlib.Nat.{mod-lt}
use native.Mathlib.Omega.{arith}
use mathlib.Core.List.{List}
use lib.Bits.{or_lt}
use mir.Syntax.{w64}
use mir.Val.{of_z, to_z}
use Rattle.std.proofs.lemmas.Int.{of_z-to_z}
use lib.ListN.{get_or}
use Rattle.bits.proofs.Masks.{low-lt}
use Rattle.leb.proofs.Answering.{gives, refuses, unended}
use Rattle.leb.proofs.Signed.{SReading, begins, at-end, too_long, more, last-minus, last-plus, last-tenth}
use Rattle.leb.proofs.Cursor.sleb128.Goals as goal
use Rattle.leb.proofs.Cursor.sleb128.Goals.{else-shift-lt64-via-then-shift-lt64+else-b-ne0, else-shift-lt64-via-else-shift-lt64}

-- the invariant speaks of the bits of acc
of_bits : {s : List ℕ} {begin i shift : ℕ} (n : ℕ) → n < 2 ^ 64 → SReading s begin i shift (of_z w64 (to_z w64 n))
    → SReading s begin i shift n
of_bits n f r = rw (of_z-to_z w64 n f) at r

to_bits : {s : List ℕ} {begin i shift : ℕ} (n : ℕ) → n < 2 ^ 64 → SReading s begin i shift n
    → SReading s begin i shift (of_z w64 (to_z w64 n))
to_bits n f r = rw (of_z-to_z w64 n f) r

pub loop-shift-init : goal.loop-shift-init
loop-shift-init c = begins c.args.s.now c.args.self.at

pub returns-then-s-i : goal.returns-then-s-i
returns-then-s-i c =
    refuses c.unread.ensures (at-end _ _ _ _ _ (of_bits c.loop-shift.signed-bits (omega arith) c.loop-shift.invariant) c.if-s-i.true)

pub overflow_cast-signed : goal.overflow_cast-signed
overflow_cast-signed c = omega (arith, low-lt (get_or c.args.s.now c.loop-shift.i 0))

pub returns-then-b-ne0 : goal.returns-then-b-ne0
returns-then-b-ne0 c =
    let byte : get_or c.args.s.now c.loop-shift.i 0 < 256 = omega (arith, c.type_inv.s c.loop-shift.i) in
    gives _
    (last-minus _ _ _ _ _ (of_bits c.loop-shift.signed-bits (omega arith) c.loop-shift.invariant) c.loop-shift-test.true c.if-s-i.false (byte)
    c.if-b-eq0.true c.if-shift-lt64.true c.if-b-ne0.true)

pub returns-else-shift-lt64 : goal.returns-else-shift-lt64
returns-else-shift-lt64 c =
    let byte : get_or c.args.s.now c.loop-shift.i 0 < 256 = omega (arith, c.type_inv.s c.loop-shift.i) in
    let inv = of_bits c.loop-shift.signed-bits (omega arith) c.loop-shift.invariant in
    let t = c.loop-shift-test.true in
    let l = c.if-s-i.false in
    let z = c.if-b-eq0.true in
    gives _
    (elim c.else-shift-lt64.branch [
      | else-shift-lt64-via-then-shift-lt64+else-b-ne0 w ↦ last-plus _ _ _ _ _ inv t l byte z w.if-shift-lt64.true w.if-b-ne0.false
      | else-shift-lt64-via-else-shift-lt64 w ↦ last-tenth _ _ _ _ _ inv t l byte z w.if-shift-lt64.false
    ])

pub loop-shift-smaller : goal.loop-shift-smaller
loop-shift-smaller c = omega arith

pub loop-shift-preserved : goal.loop-shift-preserved
loop-shift-preserved c =
    let byte : get_or c.args.s.now c.loop-shift.i 0 < 256 = omega (arith, c.type_inv.s c.loop-shift.i) in
    to_bits _ (or_lt 64 c.loop-shift.signed-bits _ (omega arith) (mod-lt _ (omega arith)))
    (more _ _ _ _ _ (of_bits c.loop-shift.signed-bits (omega arith) c.loop-shift.invariant) c.loop-shift-test.true c.if-s-i.false byte
    c.if-b-eq0.false)

pub returns : goal.returns
returns c =
    let inv = of_bits c.loop-shift.signed-bits (omega arith) c.loop-shift.invariant in
    let t = c.loop-shift-test.false in
    unended _ _ _ c.unended.ensures (too_long _ _ _ _ _ inv t) (at-end _ _ _ _ _ inv)
