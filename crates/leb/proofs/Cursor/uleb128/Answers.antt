-- `leb::Cursor::uleb128` meets its contract: the loop's invariant is `Reading`, and each need is a lemma of `proofs/Unsigned.antt`.
-- Assumes nothing.
use Prim.Native.Nat.{◌<◌}
use native.Mathlib.Omega.{arith}
use lib.ListN.{get_or}
use Rattle.bits.proofs.Masks.{low-lt}
use Rattle.leb.proofs.Answering.{gives, refuses, unended}
use Rattle.leb.proofs.Unsigned.{begins, at-end, too_long, too-big, fits, last, more}
use Rattle.leb.proofs.Cursor.uleb128.Goals as goal

pub loop-shift-init : goal.loop-shift-init
loop-shift-init c = begins c.args.s.now c.args.self.at

pub returns-then-s-i : goal.returns-then-s-i
returns-then-s-i c = refuses c.unread.ensures (at-end _ _ _ _ _ c.loop-shift.invariant c.if-s-i.true)

pub overflow_cast-low : goal.overflow_cast-low
overflow_cast-low c = omega (arith, low-lt (get_or c.args.s.now c.loop-shift.i 0))

pub returns-then-low-gt1 : goal.returns-then-low-gt1
returns-then-low-gt1 c =
    let byte : get_or c.args.s.now c.loop-shift.i 0 < 256 = omega (arith, c.type_inv.s c.loop-shift.i) in
    refuses c.unread-then-low-gt1.ensures
    (too-big _ _ _ _ _ c.loop-shift.invariant c.loop-shift-test.true c.if-s-i.false (byte)
    c.if-shift-eq63.true c.if-low-gt1.true)

pub returns-then-b-eq0 : goal.returns-then-b-eq0
returns-then-b-eq0 c =
    let byte : get_or c.args.s.now c.loop-shift.i 0 < 256 = omega (arith, c.type_inv.s c.loop-shift.i) in
    let room = fits _ _ _ _ _ c.loop-shift.invariant c.loop-shift-test.true c.if-s-i.false byte c.else-shift-eq63.either in
    gives _
    (last _ _ _ _ _ c.loop-shift.invariant c.loop-shift-test.true c.if-s-i.false byte room
    c.if-b-eq0.true)

pub loop-shift-smaller : goal.loop-shift-smaller
loop-shift-smaller c = omega arith

pub loop-shift-preserved : goal.loop-shift-preserved
loop-shift-preserved c =
    let byte : get_or c.args.s.now c.loop-shift.i 0 < 256 = omega (arith, c.type_inv.s c.loop-shift.i) in
    let room = fits _ _ _ _ _ c.loop-shift.invariant c.loop-shift-test.true c.if-s-i.false byte c.else-shift-eq63.either in
    more _ _ _ _ _ c.loop-shift.invariant c.loop-shift-test.true c.if-s-i.false byte room
    c.if-b-eq0.false

pub returns : goal.returns
returns c =
    let inv = c.loop-shift.invariant in
    let t = c.loop-shift-test.false in
    unended _ _ _ c.unended.ensures (too_long _ _ _ _ _ inv t) (at-end _ _ _ _ _ inv)
