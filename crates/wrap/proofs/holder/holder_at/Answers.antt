-- `holder_at` finds who holds a core in a grain: as long as the shares end at or before that place on the line, the slots left decide.
-- The first whose share ends past it holds the core, and after the last slot nobody does.
use native.Mathlib.Nat.{mul-le-mul_left}
use native.Mathlib.Omega.{arith}
use Rattle.wrap.proofs.Holds.{left-all, left_none, left_later, left_here}
use Rattle.wrap.proofs.holder.holder_at.Goals as goal

pub overflow_mul-begin : goal.overflow_mul-begin
overflow_mul-begin c = omega (arith, mul-le-mul_left c.args.core c.requires.laid.most)

pub overflow_add-place : goal.overflow_add-place
overflow_add-place c = omega (arith, mul-le-mul_left c.args.core c.requires.laid.most)

pub loop-slot-init : goal.loop-slot-init
loop-slot-init c = record { within = omega arith; small = omega arith; before = omega arith; left = left-all _ _ _ _ }

pub returns-then-place-end : goal.returns-then-place-end
returns-then-place-end c =
    let k = c.loop-slot in
    rw c.min.ensures
    (left_here k.invariant.left c.requires.laid.some (omega arith) c.from-end.ensures c.requires.grain_lt_slice (omega (arith, c.requires.laid.small k.slot)) k.invariant.before (omega arith))

pub loop-slot-preserved : goal.loop-slot-preserved
loop-slot-preserved c =
    let k = c.loop-slot in
    record {
      within = omega arith;
      small = omega arith;
      before = omega arith;
      left = left_later k.invariant.left c.requires.laid.some (omega arith) c.from-end.ensures (omega arith);
    }

pub returns : goal.returns
returns c = left_none c.loop-slot.invariant.left (omega arith)
