-- `take_out` moves the boundaries from place 1 on, and writes zero over the last: by the law `taken_by_move`.
use native.Mathlib.Omega.{arith}
use Rattle.plan.proofs.Bounds.{taken_by_move}
use Rattle.plan.proofs.ends.take_out.Goals as goal

pub returns : goal.returns
returns c =
    let at = c.args in
    rw c.copy_within.ensures.after (taken_by_move at.count at.ends.now (omega arith) (omega arith))
