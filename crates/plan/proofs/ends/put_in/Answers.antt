-- `put_in` moves the boundaries from place k on, and writes d there: by the law `put_by_move`.
use native.Mathlib.Omega.{arith}
use Rattle.plan.proofs.Bounds.{put_by_move}
use Rattle.plan.proofs.ends.put_in.Goals as goal

pub returns : goal.returns
returns c =
    let at = c.args in
    rw c.copy_within.ensures.after (put_by_move at.count at.ends.now at.k at.d (omega arith) (omega arith))
