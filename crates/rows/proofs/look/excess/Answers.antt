-- `excess` joins a share with its bound less the share, wrapped: one of the two has the highest bit exactly where the share is more.
-- A bound is below the highest bit.
use Rattle.std.proofs.Common.{◌+◌, ◌-◌, ◌%◌, arith}
use Rattle.rows.proofs.Marks.{difference}
use Rattle.rows.proofs.look.excess.Goals as goal

pub returns : goal.returns
returns c =
    let at = c.args in
    difference at.most at.share ((at.most + (4294967296 - at.share)) % 4294967296) (omega arith) (omega arith) (omega arith) (omega arith)
