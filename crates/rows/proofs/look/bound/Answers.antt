-- `bound` is 0 where the job is due before the slice ends, and the slice's grains elsewhere.
-- Each branch knows how the test came out.
use Rattle.std.proofs.Common.{arith, le-ltb, lt-ltb}
use Rattle.rows.proofs.look.bound.Goals as goal

pub returns-then-due-end : goal.returns-then-due-end
returns-then-due-end c = let at = c.args in rw (lt-ltb at.due at.end (omega arith))

pub returns-else-due-end : goal.returns-else-due-end
returns-else-due-end c = let at = c.args in rw (le-ltb at.due at.end (omega arith))
