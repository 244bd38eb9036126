-- `rate_due` is the rate where the job is due at the end or after it, and 0 elsewhere.
-- Each branch knows how the test came out.
use Rattle.std.proofs.Common.{arith, le-leb}
use borrow.Author.Tests.{lt-leb}
use Rattle.rows.proofs.look.rate_due.Goals as goal

pub returns-then-end-due : goal.returns-then-end-due
returns-then-end-due c = let at = c.args in record {
  value = rw (le-leb at.end at.due (omega arith));
  upper_bound = omega arith;
}

pub returns-else-end-due : goal.returns-else-end-due
returns-else-end-due c = let at = c.args in record {
  value = rw (lt-leb at.end at.due (omega arith));
  upper_bound = omega arith;
}
