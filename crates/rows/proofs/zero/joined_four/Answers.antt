-- `joined_four` joins two pairs: it is zero exactly where both pairs are.
-- Each joining says so of its two words.
use Rattle.std.proofs.Common.{arith}
use Rattle.rows.proofs.zero.joined_four.Goals as goal

pub returns : goal.returns
returns c =
    let all = c.joined-3.ensures in
    let right = c.joined-2.ensures in
    let left = c.joined.ensures in record {
      parts_zero = (λ e. let both = all.parts_zero e in omega (arith, left.parts_zero (omega arith), right.parts_zero (omega arith)));
      zero = (λ e. all.zero (omega (arith, left.zero (omega arith), right.zero (omega arith))));
    }
