-- `joined` is a bitwise or: with what both words share it makes their sum, and what they share is at most each of them.
-- So it is zero exactly where the sum is.
use Rattle.std.proofs.Common.{arith}
use lib.Bits.{or_add_and, and_le_l, and_le_r}
use Rattle.rows.proofs.zero.joined.Goals as goal

pub returns : goal.returns
returns c =
    let both = or_add_and c.args.a c.args.b in
    let left = and_le_l c.args.a c.args.b in
    let right = and_le_r c.args.a c.args.b in
    record {
      parts_zero = (λ e. omega arith);
      zero = (λ e. omega arith);
    }
