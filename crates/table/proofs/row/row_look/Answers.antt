-- `row_look` hands back the facts of row k: the part that is lent is the row.
-- So what `look` promises of the part holds of the row.
use Prim.Native.Nat.{◌+◌, ◌-◌, ◌*◌}
use native.Mathlib.Omega.{arith}
use Rattle.table.proofs.Rowed.{row_part}
use Rattle.table.proofs.row.row_look.Goals as goal

pub returns : goal.returns
returns c =
    let at = c.args in
    let a = 64 * at.k in
    let part = rw c.unwrap-row.ensures at c.as_array.ensures.cases in
    rw (part.same, row_part at.k (a + 64 - a) at.shares.now (omega arith) c.requires.k_lt_row_count) at c.look.ensures
