-- `row_up` copies one of two rows over the other: both are lent as one part.
-- The law `row_up` says what such a part makes of the table.
use Prim.Native.Nat.{◌+◌, ◌-◌, ◌*◌}
use native.Mathlib.Omega.{arith}
use native.Mathlib.Numerals.{add-one}
use Rattle.table.proofs.Rowed.{row_up}
use Rattle.table.proofs.shift.row_up.Goals as goal

pub returns : goal.returns
returns c =
    let at = c.args in
    let got = c.copy_up in
    let a = 64 * at.k in
    rw (add-one at.k) (row_up at.shares.now (omega arith) at.k (a + 128 - a) got.new.two got.auto.two (omega arith) (omega arith) got.ensures)
