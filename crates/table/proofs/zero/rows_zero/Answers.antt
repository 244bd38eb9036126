-- `rows_zero` tests the sums of four parts, which are the words from row n on: `four_zero` joins them.
-- Sums of parts add up to the sum of the whole.
use mathlib.Core.Path.{◌≡◌, refl, sym, ◌∙◌}
use Prim.Native.Nat.{◌+◌, ◌-◌, ◌*◌}
use native.Mathlib.Omega.{arith}
use lib.ListN.{take, drop}
use Rattle.table.proofs.Rowed.{drop-take}
use Rattle.table.proofs.Zeros.{part_long, four_sums}
use Rattle.table.proofs.zero.rows_zero.Goals as goal

pub four_zero-requires : goal.four_zero-requires
four_zero-requires c =
    let at = c.args in
    let w = at.shares.now in
    let q = 16 * (64 - at.n) in
    let a = 64 * at.n in
    let b = a + q in
    let e = b + q in
    let d = e + q in
    let one = part_long a q b w refl (omega arith) in
    let two = part_long b q e w refl (omega arith) in
    let three = part_long e q d w refl (omega arith) in
    let four = part_long d q 4096 w (omega arith) (omega arith) in
    record {
      b_len = two ∙ sym one;
      c_len = three ∙ sym one;
      d_len = four ∙ sym one;
    }

pub returns : goal.returns
returns c =
    let at = c.args in
    let w = at.shares.now in
    let q = 16 * (64 - at.n) in
    let a = 64 * at.n in
    let whole : a + (4096 - a) ≡ 4096 = omega arith in
    let part : drop a (take 4096 w) ≡ take (4096 - a) (drop a w) = rw whole at (drop-take a (4096 - a) w (omega arith)) in
    rw (part, four_sums a (a + q) (a + q + q) (a + q + q + q) 4096 w (omega arith) (omega arith) (omega arith) (omega arith)) c.four_zero.ensures
