-- `row_fits` asks three tests one after the other.
-- Each but the last leaves a flag, which the next joins. A slice is at most 60,000 ticks long, so the product fits.
use native.Mathlib.Nat.{mul-le-mul}
use native.Mathlib.Omega.{arith}
use Rattle.sound.proofs.slice.row_fits.Goals as goal

pub overflow_mul-long : goal.overflow_mul-long
overflow_mul-long c = let at = c.args in omega (arith, mul-le-mul {n₁ = at.long} {m₁ = at.row.owed} {n₂ = 60000} {m₂ = 4294967295} (omega arith) (omega arith))
