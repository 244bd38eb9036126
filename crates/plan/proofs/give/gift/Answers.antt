-- `gift` is rate times length. The product fits, since a slice is no longer than a period.
use mathlib.Core.Path.{refl}
use Prim.Native.Nat.{ℕ, ◌+◌, ◌-◌, ◌*◌, ◌≤◌}
use native.Mathlib.Nat.{mul-le-mul}
use native.Mathlib.Omega.{arith}
use Rattle.plan.proofs.give.gift.Goals as goal

most : (rate lo end : ℕ) → rate ≤ 1000 → end ≤ lo + 60000 → rate * (end - lo) ≤ 60000000
most rate lo end slow soon = let short : end - lo ≤ 60000 = omega arith in mul-le-mul slow short

pub overflow_mul-result : goal.overflow_mul-result
overflow_mul-result c = omega (arith, most c.args.rate c.args.lo c.args.end c.requires.rate_bound c.requires.end_bound)

pub returns : goal.returns
returns c = record {
  value = refl;
  upper_bound = most c.args.rate c.args.lo c.args.end c.requires.rate_bound c.requires.end_bound;
}
