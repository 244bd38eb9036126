-- `reach` is the definition's quotient: the product fits, at 64 shares times the longest period.
-- The divisor is above `part`, so it is not 0.
use Prim.Native.Nat.{◌≤◌}
use native.Mathlib.Nat.{mul-le-mul}
use native.Mathlib.Omega.{arith}
use borrow.Author.Rules.{rules}
use Rattle.rules.specs.Slices.{first_to}
use Rattle.line.proofs.cut.reach.Goals as goal

pub overflow_mul-result : goal.overflow_mul-result
overflow_mul-result c = let most : c.args.part ≤ 60000 = omega arith in omega (arith, mul-le-mul c.requires.end_bound most)

pub returns : goal.returns
unfolding first_to
returns c = search rules
