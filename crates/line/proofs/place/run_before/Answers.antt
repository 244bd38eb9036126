-- `run_before` adds what the whole stretches before a place have run and what its own has: the definition's own terms.
-- At most 64 stretches of at most 60,000,000 grains fit a word.
use native.Mathlib.Nat.{mul-le-mul_left}
use native.Mathlib.Omega.{arith}
use borrow.Author.Rules.{rules}
use Rattle.line.specs.Line.{run_before}
use Rattle.line.proofs.place.run_before.Goals as goal

pub overflow_mul-result : goal.overflow_mul-result
overflow_mul-result c = let at = c.args in omega (arith, mul-le-mul_left at.place.core c.requires.run_bound)

pub overflow_add-result : goal.overflow_add-result
overflow_add-result c = let at = c.args in omega (arith, mul-le-mul_left at.place.core c.requires.run_bound)

pub returns : goal.returns
unfolding run_before
returns c = search rules
