-- `digit`: the digits' bytes stand in order from 48 on.
use native.Mathlib.Omega.{arith}
use Rattle.text.proofs.number.digit.Goals as goal

pub returns : goal.returns
returns c = omega arith
