-- `field`: a space in front of the number.
use native.Mathlib.Omega.{arith}
use Rattle.text.proofs.Behind.{before_space}
use Rattle.text.proofs.write.field.Goals as goal

pub returns : goal.returns
returns c = before_space c.args.n c.spell-at.ensures (omega arith) (omega arith)
