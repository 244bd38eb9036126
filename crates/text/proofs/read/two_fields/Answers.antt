-- `two_fields`: the only mark with two numbers is TK.
use mathlib.Core.Path.{refl}
use native.Mathlib.Omega.{arith}
use Rattle.rules.specs.Checked.{same}
use Rattle.text.specs.Grammar.{two_fields}
use Rattle.text.proofs.Marks.{mark_is, no_two_fields}
use Rattle.text.proofs.read.two_fields.Goals as goal

pub returns-in-TK : goal.returns-in-TK
unfolding two_fields same
returns-in-TK c = rw (mark_is c.args.mark.now 84 75 (omega arith) (omega arith) (omega arith)) refl

pub returns-in_default : goal.returns-in_default
returns-in_default c = no_two_fields c.args.mark.now c.args.v c.args.w (λ l a b. omega arith)

pub returns-in_default-2 : goal.returns-in_default-2
returns-in_default-2 c = no_two_fields c.args.mark.now c.args.v c.args.w (λ l a b. omega arith)

pub returns-in_default-3 : goal.returns-in_default-3
returns-in_default-3 c = no_two_fields c.args.mark.now c.args.v c.args.w (λ l a b. omega arith)

pub returns-in_default-4 : goal.returns-in_default-4
returns-in_default-4 c = no_two_fields c.args.mark.now c.args.v c.args.w (λ l a b. omega arith)
