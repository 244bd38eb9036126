-- `one_field`: a piece of a mark's two bytes is the mark, and any other is none. The arms are told apart by the bytes.
use mathlib.Core.Path.{refl}
use native.Mathlib.Omega.{arith}
use Rattle.rules.specs.Checked.{same}
use Rattle.text.specs.Grammar.{one_field}
use Rattle.text.proofs.Marks.{mark_is, no_one_field}
use Rattle.text.proofs.read.one_field.Goals as goal

pub returns-in-CO : goal.returns-in-CO
unfolding one_field same
returns-in-CO c = rw (mark_is c.args.mark.now 67 79 (omega arith) (omega arith) (omega arith)) refl

pub returns-in-WD : goal.returns-in-WD
unfolding one_field same
returns-in-WD c = rw (mark_is c.args.mark.now 87 68 (omega arith) (omega arith) (omega arith)) refl

pub returns-in-RL : goal.returns-in-RL
unfolding one_field same
returns-in-RL c = rw (mark_is c.args.mark.now 82 76 (omega arith) (omega arith) (omega arith)) refl

pub returns-in-AD : goal.returns-in-AD
unfolding one_field same
returns-in-AD c = rw (mark_is c.args.mark.now 65 68 (omega arith) (omega arith) (omega arith)) refl

pub returns-in_default : goal.returns-in_default
returns-in_default c = no_one_field c.args.mark.now c.args.v (λ l a b. omega arith) (λ l a b. omega arith) (λ l a b. omega arith) (λ l a b. omega arith)

pub returns-in_default-2 : goal.returns-in_default-2
returns-in_default-2 c = no_one_field c.args.mark.now c.args.v (λ l a b. omega arith) (λ l a b. omega arith) (λ l a b. omega arith) (λ l a b. omega arith)

pub returns-in_default-3 : goal.returns-in_default-3
returns-in_default-3 c = no_one_field c.args.mark.now c.args.v (λ l a b. omega arith) (λ l a b. omega arith) (λ l a b. omega arith) (λ l a b. omega arith)

pub returns-in_default-4 : goal.returns-in_default-4
returns-in_default-4 c = no_one_field c.args.mark.now c.args.v (λ l a b. omega arith) (λ l a b. omega arith) (λ l a b. omega arith) (λ l a b. omega arith)

pub returns-in_default-5 : goal.returns-in_default-5
returns-in_default-5 c = no_one_field c.args.mark.now c.args.v (λ l a b. omega arith) (λ l a b. omega arith) (λ l a b. omega arith) (λ l a b. omega arith)

pub returns-in_default-6 : goal.returns-in_default-6
returns-in_default-6 c = no_one_field c.args.mark.now c.args.v (λ l a b. omega arith) (λ l a b. omega arith) (λ l a b. omega arith) (λ l a b. omega arith)

pub returns-in_default-7 : goal.returns-in_default-7
returns-in_default-7 c = no_one_field c.args.mark.now c.args.v (λ l a b. omega arith) (λ l a b. omega arith) (λ l a b. omega arith) (λ l a b. omega arith)
