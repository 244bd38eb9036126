-- `spell` writes the digits from the last: those still to be written and what stands behind them are the number's text and what stood
-- from `end` on. `left` places hold what is left of the number.
use mathlib.Core.Path.{◌≡◌, refl}
use Prim.Native.Nat.{◌+◌, ◌-◌}
use native.Mathlib.Omega.{arith}
use lib.ListN.{length-set}
use Rattle.text.specs.Grammar.{number_text}
use Rattle.text.proofs.Decimal.{spelling_more, spelling_some, spelling_last}
use Rattle.text.proofs.number.spell.Goals as goal

pub loop-rest-init : goal.loop-rest-init
unfolding number_text
loop-rest-init c =
    let end : c.args.end - 20 + 20 ≡ c.args.end = omega arith in
    (end, refl, omega arith, omega arith, record { small = omega arith; makes = rw end })

pub loop-rest-preserved : goal.loop-rest-preserved
loop-rest-preserved c =
    let s = c.loop-rest.invariant.4 in
    let some = spelling_some s (omega arith) in
    (omega arith, simp length-set (omega arith), omega arith, omega arith, spelling_more s c.digit.result (omega arith) c.digit.ensures (omega arith))

pub returns : goal.returns
returns c =
    spelling_last c.loop-rest.invariant.4 c.digit-2.result (omega arith) c.digit-2.ensures (omega arith) (omega arith) (omega arith) (omega arith) (omega arith)
