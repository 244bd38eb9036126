-- `value`: the value so far, with the digits from the next one on, makes the whole number's value. A number is below ten to the
-- thirteenth, and no value so far is above it, so that nothing overflows.
use mathlib.Core.Path.{◌≡◌, refl, sym, ◌∙◌}
use mathlib.Core.List.{[]}
use Prim.Native.Nat.{◌+◌, ◌-◌, ◌*◌}
use native.Mathlib.Omega.{arith}
use lib.ListN.{drop, get_or, drop_of_length-le}
use Rattle.text.specs.Grammar.{is_digit, value_from, value_of}
use Rattle.text.proofs.Values.{digits_next, value-next, value-most, number_is, number_below, digit_is, both}
use Rattle.text.proofs.number.value.Goals as goal

pub loop-b-init : goal.loop-b-init
unfolding value_of
loop-b-init c = ((number_is c.args.piece.now c.requires).all, refl)

pub overflow_mul-v : goal.overflow_mul-v
overflow_mul-v c =
    let piece = c.args.piece.now in
    let i = c.loop-b.b-index in
    let v = c.loop-b.v in
    let next = value-next v piece i (omega arith) in
    omega (arith, next, c.loop-b.invariant.1, number_below piece c.requires, value-most (v * 10 + (get_or piece i 0 - 48)) (drop (i + 1) piece))

pub overflow_sub-b : goal.overflow_sub-b
overflow_sub-b c =
    let piece = c.args.piece.now in
    let i = c.loop-b.b-index in
    let digits = both {a = is_digit (get_or piece i 0)} (sym (digits_next piece i (omega arith)) ∙ c.loop-b.invariant.0) in
    (digit_is (get_or piece i 0) digits.0).0

pub overflow_add-v : goal.overflow_add-v
overflow_add-v c =
    let piece = c.args.piece.now in
    let i = c.loop-b.b-index in
    let v = c.loop-b.v in
    let next = value-next v piece i (omega arith) in
    omega (arith, next, c.from.ensures, c.loop-b.invariant.1, number_below piece c.requires, value-most (v * 10 + (get_or piece i 0 - 48)) (drop (i + 1) piece))

pub loop-b-preserved : goal.loop-b-preserved
loop-b-preserved c =
    let piece = c.args.piece.now in
    let i = c.loop-b.b-index in
    let digits = both {a = is_digit (get_or piece i 0)} (sym (digits_next piece i (omega arith)) ∙ c.loop-b.invariant.0) in
    (digits.1, rw c.from.ensures (sym (value-next c.loop-b.v piece i (omega arith)) ∙ c.loop-b.invariant.1))

pub returns : goal.returns
unfolding value_from
returns c =
    let piece = c.args.piece.now in
    let end : drop c.loop-b.b-index piece ≡ [] = drop_of_length-le piece {i = c.loop-b.b-index} (omega arith) in
    rw end at c.loop-b.invariant.1
