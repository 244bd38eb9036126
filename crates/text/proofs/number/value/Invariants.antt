-- `value`: the value so far, with the digits from the next one on, makes the whole number's value. A number is below ten to the
-- thirteenth, and no value so far is above it, so that nothing overflows.
use mathlib.Core.Path.{◌≡◌}
use lib.ListN.{drop}
use mathlib.Core.Bool.{true}
use Rattle.text.specs.Grammar.{all_digits, value_from, value_of}
use Rattle.text.proofs.number.value.Given as goal

abbrev pub invariant-loop-b : goal.invariant-loop-b
invariant-loop-b l = (all_digits (drop l.b-index l.piece) ≡ true) × (value_from l.v (drop l.b-index l.piece) ≡ value_of l.piece)
