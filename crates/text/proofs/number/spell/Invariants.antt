-- `spell` writes the digits from the last: those still to be written and what stands behind them are the number's text and what stood
-- from `end` on. `left` places hold what is left of the number.
use mathlib.Core.Path.{◌≡◌}
use mathlib.Core.List.{◌++◌}
use Prim.Native.Nat.{◌+◌, ◌<◌, ◌≤◌}
use lib.ListN.{length, drop}
use Rattle.text.specs.Grammar.{number_text}
use Rattle.text.proofs.Decimal.{Spelling}
use Rattle.text.proofs.number.spell.Given as goal

abbrev pub invariant-loop-rest : goal.invariant-loop-rest
invariant-loop-rest l =
    (l.front + 20 ≡ l.end) × (length l.out ≡ length l.initial.out) × (0 < l.left) × (l.left ≤ 20) × Spelling (number_text l.n ++ drop l.end l.initial.out) l.front l.left l.rest l.out

abbrev pub decreases-loop-rest : goal.decreases-loop-rest
decreases-loop-rest l = l.rest
