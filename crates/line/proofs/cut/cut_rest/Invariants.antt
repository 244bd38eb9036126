-- `cut_rest` takes the row of the first part from the whole row, share by share: after i turns the first i shares are the rest's.
-- No share of the first part is more than the whole share, so nothing goes below zero.
use Rattle.std.proofs.Common.{get_or}
use Rattle.rules.specs.Slices.{less}
use Rattle.rows.proofs.Moves.{Mixed}
use Rattle.line.proofs.cut.cut_rest.Given as goal

abbrev pub invariant-loop-i : goal.invariant-loop-i
invariant-loop-i l = Mixed (less (λ j. get_or l.first j 0) 0 l.initial.rest) l.initial.rest l.i l.rest
