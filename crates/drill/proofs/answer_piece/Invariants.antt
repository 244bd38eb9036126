-- `answer_piece` takes at least one byte of the piece a turn, since the output has room for a line.
use Rattle.std.proofs.Common.{length, suc, ◌≤◌}
use Rattle.lines.specs.Lines.{line_bytes}
use Rattle.drill.proofs.answer_piece.Given as goal

abbrev pub invariant-loop-rest : goal.invariant-loop-rest
invariant-loop-rest g l = l.state.len ≤ suc line_bytes

abbrev pub decreases-loop-rest : goal.decreases-loop-rest
decreases-loop-rest g l = length l.rest
