-- `answer_all` keeps no more of a line than `answer_piece` takes.
use Rattle.std.proofs.Common.{suc, ◌≤◌}
use Rattle.lines.specs.Lines.{line_bytes}
use Rattle.drill.proofs.answer_all.Given as goal

abbrev pub invariant-loop : goal.invariant-loop
invariant-loop g l = l.state.len ≤ suc line_bytes
