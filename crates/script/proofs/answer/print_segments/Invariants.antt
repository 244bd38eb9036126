-- `print_segments` prints one segment a turn: what is there with what is left put behind it is the whole (`Printing`).
use Rattle.script.proofs.Printing.{Printing}
use Rattle.script.proofs.answer.print_segments.Given as goal

abbrev pub invariant-loop-segment : goal.invariant-loop-segment
invariant-loop-segment l = Printing l.segments l.initial.out l.count l.at l.segment-index l.end l.out
