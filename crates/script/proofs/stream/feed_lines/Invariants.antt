-- `feed_lines` feeds line after line: each turn's text goes behind what was printed (`Going`). A turn takes at least one byte.
use Prim.Native.Nat.{◌-◌}
use lib.ListN.{length}
use Rattle.planner.specs.Struct.{in_struct}
use Rattle.script.proofs.Further.{Going}
use Rattle.script.proofs.stream.feed_lines.Given as goal

abbrev pub invariant-loop-fed : goal.invariant-loop-fed
invariant-loop-fed l =
    Going (in_struct l.initial.fed.planner) l.initial.shares l.initial.segments l.initial.line l.len l.piece l.initial.out l.shares l.segments l.line l.out l.fed

abbrev pub decreases-loop-fed : goal.decreases-loop-fed
decreases-loop-fed l = length l.piece - l.fed.used
