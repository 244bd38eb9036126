-- `beyond` gives the place one share further along the line: the same for a share of nothing.
-- Where the share goes past the stretch's end the core is one more and T grains come off, which is the same sum.
use native.Mathlib.Omega.{arith}
use Rattle.line.specs.Line.{on_line}
use Rattle.line.proofs.place.beyond.Goals as goal

pub returns-then-to-slice : goal.returns-then-to-slice
unfolding on_line
returns-then-to-slice c = omega arith

pub returns-else-to-slice : goal.returns-else-to-slice
unfolding on_line
returns-else-to-slice c = omega arith
