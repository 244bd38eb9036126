-- `on_core` is the rules' segment on the core where the stretch begins.
-- The kept place is the quotient and the rest that the definition speaks of.
use native.Mathlib.Omega.{arith}
use Rattle.wrap.specs.Shown.{segment_of}
use Rattle.line.proofs.Line.{line-core}
use Rattle.wrap.proofs.segments.on_core.Goals as goal

pub returns : goal.returns
unfolding segment_of
returns c =
    let at = c.args in
    record {
      value = rw (line-core {T = at.slice} at.place (omega arith) at.slot at.share, c.min.ensures);
      first_le_slice = omega arith;
    }
