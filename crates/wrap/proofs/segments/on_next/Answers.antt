-- `on_next` is the rules' segment on the next core.
-- The kept place is the quotient and the rest that the definition speaks of.
use native.Mathlib.Omega.{arith}
use Rattle.wrap.specs.Shown.{segment_of}
use Rattle.line.proofs.Line.{line-next}
use Rattle.wrap.proofs.segments.on_next.Goals as goal

pub returns : goal.returns
unfolding segment_of
returns c =
    let at = c.args in
    record {
      value = rw (line-next {T = at.slice} at.place (omega arith) at.slot at.share, c.saturating_sub.ensures);
      first_le_slice = omega arith;
    }
