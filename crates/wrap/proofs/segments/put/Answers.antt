-- `put` writes what the window shows of a segment: itself as far as it is kept, or nothing.
-- Its test is the definition's, with the plan start's grain added on both sides.
use native.Mathlib.Omega.{arith}
use Rattle.wrap.specs.Shown.{segment_of, window_of}
use Rattle.wrap.proofs.Shown.{clip-some, clip_none, wrote_none}
use Rattle.wrap.proofs.segments.put.Goals as goal

pub returns-then-seen : goal.returns-then-seen
unfolding segment_of
returns-then-seen c =
    let at = c.args in
    let got = c.within-seen in
    rw (clip-some (window_of at.window) (segment_of at.segment) (segment_of got.result) got.ensures (omega arith))
    (record { count-is = omega arith; words_are = c.write.ensures })

pub returns-else-seen : goal.returns-else-seen
unfolding segment_of
returns-else-seen c =
    let at = c.args in
    let got = c.within-seen in
    rw (clip_none (window_of at.window) (segment_of at.segment) (segment_of got.result) got.ensures (omega arith))
    (wrote_none at.count at.buffer.now)
