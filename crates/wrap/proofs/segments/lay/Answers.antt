-- `lay` writes what the window shows of one slot: its segment on one core, and then that on the next.
-- Segments after segments are the segments of both, and 79 in all leave room for each.
use mathlib.Core.Path.{ap}
use native.Mathlib.Omega.{arith}
use lib.ListN.{length}
use Rattle.rules.specs.Wrap.{Segment, clip}
use Rattle.line.specs.Line.{on_line}
use Rattle.wrap.specs.Shown.{window_of, slot_shown}
use Rattle.wrap.proofs.Shown.{slot-length, wrote_then}
use Rattle.wrap.proofs.segments.lay.Goals as goal

pub put-requires : goal.put-requires
put-requires c =
    let at = c.args in
    let w = window_of at.window in
    let first = ap (λ (g : Segment). length (clip w g)) c.on_core.ensures.value in
    omega (arith, slot-length w at.slice at.slot (on_line at.slice at.place) at.share)

pub returns : goal.returns
unfolding slot_shown
returns c =
    let at = c.args in
    let w = window_of at.window in
    let first = rw c.on_core.ensures.value at c.put-more.ensures in
    let second = rw c.on_next.ensures.value at c.put.ensures in
    wrote_then first (omega (arith, slot-length w at.slice at.slot (on_line at.slice at.place) at.share)) second
