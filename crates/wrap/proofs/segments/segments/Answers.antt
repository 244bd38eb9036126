-- `segments` writes the segments that the window shows: what stands, and what the slots from `slot` on would add, are those asked for.
-- At most 79 exist, so there is room for each slot's.
use mathlib.Core.Path.{refl}
use native.Mathlib.Omega.{arith}
use Rattle.rules.specs.Station.{most_cores}
use Rattle.rules.proofs.Count.{wrap-most}
use Rattle.wrap.specs.Shown.{window_of, shown}
use Rattle.line.proofs.Line.{line-start}
use Rattle.wrap.proofs.Shown.{rest_all, rest_none, rest_few, rest_more}
use Rattle.wrap.proofs.segments.segments.Goals as goal

pub loop-slot-init : goal.loop-slot-init
unfolding shown window_of
loop-slot-init c =
    let at = c.args in
    let pre = c.requires in
    let w = window_of at.window in
    record {
      within = omega arith;
      long = refl;
      few = omega (arith, wrap-most w pre.laid.some most_cores at.row.now (omega arith) pre.row_bound);
      inside = omega arith;
      far = omega arith;
      rest = rw (line-start at.slice) (rest_all w at.slice at.row.now at.buffer.now);
    }

pub lay-count-requires : goal.lay-count-requires
lay-count-requires c =
    let k = c.loop-slot in
    omega (arith, c.requires.laid.small k.slot, rest_few k.invariant.rest (omega arith) c.from-share.ensures)

pub beyond-place-requires : goal.beyond-place-requires
beyond-place-requires c =
    let k = c.loop-slot in
    omega (arith, c.requires.laid.small k.slot)

pub loop-slot-preserved : goal.loop-slot-preserved
loop-slot-preserved c =
    let k = c.loop-slot in
    let share = c.from-share in
    let lay = c.lay-count in
    record {
      within = omega arith;
      long = omega arith;
      few = k.invariant.few;
      inside = omega arith;
      far = omega arith;
      rest = rw c.beyond-place.ensures.is (rest_more k.invariant.rest (omega arith) share.ensures lay.ensures (omega arith));
    }

pub returns : goal.returns
returns c = let both = rest_none c.loop-slot.invariant.rest (omega arith) in
    record { value = both.0; buffer_after = both.1 }
