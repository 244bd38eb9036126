-- `print_segments` prints one segment a turn: what is there with what is left put behind it is the whole (`Printing`).
use mathlib.Core.Path.{◌≡◌}
use Prim.Native.Nat.{◌/◌, ◌<◌, ◌≤◌}
use native.Mathlib.Omega.{arith}
use lib.ListN.{length}
use lib.Seq.{length-take-le}
use Rattle.script.proofs.Printing.{chunk_text, printing_more, printing_all}
use Rattle.script.proofs.answer.print_segments.Goals as goal

pub loop-segment-preserved : goal.loop-segment-preserved
loop-segment-preserved c =
    let chunks = c.as_chunks.ensures in
    let k = c.loop-segment.segment-index in
    let room : c.args.count ≤ length c.args.segments.now / 4 = omega (arith, c.requires) in
    let size = length-take-le c.args.count c.as_chunks.result.0.now (omega (arith, room, chunks.front_len)) in
    let more : k < c.args.count = omega (arith, size, c.loop-segment-test.true) in
    let text = chunk_text c.args.count (length c.args.segments.now / 4) k c.args.segments.now chunks.front more (omega arith) in
    let p = rw text at c.print_segment-end.ensures in
    printing_more c.loop-segment.invariant more c.requires.count_in_bounds p.value p.out_after

pub returns : goal.returns
returns c =
    let k = c.loop-segment in
    let room : c.args.count ≤ length c.args.segments.now / 4 = omega (arith, c.requires) in
    let size = length-take-le c.args.count c.as_chunks.result.0.now (omega (arith, room, c.as_chunks.ensures.front_len)) in
    let end : k.segment-index ≡ c.args.count = omega (arith, size, k.invariant.within) in
    let all = printing_all (rw end at k.invariant) in
    record {
      value = all.0;
      out_after = all.1;
      upper_bound = omega (arith, k.invariant.room);
    }
