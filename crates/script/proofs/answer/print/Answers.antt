-- `print` prints a refusal's number, or a value and then the segments that the answer counts.
use native.Mathlib.Omega.{arith}
use Prim.Native.Nat.{◌≤◌}
use Rattle.wrap.specs.Asked.{most_segments}
use Rattle.calls.specs.Called.{answer_of}
use Rattle.text.proofs.Promises.{ok_length}
use Rattle.script.proofs.Printing.{refused-printed, done-printed}
use Rattle.script.proofs.answer.print.Goals as goal

pub print_segments-requires : goal.print_segments-requires
unfolding answer_of
print_segments-requires c =
    let few : c.in-Ok.field-0.count ≤ most_segments = (rw c.in-Ok.is at c.requires.printable).few in
    let ok = ok_length c.in-Ok.field-0.value in
    let w = c.write_done-at in
    record {
      count_le_most_segments = few;
      segment_words_in_bounds = c.requires.segment_words_in_bounds;
      count_in_bounds = omega (arith, few, w.ensures.value, c.requires.answer_bytes_in_bounds);
    }

pub returns-in-Ok : goal.returns-in-Ok
unfolding answer_of
returns-in-Ok c =
    let few : c.in-Ok.field-0.count ≤ most_segments = (rw c.in-Ok.is at c.requires.printable).few in
    let w = c.write_done-at in
    let p = c.print_segments in
    rw c.in-Ok.is (done-printed c.args.segments.now c.args.out.now c.in-Ok.field-0.value c.in-Ok.field-0.count few w.ensures.value w.ensures.out_after p.ensures.value p.ensures.out_after p.ensures.upper_bound)

pub returns-in-Err : goal.returns-in-Err
returns-in-Err c =
    let w = rw c.number.ensures at c.write_refused.ensures in
    rw c.in-Err.is (refused-printed c.args.segments.now c.args.out.now c.in-Err.refusal w.value w.out_after)
