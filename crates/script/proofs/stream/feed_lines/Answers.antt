-- `feed_lines` feeds line after line: each turn's text goes behind what was printed (`Going`). A turn takes at least one byte.
use mathlib.Core.Logic.{inl, inr}
use Prim.Native.Nat.{◌-◌, ◌<◌, ◌≤◌}
use native.Mathlib.Omega.{arith}
use lib.ListN.{length, length-drop}
use Rattle.script.specs.Drilled.{answer_bytes}
use Rattle.script.proofs.Further.{goes_out, going_none, going_more, tail_all, tail_put, taken_tail}
use Rattle.script.proofs.stream.feed_lines.Goals as goal

pub loop-fed-init : goal.loop-fed-init
loop-fed-init c = going_none c.args.p _ _ _ _ _ _ c.requires.len_bound

pub feed-line_fed-requires : goal.feed-line_fed-requires
feed-line_fed-requires c =
    let k = c.loop-fed in
    let room = c.if-out-fed-ge-ANSWER_BYTES.true in
    record {
      segment_words_in_bounds = omega (arith, c.requires.segment_words_in_bounds, k.invariant.same-buffer);
      answer_bytes_in_bounds = rw (tail_all k.fed.written k.out, length-drop k.fed.written k.out) room;
      line_bytes_in_bounds = omega (arith, c.requires.line_bytes_in_bounds, k.invariant.same_line);
      len_bound = k.invariant.short;
    }

pub overflow_add-fed : goal.overflow_add-fed
overflow_add-fed c =
    let k = c.loop-fed in
    let f = c.feed-line_fed in
    omega (arith, taken_tail k.fed.used c.args.piece.now c.loop-fed-test.true, f.ensures.used_value)

pub loop-fed-smaller : goal.loop-fed-smaller
loop-fed-smaller c =
    let k = c.loop-fed in
    let f = c.feed-line_fed in
    omega (arith, taken_tail k.fed.used c.args.piece.now c.loop-fed-test.true, f.ensures.used_value)

pub loop-fed-preserved : goal.loop-fed-preserved
loop-fed-preserved c =
    let k = c.loop-fed in
    let f = c.feed-line_fed in
    let room : answer_bytes ≤ length k.out - k.fed.written = c.if-out-fed-ge-ANSWER_BYTES.true in
    going_more k.invariant c.loop-fed-test.true (omega (arith, room)) (tail_all k.fed.used c.args.piece.now) (tail_all k.fed.written k.out) (tail_put k.fed.written k.out f.new.out)
    f.ensures.kept_bound f.ensures.used_value f.ensures.written_le_answer_bytes f.ensures.says f.auto.shares f.auto.segments f.auto.line f.auto.out

pub returns-else-out-fed-ge-ANSWER_BYTES : goal.returns-else-out-fed-ge-ANSWER_BYTES
returns-else-out-fed-ge-ANSWER_BYTES c =
    let g = c.loop-fed.invariant in
    let full : length c.loop-fed.out - c.loop-fed.fed.written < answer_bytes = c.if-out-fed-ge-ANSWER_BYTES.false in
    record {
      goes = goes_out g (inr full);
      says = g.comes;
    }

pub returns-after-loop-fed : goal.returns-after-loop-fed
returns-after-loop-fed c =
    let g = c.loop-fed.invariant in
    record {
      goes = goes_out g (inl c.loop-fed-test.false);
      says = g.comes;
    }
