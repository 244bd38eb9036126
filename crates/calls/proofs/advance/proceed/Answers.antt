-- `proceed` leaves what the rules accept of an advance, where a slice is held: at its end, or short of it.
-- Table, words and segments are facts of their own, which Onward.antt puts together.
use mathlib.Core.Path.{◌≡◌}
use Prim.Native.Nat.{min}
use native.Mathlib.Omega.{arith}
use lib.ListN.{length, get_or}
use Rattle.rules.specs.Held.{ends_of}
use Rattle.calls.proofs.Joint.{first-end}
use Rattle.calls.proofs.First.{front, segments-shown}
use Rattle.calls.proofs.Onward.{over_left, short-left}
use Rattle.calls.proofs.advance.proceed.Goals as goal

pub show-count-requires : goal.show-count-requires
show-count-requires c =
    let q = c.requires in
    let k = front q.agrees q.some in
    let end = first-end c.args.lists.now in
    let to = c.min-to.ensures in
    record {
      front = rw end k;
      clock_le_to = omega (arith, k.ahead, q.ahead);
      to_le_end = omega arith;
      segment_words_in_bounds = q.room;
    }

pub returns-then-end-tick : goal.returns-then-end-tick
returns-then-end-tick c =
    let q = c.requires in
    let ls = c.args.lists.now in
    let w = c.args.shares.now in
    let b = c.args.segments.now in
    let crossed = c.cross.ensures in
    let to : c.min-to.result ≡ min c.args.tick (get_or (ends_of ls) 0 0) = rw (← (first-end ls)) c.min-to.ensures in
    let count = rw (first-end ls, ← (segments-shown q.agrees q.some c.min-to.result), to) at c.show-count.ensures.value in
    let buffer = rw (first-end ls, ← (segments-shown q.agrees q.some c.min-to.result), to) at c.show-count.ensures.buffer_after in
    rw to (over_left q.agrees q.some c.args.tick (length b) b _ _ (count, buffer) (rw (first-end ls) at c.if-end-tick.true) crossed.lists_after crossed.shares_after)

pub returns : goal.returns
returns c =
    let q = c.requires in
    let ls = c.args.lists.now in
    let b = c.args.segments.now in
    let to : c.min-to.result ≡ min c.args.tick (get_or (ends_of ls) 0 0) = rw (← (first-end ls)) c.min-to.ensures in
    let count = rw (first-end ls, ← (segments-shown q.agrees q.some c.min-to.result), to) at c.show-count.ensures.value in
    let buffer = rw (first-end ls, ← (segments-shown q.agrees q.some c.min-to.result), to) at c.show-count.ensures.buffer_after in
    rw to (short-left q.agrees q.some c.args.tick (length b) b _ _ (count, buffer) (rw (first-end ls) at c.if-end-tick.false))
