-- `held` tells who holds a core: what the look at slice 0 finds, counted from the plan start.
-- A segment ends by the slice's end (`found_by`), so nothing overflows.
use native.Mathlib.Omega.{arith}
use Rattle.rules.specs.Station.{grains}
use Rattle.rules.specs.Advance.{idle_until}
use Rattle.wrap.specs.Holding.{held_front}
use Rattle.wrap.proofs.Looking.{found_by}
use Rattle.wrap.proofs.look.held.Goals as goal

pub returns-in_default : goal.returns-in_default
unfolding held_front
returns-in_default c =
    let row = (rw c.unwrap-row.ensures at c.first_chunk.ensures.cases).same in
    rw row at (c.in_default.ensures (grains c.args.state.start) (idle_until (grains c.args.end)))

pub overflow_add-result : goal.overflow_add-result
overflow_add-result c =
    let row = (rw c.unwrap-row.ensures at c.first_chunk.ensures.cases).same in
    omega (arith, c.requires.front, found_by c.requires.front c.args.core c.in-Some.held.slot c.in-Some.held.after (rw row at c.in-Some.ensures))

pub returns : goal.returns
unfolding held_front
returns c =
    let row = (rw c.unwrap-row.ensures at c.first_chunk.ensures.cases).same in
    rw row at (c.in-Some.ensures (grains c.args.state.start) (idle_until (grains c.args.end)))
