-- `killaruna_holder` leaves what `holder_in` says: a result area that is too short, a state area that is too short, or holder's answer.
use mathlib.Core.List.{[]}
use mathlib.Core.Path.{◌≡◌}
use lib.ListN.{take, drop}
use Rattle.std.proofs.Common.{rules}
use Rattle.wrap.specs.Holding.{told_by}
use Rattle.station.specs.Area.{lists_from}
use Rattle.station.specs.Station.{holder_in}
use Rattle.station.specs.Result.{answered}
use Rattle.station.proofs.Framed.{split-is}
use Rattle.station.proofs.Stationed.{short-result, short-state, held-is}
use Rattle.calls.specs.Called.{answer_of}
use Rattle.rules.specs.Calls.{refusal}
use Rattle.rules.specs.Numbers.{number_of}
use Rattle.station.proofs.killaruna_holder.Goals as goal

pub returns-in_default : goal.returns-in_default
unfolding holder_in number_of
returns-in_default c =
    let at = c.args in
    rw c.number.ensures (short-result at.state.now at.shares.now [] at.res.now _ c.in_default.ensures.cases)

pub returns-in_default-first_chunk : goal.returns-in_default-first_chunk
unfolding holder_in answered answer_of refusal number_of
returns-in_default-first_chunk c =
    let at = c.args in
    let told = c.tell.ensures in
    rw (told.value, told.res_after) (short-state at.state.now at.shares.now [] at.res.now _ c.in-Some.ensures.cases.enough c.in_default-first_chunk.ensures.cases)

pub returns : goal.returns
returns c =
    let at = c.args in
    let s = at.state.now in
    let area = c.in-Some-first_chunk.ensures.cases in
    let told = c.tell_holder.ensures in
    let numbers : c.unwrap.result.0.now ≡ take lists_from c.in-Some-first_chunk.area.now = search rules in
    let lists : c.unwrap-lists.result.now ≡ drop lists_from c.in-Some-first_chunk.area.now = search rules in
    let split = split-is s c.in-Some-first_chunk.area.now c.unwrap.result.0.now c.unwrap-lists.result.now c.state_in-held.result area.same numbers lists c.state_in-held.ensures in
    rw (told.value, told.res_after) (held-is s at.shares.now at.res.now c.in-Some.ensures.cases.enough area.enough at.core (told_by c.holder-holder.result) (rw split at c.holder-holder.ensures))
