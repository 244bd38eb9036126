-- `on_area` makes the call on the planner in the area and stores what it leaves, where both areas are long enough.
use mathlib.Core.Path.{◌≡◌, refl}
use lib.ListN.{take, drop}
use Rattle.std.proofs.Common.{rules}
use Rattle.rules.specs.Numbers.{number_of}
use Rattle.rules.specs.Calls.{refusal}
use Rattle.calls.specs.Called.{answer_of}
use Rattle.station.specs.Area.{lists_from, words_for}
use Rattle.station.specs.Result.{answered}
use Rattle.station.proofs.Framed.{short_result-framed, short_state-framed, made-framed, split-is}
use Rattle.station.proofs.on_area.Goals as goal

pub returns-in_default : goal.returns-in_default
unfolding number_of
returns-in_default g c = rw c.number.ensures (short_result-framed _ _ _ _ c.in_default.ensures.cases)

pub returns-in_default-first_chunk_mut : goal.returns-in_default-first_chunk_mut
unfolding answered answer_of refusal number_of
returns-in_default-first_chunk_mut g c =
    let told = c.tell.ensures in
    short_state-framed _ _ _ _ _ _ c.in-Some.ensures.cases.enough c.in_default-first_chunk_mut.ensures.cases (rw told.res_after refl) told.value

pub returns : goal.returns
unfolding answered words_for
returns g c =
    let area = c.in-Some-first_chunk_mut.area.now in
    let front = c.in-Some-first_chunk_mut.ensures.cases in
    let told = c.tell-2.ensures in
    let numbers : c.unwrap.result.0.now ≡ take lists_from area = search rules in
    let lists : c.unwrap-lists.result.now ≡ drop lists_from area = search rules in
    made-framed _ _ _ _ _ _ _ _ c.in-Some.ensures.cases.enough front.enough (record {
      lent = _;
      left = _;
      answer = c.call-answer.result;
      reads = split-is c.args.state.now area c.unwrap.result.0.now c.unwrap-lists.result.now c.state_in-held.result front.same numbers lists c.state_in-held.ensures;
      called = c.call-answer.ensures;
      state_is = rw c.numbers_of.ensures refl;
      result_is = rw told.res_after refl;
      number_is = told.value;
    })
