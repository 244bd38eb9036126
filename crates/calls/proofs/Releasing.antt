-- A release that nothing refuses, and what is held after it. A sound table's slices are ready for the three steps, and the numbers, the
-- lists and the words that the steps leave are those of the released table.
use mathlib.Core.Path.{◌≡◌, refl, sym, ◌∙◌}
use mathlib.Core.Bool.{true, false, not}
use mathlib.Core.Logic.{◌⊎◌, inl, inr}
use mathlib.Core.List.{List, [], ◌++◌}
use Prim.Native.Nat.{ℕ, ◌+◌, ◌≤◌, ◌<◌}
use native.Mathlib.Omega.{arith}
use lib.Dec.{leb, ltb}
use lib.ListN.{length, drop, set, get_or}
use borrow.Author.Tests.{ltb-true, ltb-false, leb-false, not-false}
use Rattle.rules.specs.declared.State.{State}
use Rattle.rules.specs.declared.Task.{Task}
use Rattle.rules.specs.Station.{last_tick, slot_count, row_count, share_words, free, in_use, task_at, with_deadline}
use Rattle.rules.specs.Slices.{is_end, with_end}
use Rattle.rules.specs.Release.{lowered, given, deadline_of, released_slices, released}
use Rattle.rules.specs.Calls.{release, refusals, not_in_use, job_pending, accepted, done}
use Rattle.rules.specs.Held.{Planner, planner, table_of, table_at, is_sound_in, used_of, list_words, tasks_from, ends_of, tasks_of}
use Rattle.rules.proofs.Floor.{by_bool}
use Rattle.rules.proofs.Held.{slots_length, ends-lent, tasks-lent}
use Rattle.rules.proofs.Tasks.{lawful-rate, none_pending}
use Rattle.rules.proofs.Steps.{refused_none, or_none}
use Rattle.slots.specs.Lists.{Tasked}
use Rattle.slots.proofs.Used.{used-set}
use Rattle.plan.specs.declared.NewJob.{NewJob}
use Rattle.plan.specs.Planned.{Planned, slices_in}
use Rattle.plan.specs.Asked.{Replans}
use Rattle.plan.proofs.Planned.{planned-long}
use Rattle.plan.proofs.Replanned.{replans}
use Rattle.calls.specs.Called.{did, Holds, Agrees, answer_of, leaves, called, number_for}
use Rattle.calls.proofs.Joint.{left-held, written_none, used-held, planned-held}
use Rattle.calls.proofs.Called.{number-agrees, number-done}
use Rattle.calls.proofs.Slotted.{used_there}

-- the numbers after a release
abbrev pub planned : State → ℕ → State
planned s n = record { cores = s.cores; clock = s.clock; start = s.clock; used = s.used; count = n }

module _ (p : Planner) (w : List ℕ) (wide : length p.lists ≡ list_words) (slot : ℕ) (z : number_for p w (release slot) ≡ 0) where
  abbrev k : Task
  k = get_or (tasks_of p.lists) slot free

  abbrev d : ℕ
  d = p.state.clock + k.period

  fine : (is_sound_in p w ≡ true) × Agrees p w
  fine = number-agrees p w (release slot) wide z

  -- the slot's task is in use and has no job, and its deadline is in range and finds room
  pub record Free : Type 0 where
    pub agrees : Agrees p w
    pub inside : slot < slot_count
    pub used : 0 < k.period
    pub none : k.deadline ≡ 0
    pub range : d ≤ last_tick
    pub room : (is_end d (table_of p w).slices ≡ true) ⊎ (p.state.count < row_count)

  pub free-to : Free
  unfolding refusals not_in_use job_pending deadline_of task_at in_use table_of table_at slices_in number_for
  free-to =
      let a = fine.1 in
      let no = refused_none (refusals (length w) (table_of p w) (release slot)) (omega arith) (rw fine.0 at z) in
      let used = or_none (ltb 63 slot) (not (ltb 0 k.period)) no.1.0 in
      let ss = slices_in (ends_of p.lists) p.state.count w in
      record {
        agrees = a;
        inside = omega (arith, ltb-false 63 slot used.0);
        used = ltb-true 0 k.period (not-false (ltb 0 k.period) used.1);
        none = none_pending k no.1.1.0;
        range = ltb-false last_tick d no.1.1.1.0;
        room = by_bool (is_end d ss) (λ e. inl e) (λ e. let few : leb row_count (length ss) ≡ false = rw e at no.1.1.1.1.0 in inr (omega (arith, leb-false row_count (length ss) few, (planned-held a).number)));
      }

  abbrev job : NewJob
  job = record { slot = slot; rate = k.rate; deadline = d }

  -- the three steps can be done
  pub replans_now : Replans p.state (ends_of p.lists) w job
  unfolding table_of table_at task_at
  replans_now =
      let f = free-to in
      let a = f.agrees in
      let law = a.sound.lawful slot (used_there k f.used) in
      let within = law.period in
      let some = f.used in
      replans (table_of p w) a.sound p.state refl refl a.long a.holds.planned job f.inside f.none (lawful-rate k law) (omega arith) (omega arith) f.room

  -- the word of slots in use is as it was
  same-used : p.state.used ≡ used_of (set (tasks_of p.lists) slot (with_deadline k d))
  unfolding in_use with_deadline
  same-used = omega (arith, used-held fine.1, used-set (tasks_of p.lists) slot (with_deadline k d) (omega (arith, free-to.inside, slots_length p.lists)))

  -- what they leave, with the new deadline stored
  module _ {ends v : List ℕ} {n : ℕ}
      (got : Planned (given slot k.rate d p.state.clock (with_end d p.state.clock (lowered p.state.start p.state.clock (slices_in (ends_of p.lists) p.state.count w)))) ends n v) where
    abbrev back : List ℕ
    back = ends ++ drop tasks_from p.lists

    module _ {lists : List ℕ} (long : length lists ≡ list_words) (stored : Tasked back (set (tasks_of back) slot (with_deadline (get_or (tasks_of back) slot free) d)) lists) where
      released-holds : Holds (planner (planned p.state n) lists) v (released (table_of p w) slot)
      unfolding released released_slices deadline_of task_at table_of table_at slices_in
      released-holds =
          let bounds = planned-long got in
          record {
            lists = long;
            cores = refl;
            clock = refl;
            start = refl;
            used = same-used;
            tasks = stored.tasks ∙ rw (tasks-lent p.lists ends bounds);
            planned = rw (stored.ends, ends-lent p.lists ends bounds) got;
          }

      pub released-left : drop share_words v ≡ drop share_words w → leaves (planner (planned p.state n) lists) v [] (did d 0) ≡ called p w [] (release slot)
      unfolding leaves answer_of accepted done deadline_of task_at table_of table_at
      released-left past =
          left-held released-holds w [] [] [] (record { number = 0; value = d; count = 0 }) past (sym (written_none []))
          ∙ number-done p w (release slot) wide [] z
