-- `tasks_sound` goes through the slots with what is left of the word of the slots in use, whose lowest bit is the slot's.
-- The laws of Slots.antt say what one slot does to that, and what is known after the last.
use mathlib.Core.Path.{◌≡◌, refl, sym, ap, ◌∙◌}
use mathlib.Core.Bool.{Bool, true, false, cond}
use native.Mathlib.Omega.{arith}
use lib.ListN.{get_or}
use Rattle.std.specs.Bool.{then_some}
use Rattle.std.proofs.Common.{Some, None}
use Rattle.rules.specs.Station.{free}
use Rattle.rules.specs.Held.{tasks_of}
use Rattle.rules.proofs.Held.{slots_length}
use Rattle.slots.specs.Tests.{due_from}
use Rattle.slots.specs.declared.test.Dues.{Dues}
use Rattle.slots.proofs.Slots.{slot_test, going_none, going_fails, going_more, going_done}
use Rattle.slots.proofs.test.tasks_sound.Goals as goal
use Rattle.slots.proofs.test.tasks_sound.Goals.{After-one_task}

pub loop-slot-init : goal.loop-slot-init
loop-slot-init c = going_none _ _ _ _ _ _ (omega arith) (omega arith)

-- the slot is asked by its task
asked : (c : After-one_task) → let k = c in let at = k.args in
    c.one_task.result ≡ slot_test at.state.clock at.state.start k.loop-slot.left (get_or (tasks_of at.lists.now) k.loop-slot.slot free)
asked c =
    let k = c in
    let at = k.args in
    c.one_task.ensures.value ∙ ap (slot_test at.state.clock at.state.start k.loop-slot.left) c.task_in-task.ensures

pub returns-then-not-one_task : goal.returns-then-not-one_task
returns-then-not-one_task c =
    let fails = sym (asked (goal.at.returns-then-not-one_task c).After-one_task) ∙ c.if-not-one_task.true in
    rw (sym (going_fails c.loop-slot.invariant (slots_length _) free (omega arith) fails))

-- a sound task's rate is small
pub overflow_cast-dues : goal.overflow_cast-dues
overflow_cast-dues c = omega (arith, c.one_task.ensures.rate_bound (c.if-not-one_task.false))

pub loop-slot-preserved : goal.loop-slot-preserved
loop-slot-preserved c =
    let at = c.args in
    let holds = sym (asked (goal.at.loop-slot-preserved c).After-one_task) ∙ c.if-not-one_task.false in
    let task = c.task_in-task.ensures in
    going_more c.loop-slot.invariant (slots_length _) free (omega arith) (omega arith) (omega arith) holds c.due_of.result c.task_in-task.result.rate
    (c.due_of.ensures ∙ ap (λ t. due_from at.state.start t.deadline) task)
    (ap (λ t. t.rate) task)

then_some-cond : (b : Bool) (dues : Dues) → then_some b dues ≡ cond b (Some dues) None
then_some-cond true dues = refl
then_some-cond false dues = refl

pub returns : goal.returns
returns c =
    let done = going_done c.loop-slot.invariant (slots_length _) (omega arith) (omega arith) (omega arith) in
    c.then_some.ensures ∙ rw (done.0, done.1, done.2) (then_some-cond _ _)
