-- `load` adds up the rates: what is added so far and the rates of the slots left make the whole, so no sum is more than that.
use mathlib.Core.Path.{ap}
use native.Mathlib.Omega.{arith}
use Rattle.rules.specs.Held.{tasks_of}
use Rattle.rules.proofs.Held.{slots_length}
use Rattle.slots.proofs.Used.{rates-next, rates-done}
use Rattle.slots.proofs.task.load.Goals as goal

pub overflow_add-total : goal.overflow_add-total
overflow_add-total c =
    let ls = c.args.lists.now in
    omega (arith, ap (λ t. t.rate) c.task_in-total.ensures, rates-next (tasks_of ls) c.loop-slot.slot (omega (arith, slots_length ls)))

pub loop-slot-preserved : goal.loop-slot-preserved
loop-slot-preserved c =
    let ls = c.args.lists.now in
    (omega arith, omega (arith, ap (λ t. t.rate) c.task_in-total.ensures, rates-next (tasks_of ls) c.loop-slot.slot (omega (arith, slots_length ls))))

pub returns : goal.returns
returns c =
    let ls = c.args.lists.now in
    omega (arith, rates-done (tasks_of ls) c.loop-slot.slot (omega (arith, slots_length ls)))
