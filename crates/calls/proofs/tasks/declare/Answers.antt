-- `declare` leaves what the rules say: everything as it was with the reason, or the new task in the lowest free slot.
-- That there is no reason says that a slot is free and its bit clear.
use mathlib.Core.Path.{◌≡◌, refl}
use mathlib.Core.List.{[]}
use native.Mathlib.Omega.{arith}
use Rattle.std.proofs.Common.{rules, Err}
use Rattle.rules.specs.Held.{planner}
use Rattle.rules.specs.declared.Task.{Task}
use Rattle.rules.specs.Calls.{declare}
use Rattle.calls.proofs.Called.{err-left, none-is, one-is}
use Rattle.calls.proofs.Slotted.{declared-lawful, declared-slot, declared_bit, declared-left}
use Rattle.calls.proofs.tasks.declare.Goals as goal

pub returns-in_err-may_declare : goal.returns-in_err-may_declare
returns-in_err-may_declare c =
    let at = c.args in
    let same : c.from_residual.result ≡ Err c.in_err-may_declare.field-0.0 = search rules in
    let number = one-is c.may_declare.ensures c.in_err-may_declare.was in
    rw same (err-left (planner at.state.now at.lists.now) at.shares.now (declare at.period at.cost) (omega arith) c.in_err-may_declare.field-0.0 number [])

pub rate_of-requires : goal.rate_of-requires
rate_of-requires c =
    let at = c.args in
    omega (arith, declared-lawful (planner at.state.now at.lists.now) at.shares.now (omega arith) at.period at.cost (none-is c.may_declare.ensures c.in_ok-may_declare.was))

pub put_task-requires : goal.put_task-requires
put_task-requires c =
    let at = c.args in
    declared-slot (planner at.state.now at.lists.now) at.shares.now (omega arith) at.period at.cost (none-is c.may_declare.ensures c.in_ok-may_declare.was) c.lowest_free-slot.result c.lowest_free-slot.ensures

pub bit_of-requires : goal.bit_of-requires
bit_of-requires c =
    let at = c.args in
    declared-slot (planner at.state.now at.lists.now) at.shares.now (omega arith) at.period at.cost (none-is c.may_declare.ensures c.in_ok-may_declare.was) c.lowest_free-slot.result c.lowest_free-slot.ensures

pub overflow_add-state : goal.overflow_add-state
overflow_add-state c =
    let at = c.args in
    let p = planner at.state.now at.lists.now in
    let z = none-is c.may_declare.ensures c.in_ok-may_declare.was in
    let lawful = declared-lawful p at.shares.now (omega arith) at.period at.cost z in
    let k : Task = record { period = at.period; cost = at.cost; rate = c.rate_of.result; deadline = 0 } in
    omega (arith, c.bit_of.ensures, declared_bit p at.shares.now (omega arith) at.period at.cost z c.lowest_free-slot.result c.lowest_free-slot.ensures k (omega arith))

pub returns : goal.returns
returns c =
    let at = c.args in
    let p = planner at.state.now at.lists.now in
    let slot = c.lowest_free-slot in
    let put = c.put_task in
    declared-left p at.shares.now (omega arith) at.period at.cost (none-is c.may_declare.ensures c.in_ok-may_declare.was) slot.result slot.ensures _ _ (rw c.rate_of.ensures.value refl) (omega arith) put.ensures (rw c.bit_of.ensures refl)
