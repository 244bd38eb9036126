-- `withdraw` leaves what the rules say: everything as it was with the reason, or the slot free.
-- That there is no reason says that the slot is in use, so its bit is set.
use mathlib.Core.Path.{◌≡◌}
use mathlib.Core.List.{[]}
use native.Mathlib.Omega.{arith}
use Rattle.std.proofs.Common.{rules, Err}
use Rattle.rules.specs.Held.{planner}
use Rattle.rules.specs.Calls.{withdraw}
use Rattle.rules.specs.declared.Task.{Task}
use Rattle.rules.specs.Station.{free}
use Rattle.calls.proofs.Called.{err-left, none-is, one-is}
use Rattle.calls.proofs.Slotted.{withdrawn-inside, withdrawn_bit, withdrawn-left}
use Rattle.calls.proofs.tasks.withdraw.Goals as goal

pub returns-in_err-may_withdraw : goal.returns-in_err-may_withdraw
returns-in_err-may_withdraw c =
    let at = c.args in
    let same : c.from_residual.result ≡ Err c.in_err-may_withdraw.field-0.0 = search rules in
    let number = one-is c.may_withdraw.ensures c.in_err-may_withdraw.was in
    rw same (err-left (planner at.state.now at.lists.now) at.shares.now (withdraw at.slot) (omega arith) c.in_err-may_withdraw.field-0.0 number [])

pub put_task-requires : goal.put_task-requires
put_task-requires c =
    let at = c.args in
    withdrawn-inside (planner at.state.now at.lists.now) at.shares.now (omega arith) at.slot (none-is c.may_withdraw.ensures c.in_ok-may_withdraw.was)

pub bit_of-requires : goal.bit_of-requires
bit_of-requires c =
    let at = c.args in
    withdrawn-inside (planner at.state.now at.lists.now) at.shares.now (omega arith) at.slot (none-is c.may_withdraw.ensures c.in_ok-may_withdraw.was)

pub overflow_sub-state : goal.overflow_sub-state
overflow_sub-state c =
    let at = c.args in
    omega (arith, c.bit_of.ensures, withdrawn_bit (planner at.state.now at.lists.now) at.shares.now (omega arith) at.slot (none-is c.may_withdraw.ensures c.in_ok-may_withdraw.was))

pub returns : goal.returns
unfolding free
returns c =
    let at = c.args in
    let p = planner at.state.now at.lists.now in
    let put = c.put_task in
    let k = c.default.result in
    let e = c.default.ensures in
    let none : ◌≡◌ {A = Task} (record { period = k.period; cost = k.cost; rate = k.rate; deadline = k.deadline }) free = rw (e.0, e.1.0, e.1.1.0, e.1.1.1) in
    let z = none-is c.may_withdraw.ensures c.in_ok-may_withdraw.was in
    let bit = withdrawn_bit p at.shares.now (omega arith) at.slot z in
    withdrawn-left p at.shares.now (omega arith) at.slot z _ (omega arith) (rw none at put.ensures) (omega (arith, c.bit_of.ensures))
