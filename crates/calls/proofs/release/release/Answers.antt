-- `release` leaves what the rules say: everything as it was with the reason, or the released table.
-- That there is no reason is all that the steps of a release ask.
use mathlib.Core.Path.{◌≡◌}
use mathlib.Core.List.{[]}
use native.Mathlib.Omega.{arith}
use Rattle.std.proofs.Common.{rules, Err, length}
use Rattle.rules.specs.Held.{planner}
use Rattle.rules.specs.Calls.{release}
use Rattle.rules.specs.Held.{ends_of}
use Rattle.calls.proofs.Called.{err-left, none-is, one-is}
use Rattle.calls.proofs.Joint.{clock-range, period-range}
use Rattle.calls.proofs.Releasing.{free-to, replans_now, released-left}
use Rattle.calls.proofs.release.release.Goals as goal

pub returns-in_err-may_release : goal.returns-in_err-may_release
returns-in_err-may_release c =
    let at = c.args in
    let same : c.from_residual.result ≡ Err c.in_err-may_release.field-0.0 = search rules in
    let number = one-is c.may_release.ensures c.in_err-may_release.was in
    rw same (err-left (planner at.state.now at.lists.now) at.shares.now (release at.slot) (omega arith) c.in_err-may_release.field-0.0 number [])

pub task_in-task-requires : goal.task_in-task-requires
task_in-task-requires c =
    let at = c.args in
    (free-to (planner at.state.now at.lists.now) at.shares.now (omega arith) at.slot (none-is c.may_release.ensures c.in_ok-may_release.was)).inside

pub overflow_add-deadline : goal.overflow_add-deadline
overflow_add-deadline c =
    let at = c.args in
    let a = (free-to (planner at.state.now at.lists.now) at.shares.now (omega arith) at.slot (none-is c.may_release.ensures c.in_ok-may_release.was)).agrees in
    omega (arith, clock-range a, rw (← c.task_in-task.ensures) at (period-range a at.slot))

pub replan-count-requires : goal.replan-count-requires
unfolding ends_of
replan-count-requires c =
    let at = c.args in
    let ends : c.unwrap-ends.result.now ≡ ends_of at.lists.now = search rules in
    rw (ends, c.task_in-task.ensures) (replans_now (planner at.state.now at.lists.now) at.shares.now (omega arith) at.slot (none-is c.may_release.ensures c.in_ok-may_release.was))

pub put_deadline-requires : goal.put_deadline-requires
put_deadline-requires c =
    let at = c.args in
    let got = c.replan-count in
    (free-to (planner at.state.now at.lists.now) at.shares.now (omega arith) at.slot (none-is c.may_release.ensures c.in_ok-may_release.was)).inside

pub returns : goal.returns
unfolding ends_of
returns c =
    let at = c.args in
    let p = planner at.state.now at.lists.now in
    let task = c.task_in-task.ensures in
    let got = c.replan-count in
    let put = c.put_deadline in
    let ends : c.unwrap-ends.result.now ≡ ends_of at.lists.now = search rules in
    let plan = rw (ends, task) at got.ensures.planned in
    let long : length put.new.lists ≡ 320 = search rules in
    rw task (released-left p at.shares.now (omega arith) at.slot (none-is c.may_release.ensures c.in_ok-may_release.was) plan long (rw task at put.ensures) got.ensures.shares_unchanged)
