-- `may_release` asks what a withdraw asks, and then for what its job's deadline meets.
use mathlib.Core.Path.{◌≡◌, sym, ◌∙◌}
use native.Mathlib.Omega.{arith}
use Rattle.std.proofs.Common.{rules}
use Rattle.rules.specs.Numbers.{verdict}
use Rattle.rules.proofs.Numbers.{number_some}
use Rattle.rules.specs.Calls.{withdraw}
use Rattle.rules.specs.Held.{planner, ends_of}
use Rattle.calls.proofs.Called.{number-agrees, none-is, one-is}
use Rattle.calls.proofs.Joint.{clock-range, period-range}
use Rattle.calls.proofs.Reasons.{withdraw-number, release-number, release_as}
use Rattle.calls.proofs.Slotted.{withdrawn-inside}
use Rattle.calls.proofs.may.may_release.Goals as goal

pub returns-in_err-may_withdraw : goal.returns-in_err-may_withdraw
unfolding verdict
returns-in_err-may_withdraw c =
    let at = c.args in
    let why = c.in_err-may_withdraw.field-0.0 in
    let same : c.from_residual.result ≡ c.may_withdraw.result = search rules in
    let number = one-is c.may_withdraw.ensures c.in_err-may_withdraw.was in
    rw (same, c.in_err-may_withdraw.was) (sym (release_as (planner at.state at.lists.now) at.shares.now (omega arith) at.slot _ number (λ z. omega (arith, number_some why))))

pub task_in-task-requires : goal.task_in-task-requires
task_in-task-requires c =
    let at = c.args in
    withdrawn-inside (planner at.state at.lists.now) at.shares.now (omega arith) at.slot (none-is c.may_withdraw.ensures c.in_ok-may_withdraw.was)

pub overflow_add-state : goal.overflow_add-state
overflow_add-state c =
    let at = c.args in
    let a = (number-agrees (planner at.state at.lists.now) at.shares.now (withdraw at.slot) (omega arith) (none-is c.may_withdraw.ensures c.in_ok-may_withdraw.was)).1 in
    omega (arith, clock-range a, rw (← c.task_in-task.ensures) at (period-range a at.slot))

pub returns : goal.returns
unfolding ends_of
returns c =
    let at = c.args in
    let p = planner at.state at.lists.now in
    let z = none-is c.may_withdraw.ensures c.in_ok-may_withdraw.was in
    let f = number-agrees p at.shares.now (withdraw at.slot) (omega arith) z in
    let inside = withdrawn-inside p at.shares.now (omega arith) at.slot z in
    let none = sym (withdraw-number f.0 f.1 at.slot (omega arith)) ∙ z in
    let ends : c.unwrap-ends.result.now ≡ ends_of at.lists.now = search rules in
    c.due_reason.ensures ∙ rw (ends, c.task_in-task.ensures) (sym (release-number f.0 f.1 at.slot (omega arith) none))
