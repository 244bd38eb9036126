-- `may_withdraw` asks for a sound table, a slot from 0 to 63, and then for what its task says.
use mathlib.Core.Path.{◌≡◌, sym, ◌∙◌}
use native.Mathlib.Omega.{arith}
use Rattle.std.proofs.Common.{rules}
use Rattle.rules.specs.Held.{planner}
use Rattle.calls.proofs.Called.{number-unchecked, checked-agrees}
use Rattle.rules.specs.Numbers.{verdict, number_of}
use Rattle.rules.specs.Calls.{withdraw}
use Rattle.calls.proofs.Reasons.{withdraw-past, withdraw-number}
use Rattle.calls.proofs.may.may_withdraw.Goals as goal

pub returns-in_err-checked : goal.returns-in_err-checked
returns-in_err-checked c =
    let at = c.args in
    let same : c.from_residual.result ≡ c.checked.result = search rules in
    rw same (number-unchecked (planner at.state at.lists.now) at.shares.now c.checked.ensures (withdraw at.slot) c.in_err-checked.was)

pub returns-then-slot-gt-LAST_SLOT : goal.returns-then-slot-gt-LAST_SLOT
unfolding verdict number_of
returns-then-slot-gt-LAST_SLOT c =
    let at = c.args in
    let f = checked-agrees (planner at.state at.lists.now) at.shares.now c.checked.ensures (omega arith) c.in_ok-checked.was in
    sym (withdraw-past f.0 f.1 at.slot c.if-slot-gt-LAST_SLOT.true)

pub returns : goal.returns
returns c =
    let at = c.args in
    let f = checked-agrees (planner at.state at.lists.now) at.shares.now c.checked.ensures (omega arith) c.in_ok-checked.was in
    c.task_reason.ensures ∙ rw c.task_in.ensures (sym (withdraw-number f.0 f.1 at.slot c.if-slot-gt-LAST_SLOT.false))
