-- `may_advance` asks for a sound table, and then for the tick and the room for segments.
use mathlib.Core.Path.{◌≡◌, sym, ◌∙◌}
use native.Mathlib.Omega.{arith}
use Rattle.rules.specs.Held.{planner}
use Rattle.calls.proofs.Called.{number-unchecked, checked-agrees}
use Rattle.std.proofs.Common.{rules}
use Rattle.rules.specs.Calls.{advance}
use Rattle.calls.proofs.Reasons.{advance-number}
use Rattle.calls.proofs.may.may_advance.Goals as goal

pub returns-in_err-checked : goal.returns-in_err-checked
returns-in_err-checked c =
    let at = c.args in
    let same : c.from_residual.result ≡ c.checked.result = search rules in
    rw same (number-unchecked (planner at.state at.lists.now) at.shares.now c.checked.ensures (advance at.tick at.room) c.in_err-checked.was)

pub returns : goal.returns
returns c =
    let at = c.args in
    let f = checked-agrees (planner at.state at.lists.now) at.shares.now c.checked.ensures (omega arith) c.in_ok-checked.was in
    c.advance_reason.ensures ∙ sym (advance-number f.0 f.1 at.tick at.room)
