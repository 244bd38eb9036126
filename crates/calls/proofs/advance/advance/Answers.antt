-- `advance` leaves what the rules say: everything as it was with the reason; clock and plan start moved where nothing is pending; or
-- what `proceed` leaves.
use mathlib.Core.Path.{◌≡◌, sym, ◌∙◌}
use native.Mathlib.Omega.{arith}
use Rattle.std.proofs.Common.{rules, Err, length}
use Rattle.rules.specs.Held.{planner}
use Rattle.rules.specs.Calls.{advance}
use Rattle.calls.proofs.Called.{err-left, number-agrees, number-done, none-is, one-is}
use Rattle.calls.proofs.Reasons.{advance-number, advance_none}
use Rattle.calls.proofs.Onward.{rested}
use Rattle.calls.proofs.advance.advance.Goals as goal

pub returns-in_err-may_advance : goal.returns-in_err-may_advance
returns-in_err-may_advance c =
    let at = c.args in
    let same : c.from_residual.result ≡ Err c.in_err-may_advance.field-0.0 = search rules in
    let number = one-is c.may_advance.ensures c.in_err-may_advance.was in
    rw same (err-left (planner at.state.now at.lists.now) at.shares.now (advance at.tick (length at.segments.now)) (omega arith) c.in_err-may_advance.field-0.0 number at.segments.now)

pub returns-then-idle : goal.returns-then-idle
returns-then-idle c =
    let at = c.args in
    let p = planner at.state.now at.lists.now in
    let b = at.segments.now in
    let z = none-is c.may_advance.ensures c.in_ok-may_advance.was in
    rested (number-agrees p at.shares.now (advance at.tick (length b)) (omega arith) z).1 c.if-idle.true at.tick (length b) b
    ∙ number-done p at.shares.now (advance at.tick (length b)) (omega arith) b z

pub proceed-requires : goal.proceed-requires
proceed-requires c =
    let at = c.args in
    let room = length at.segments.now in
    let z = none-is c.may_advance.ensures c.in_ok-may_advance.was in
    let f = number-agrees (planner at.state.now at.lists.now) at.shares.now (advance at.tick room) (omega arith) z in
    let some = c.if-idle.false in
    let ahead = advance_none at.state.now.clock at.tick room (sym (advance-number f.0 f.1 at.tick room) ∙ z) in
    record { agrees = f.1; some = omega arith; ahead = ahead.0; room = ahead.2 }

pub returns : goal.returns
returns c =
    let at = c.args in
    let b = at.segments.now in
    c.proceed.ensures ∙ number-done (planner at.state.now at.lists.now) at.shares.now (advance at.tick (length b)) (omega arith) b (none-is c.may_advance.ensures c.in_ok-may_advance.was)
