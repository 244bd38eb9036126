-- `open` leaves what the rules say: everything as it was with the reason, or zeros but for the cores.
use mathlib.Core.Path.{◌≡◌, refl, ◌∙◌}
use mathlib.Core.List.{[]}
use native.Mathlib.Omega.{arith}
use Rattle.std.proofs.Common.{rules, Err, replicate}
use Rattle.rules.specs.Held.{planner, list_words}
use Rattle.rules.proofs.Numbers.{number_some}
use Rattle.calls.proofs.Called.{refused-left, none-is, one-is}
use Rattle.calls.proofs.Opening.{open_refused, open_room, open_done}
use Rattle.calls.proofs.open.open.Goals as goal

pub returns-in_err-open_reason : goal.returns-in_err-open_reason
returns-in_err-open_reason c =
    let at = c.args in
    let p = planner at.state.now at.lists.now in
    let r = c.in_err-open_reason.field-0.0 in
    let same : c.from_residual.result ≡ Err r = search rules in
    let number = one-is c.open_reason.ensures c.in_err-open_reason.was in
    rw same (refused-left r p at.shares.now [] ∙ open_refused p at.shares.now at.cores _ number (λ z. omega (arith, number_some r)))

pub clear_table-requires : goal.clear_table-requires
clear_table-requires c =
    let at = c.args in
    open_room (planner at.state.now at.lists.now) at.shares.now at.cores (none-is c.open_reason.ensures c.in_ok-open_reason.was)

pub returns : goal.returns
returns c =
    let at = c.args in
    let p = planner at.state.now at.lists.now in
    let zeros : c.fill.new.self ≡ replicate list_words 0 = c.fill.ensures.after (λ y h. search rules) ∙ rw c.told-lists refl in
    let e = c.default.ensures in
    rw (zeros, e.1.0, e.1.1.0, e.1.1.1.0, e.1.1.1.1) (open_done p at.shares.now at.cores (none-is c.open_reason.ensures c.in_ok-open_reason.was) c.clear_table.ensures)
