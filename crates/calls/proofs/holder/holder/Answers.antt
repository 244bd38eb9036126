-- `holder` refuses a table that is not sound, and otherwise looks at what is held.
-- A sound table's slice 0 can be looked at, and the answer is the rules' (`told_now`).
use mathlib.Core.Path.{◌≡◌, ◌∙◌}
use native.Mathlib.Omega.{arith}
use Rattle.std.proofs.Common.{rules, Err}
use Rattle.rules.specs.Held.{planner}
use Rattle.calls.proofs.Called.{unchecked, checked-agrees}
use Rattle.calls.proofs.Joint.{cores-range, first-end}
use Rattle.calls.proofs.First.{front}
use Rattle.calls.proofs.Looking.{told-unsound, told_now}
use Rattle.calls.proofs.holder.holder.Goals as goal

pub returns-in_err-checked : goal.returns-in_err-checked
returns-in_err-checked c =
    let at = c.args in
    let p = planner at.state at.lists.now in
    let same : c.from_residual.result ≡ Err c.in_err-checked.field-0.0 = search rules in
    let e = unchecked p at.shares.now c.checked.ensures c.in_err-checked.was in
    rw (same, e.1) (told-unsound p at.shares.now at.core e.0)

pub holder_in-requires : goal.holder_in-requires
holder_in-requires c =
    let at = c.args in
    let f = checked-agrees (planner at.state at.lists.now) at.shares.now c.checked.ensures (omega arith) c.in_ok-checked.was in
    record {
      cores_le_most_cores = cores-range f.1;
      front = λ some. rw (first-end at.lists.now) (front f.1 some);
    }

pub returns : goal.returns
returns c =
    let at = c.args in
    let f = checked-agrees (planner at.state at.lists.now) at.shares.now c.checked.ensures (omega arith) c.in_ok-checked.was in
    c.holder_in.ensures ∙ rw (first-end at.lists.now) (told_now f.0 f.1 at.core)
