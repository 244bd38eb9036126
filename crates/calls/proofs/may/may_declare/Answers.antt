-- `may_declare` asks for a sound table, and then for what a declare asks of the cores, the slots in use and the rates together.
use mathlib.Core.Path.{◌≡◌, sym, ◌∙◌}
use native.Mathlib.Omega.{arith}
use Rattle.std.proofs.Common.{rules}
use Rattle.rules.specs.Held.{planner}
use Rattle.calls.proofs.Called.{number-unchecked, checked-agrees}
use Rattle.rules.specs.Calls.{declare}
use Rattle.calls.proofs.Joint.{cores-range, load-range}
use Rattle.calls.proofs.Reasons.{declare-number}
use Rattle.calls.proofs.may.may_declare.Goals as goal

pub returns-in_err-checked : goal.returns-in_err-checked
returns-in_err-checked c =
    let at = c.args in
    let same : c.from_residual.result ≡ c.checked.result = search rules in
    rw same (number-unchecked (planner at.state at.lists.now) at.shares.now c.checked.ensures (declare at.period at.cost) c.in_err-checked.was)

pub load-requires : goal.load-requires
load-requires c =
    let at = c.args in
    let f = checked-agrees (planner at.state at.lists.now) at.shares.now c.checked.ensures (omega arith) c.in_ok-checked.was in
    omega (arith, load-range f.1)

pub declare_reason-requires : goal.declare_reason-requires
declare_reason-requires c =
    let at = c.args in
    let f = checked-agrees (planner at.state at.lists.now) at.shares.now c.checked.ensures (omega arith) c.in_ok-checked.was in
    record {
      cores_le_most_cores = cores-range f.1;
      load_bound = omega (arith, c.load.ensures, load-range f.1);
    }

pub returns : goal.returns
returns c =
    let at = c.args in
    let f = checked-agrees (planner at.state at.lists.now) at.shares.now c.checked.ensures (omega arith) c.in_ok-checked.was in
    c.declare_reason.ensures ∙ rw c.load.ensures (sym (declare-number f.0 f.1 at.period at.cost))
