-- `blank` is the planner of a fresh table with no core.
use mathlib.Core.Path.{◌≡◌}
use Rattle.rules.specs.declared.State.{State}
use Rattle.calls.specs.Called.{blank_planner}
use Rattle.calls.proofs.Opening.{fresh, fresh_planner}
use Rattle.planner.proofs.Planner.blank.Goals as goal

pub returns : goal.returns
unfolding blank_planner
returns c =
    let s = c.default.result in
    let e = c.default.ensures in
    let none : ◌≡◌ {A = State} (record { cores = s.cores; clock = s.clock; start = s.start; used = s.used; count = s.count }) (fresh 0) = rw (e.0, e.1.0, e.1.1.0, e.1.1.1.0, e.1.1.1.1) in
    rw none (fresh_planner 0)
