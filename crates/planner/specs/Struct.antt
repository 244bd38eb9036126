-- The planner that the struct holds.
use Rattle.std.specs.Prelude.{List, ℕ}
use Rattle.rules.specs.Held.{Planner, planner}
use Rattle.calls.specs.Called.{Left, leaves}
use Rattle.planner.specs.declared.Planner.{Planner as Struct}
use Rattle.planner.specs.declared.Next.{Next}

abbrev pub in_struct : Struct → Planner
in_struct p = planner p.state p.lists

-- what a method leaves
abbrev pub leaves_by : Next → List ℕ → List ℕ → Left
leaves_by r words buffer = leaves (in_struct r.planner) words buffer r.answer
