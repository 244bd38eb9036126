-- `load` adds up the rates: what is added so far and the rates of the slots left make the whole, so no sum is more than that.
use mathlib.Core.Path.{◌≡◌}
use Prim.Native.Nat.{◌+◌, ◌≤◌}
use lib.ListN.{drop}
use Rattle.rules.specs.Station.{rates}
use Rattle.rules.specs.Held.{tasks_of}
use Rattle.slots.proofs.task.load.Given as goal

abbrev pub invariant-loop-slot : goal.invariant-loop-slot
invariant-loop-slot l = (l.slot ≤ 64) × (l.total + rates (drop l.slot (tasks_of l.lists)) ≡ rates (tasks_of l.lists))
