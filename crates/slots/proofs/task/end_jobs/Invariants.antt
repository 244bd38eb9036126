-- `end_jobs` ends the jobs with deadline d, slot by slot: after i turns the first i tasks are those of `ended`.
-- The deadline that a turn reads is still the one that came in.
use mathlib.Core.List.{List}
use mathlib.Core.Path.{◌≡◌}
use Prim.Native.Nat.{ℕ, ◌≤◌}
use Rattle.rules.specs.Advance.{ended}
use Rattle.rules.specs.Held.{ends_of, tasks_of}
use Rattle.rows.proofs.Moves.{Mixed}
use Rattle.slots.proofs.task.end_jobs.Given as goal

pub record Ending (d : ℕ) (was : List ℕ) (i : ℕ) (lists : List ℕ) : Type 0 where
  pub within : i ≤ 64
  pub tasks : Mixed (ended d (tasks_of was)) (tasks_of was) i (tasks_of lists)
  pub ends : ends_of lists ≡ ends_of was

abbrev pub invariant-loop-slot : goal.invariant-loop-slot
invariant-loop-slot l = Ending l.d l.initial.lists l.slot l.lists
