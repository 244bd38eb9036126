-- `holder_at` finds who holds a core in a grain: as long as the shares end at or before that place on the line, the slots left decide.
-- The first whose share ends past it holds the core, and after the last slot nobody does.
use mathlib.Core.List.{List}
use Prim.Native.Nat.{ℕ, ◌+◌, ◌*◌, ◌≤◌}
use Rattle.rules.specs.Station.{slot_count}
use Rattle.wrap.proofs.Holds.{Left}
use Rattle.wrap.proofs.holder.holder_at.Given as goal

pub record Seeking (row : List ℕ) (T core grain end slot : ℕ) : Type 0 where
  pub within : slot ≤ slot_count
  pub small : end ≤ 4294967295 * slot
  pub before : end ≤ core * T + grain
  pub left : Left core grain T row slot end

abbrev pub invariant-loop-slot : goal.invariant-loop-slot
invariant-loop-slot l = Seeking l.row l.slice l.core l.grain l.end l.slot
