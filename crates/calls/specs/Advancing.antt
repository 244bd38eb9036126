-- An advance where a job is pending.
use Rattle.std.specs.Prelude.{List, ℕ, ◌<◌, ◌≤◌, length, drop, get_or}
use Rattle.rules.specs.Station.{Table}
use Rattle.rules.specs.Advance.{at_boundary}
use Rattle.rules.specs.Calls.{segment_words}
use Rattle.rules.specs.Held.{Planner, table_of, ends_of}
use Rattle.calls.specs.Called.{Agrees}

-- a job is pending, the tick is not before the clock, and there is room for the segments
pub record Proceeds (p : Planner) (w : List ℕ) (tick : ℕ) (buffer : List ℕ) : Type 0 where
  pub agrees : Agrees p w
  pub some : 0 < p.state.count
  pub ahead : p.state.clock ≤ tick
  pub room : segment_words ≤ length buffer

-- the table at the first boundary
unfoldable pub crossed : Planner → List ℕ → Table
crossed p w = at_boundary (table_of p w) (get_or (ends_of p.lists) 0 0) (drop 1 (table_of p w).slices)
