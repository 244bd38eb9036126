-- `segments` writes the segments that the window shows: what stands, and what the slots from `slot` on would add, are those asked for.
-- At most 79 exist, so there is room for each slot's.
use mathlib.Core.Path.{◌≡◌}
use mathlib.Core.List.{List}
use Prim.Native.Nat.{ℕ, ◌<◌, ◌≤◌}
use lib.ListN.{length}
use Rattle.rules.specs.Station.{slot_count}
use Rattle.rules.specs.Wrap.{Segment, Window}
use Rattle.line.specs.declared.place.Place.{Place}
use Rattle.wrap.specs.Asked.{most_segments}
use Rattle.line.specs.Line.{on_line}
use Rattle.wrap.specs.Shown.{window_of, shown_in}
use Rattle.wrap.proofs.Shown.{Rest}
use Rattle.wrap.proofs.segments.segments.Given as goal

pub record Showing (T : ℕ) (w : Window) (row : List ℕ) (gs : List Segment) (old : List ℕ) (slot : ℕ) (place : Place) (count : ℕ) (buffer : List ℕ) : Type 0 where
  pub within : slot ≤ slot_count
  pub long : length buffer ≡ length old
  pub few : length gs ≤ most_segments
  pub inside : place.at < T
  pub far : place.core ≤ slot
  pub rest : Rest w T row gs old slot (on_line T place) count buffer

abbrev pub invariant-loop-slot : goal.invariant-loop-slot
invariant-loop-slot l =
    Showing l.slice (window_of l.window) l.row (shown_in l.window l.slice l.row) l.initial.buffer l.slot l.place l.count l.buffer
