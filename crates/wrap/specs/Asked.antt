-- What the routines on the wrap ask of slice 0, of a window on it, and of a segment buffer.
use Rattle.std.specs.Prelude.{List, ℕ, ◌<◌, ◌≤◌, length, get_or}
use Rattle.rules.specs.Calls.{segment_words}
use Rattle.rules.specs.Station.{grains, last_tick, longest_period}
use Rattle.wrap.specs.declared.segments.Window.{Window}

-- Slice 0, of T grains, and its row. A slice is no longer than a period, and "each share is at most 1,000 times its slice's length".
pub record Laid (T : ℕ) (row : List ℕ) : Type 0 where
  pub some : 0 < T
  pub most : T ≤ grains longest_period
  pub small : (i : ℕ) → get_or row i 0 ≤ T

-- A window on slice 0, of T grains.
pub record Shown (T : ℕ) (w : Window) : Type 0 where
  pub order : w.from ≤ w.to
  pub within : w.to ≤ T
  pub early : w.base ≤ grains last_tick

-- "At most 79 exist."
abbrev pub most_segments : ℕ
most_segments = 79

-- A segment buffer in which n segments stand, or are to stand.
pub record Room (buffer : List ℕ) (n : ℕ) : Type 0 where
  pub words : segment_words ≤ length buffer
  pub most : n ≤ most_segments
