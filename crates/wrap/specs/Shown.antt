-- The segments that a window on the wrap shows, and a buffer with some of them written.
use Rattle.std.specs.Prelude.{◌≡◌, List, ◌++◌, ℕ, ◌+◌, ◌*◌, length, take, drop}
use Rattle.rules.specs.Station.{grains, longest_period}
use Rattle.rules.specs.Wrap.{Segment, Window, on_core, on_next, wrap, clip, clipped}
use Rattle.rules.specs.Words.{segments_flat}
use Rattle.wrap.specs.Asked.{Shown}
use Rattle.wrap.specs.declared.segments.Segment.{Segment as Held}
use Rattle.wrap.specs.declared.segments.Window.{Window as Looked}

-- the code's segment and window, as those of the rules
unfoldable pub segment_of : Held → Segment
segment_of g = record { core = g.core; slot = g.slot; first = g.first; after = g.after }

unfoldable pub window_of : Looked → Window
window_of w = record { base = w.base; from = w.from; to = w.to }

-- the window lies on a slice that is no longer than a period
abbrev pub Looks : Looked → Type 0
Looks w = Shown (grains longest_period) w

-- what a window shows of the wrap of a row, in slice 0 of T grains
unfoldable pub shown : ℕ → ℕ → ℕ → ℕ → List ℕ → List Segment
shown base from to T row = clipped (record { base = base; from = from; to = to }) (wrap T 0 0 row)

-- by the code's window
abbrev pub shown_in : Looked → ℕ → List ℕ → List Segment
shown_in w T row = shown w.base w.from w.to T row

-- what it shows of one slot, whose share s begins at e
unfoldable pub slot_shown : Window → ℕ → ℕ → ℕ → ℕ → List Segment
slot_shown w T slot e s = clip w (on_core T slot e s) ++ clip w (on_next T slot e s)

-- a buffer of which `count` segments stay, with gs after them
unfoldable pub written_from : ℕ → List Segment → List ℕ → List ℕ
written_from count gs buffer = take (4 * count) buffer ++ (segments_flat gs ++ drop (4 * (count + length gs)) buffer)

-- After the first `count` segments of a buffer gs were written, which makes r segments.
pub record Wrote (count : ℕ) (gs : List Segment) (old : List ℕ) (r : ℕ) (buffer : List ℕ) : Type 0 where
  pub count-is : r ≡ count + length gs
  pub words_are : buffer ≡ written_from count gs old
