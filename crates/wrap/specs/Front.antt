-- Slice 0 as it lies in the words, from the plan start to its end, with the clock in it.
use Rattle.std.specs.Prelude.{List, ℕ, ◌+◌, ◌-◌, ◌*◌, ◌≤◌, ◌<◌, length, take}
use Rattle.rules.specs.Station.{grains, last_tick, most_cores, slot_count, share_words, longest_period, sum}
use Rattle.rules.specs.Wrap.{Segment}
use Rattle.wrap.specs.Asked.{Laid}
use Rattle.wrap.specs.Shown.{shown}

-- its row is the first 64 words: what the wrap asks of them, and room for them on the cores
pub record Front (start clock end : ℕ) (w : List ℕ) : Type 0 where
  pub long : share_words ≤ length w
  pub begun : start ≤ clock
  pub range : clock ≤ last_tick
  pub ahead : clock < end
  pub soon : end ≤ start + longest_period
  pub laid : Laid (grains (end - start)) (take slot_count w)
  pub fits : sum (take slot_count w) ≤ most_cores * grains (end - start)

-- its segments from the clock to a tick
abbrev pub shown_to : ℕ → ℕ → ℕ → ℕ → List ℕ → List Segment
shown_to start clock end to w = shown (grains start) (grains (clock - start)) (grains (to - start)) (grains (end - start)) (take slot_count w)
