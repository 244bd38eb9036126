-- The reasons to refuse a call, by their numbers in document 01's table of refusals.
use Rattle.std.specs.Prelude.{ℕ, Result, Ok, Err}
use Rattle.rules.specs.declared.Refusal.{Refusal}
use Rattle.rules.specs.declared.Refusal.TheVariants.{NotSound, Cores, Period, Cost, SlotsFull, RatesFull, Slot, JobPending, RowsFull, BeyondLastTick, BeforeClock, SegmentsShort, Core}

unfoldable pub number_of : Refusal → ℕ
number_of NotSound = 1
number_of Cores = 2
number_of Period = 3
number_of Cost = 4
number_of SlotsFull = 5
number_of RatesFull = 6
number_of Slot = 7
number_of JobPending = 8
number_of RowsFull = 9
number_of BeyondLastTick = 10
number_of BeforeClock = 11
number_of SegmentsShort = 12
number_of Core = 13

-- the number of the reason that was found, or 0
unfoldable pub verdict : {A : Type 0} → Result A Refusal → ℕ
verdict (Ok a) = 0
verdict (Err r) = number_of r
