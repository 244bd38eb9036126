-- The first reason that refuses a call on a sound table, by the numbers that are held: 0 where there is none. The reasons stand in
-- document 01's order.
use Rattle.std.specs.Prelude.{Bool, false, cond, not, ◌&&◌, ◌||◌, List, [], ◌∷◌, ℕ, ◌+◌, ltb, eqb}
use Rattle.std.specs.Int.Count.{ones}
use Rattle.rules.specs.Station.{grains, last_tick, longest_period, slot_count, row_count, rate_of}
use Rattle.rules.specs.Calls.{segment_words}

-- a declare, by the cores, the word of slots in use and the rates of all tasks
unfoldable pub declare_number : ℕ → ℕ → ℕ → ℕ → ℕ → ℕ
declare_number cores used load period cost =
    cond (ltb period 1 || ltb longest_period period) 3
    (cond (eqb cost 0 || ltb (grains period) cost) 4
    (cond (eqb (ones used) slot_count) 5
    (cond (ltb (grains cores) (load + rate_of period cost)) 6 0)))

-- a slot, by the period and the deadline of its task
unfoldable pub task_number : ℕ → ℕ → ℕ
task_number period deadline = cond (eqb period 0) 7 (cond (ltb 0 deadline) 8 0)

-- d is one of some boundaries
unfoldable pub among : ℕ → List ℕ → Bool
among d [] = false
among d (e ∷ es) = eqb d e || among d es

-- a new job's deadline d, by the boundaries and their number
unfoldable pub due_number : ℕ → ℕ → List ℕ → ℕ
due_number d count ends = cond (ltb last_tick d) 10 (cond (eqb count row_count && not (among d ends)) 9 0)

-- an advance, by the clock, the tick and the words of the segment buffer
unfoldable pub advance_number : ℕ → ℕ → ℕ → ℕ
advance_number clock tick room = cond (ltb tick clock) 11 (cond (ltb last_tick tick) 10 (cond (ltb room segment_words) 12 0))
