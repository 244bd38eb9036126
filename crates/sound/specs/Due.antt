-- What the check asks of all slices, beside deadlines counted from the plan start and rates, 64 numbers each.
use Rattle.std.specs.Prelude.{Bool, cond, ◌&&◌, ◌||◌, List, [], ◌∷◌, ℕ, ◌+◌, ◌-◌, ◌*◌, ◌≤◌, leb, ltb, eqb, length, take, drop}
use Rattle.rules.specs.Station.{Slice, grains, last_tick, longest_period, most_cores, slot_count, row_count, share_words, sum}
use Rattle.rules.specs.Sound.{every, each_slice}
use Rattle.rules.specs.Words.{rows_of, slices_of}
use Rattle.rows.specs.Row.{shares_fit, owed_in, hits_in}

-- what is asked of a row has what it needs: rates that together are small, and the share table
pub record Beside (rates words : List ℕ) : Type 0 where
  pub light : sum rates ≤ 4294967295
  pub long : share_words ≤ length words

-- what is asked of the slices has what it needs: cores and boundaries in range, and the share table
pub record Planning (cores count : ℕ) (words : List ℕ) : Type 0 where
  pub few-cores : cores ≤ most_cores
  pub few-rows : count ≤ row_count
  pub long : share_words ≤ length words

-- a slice from lo to `end` that ends within the longest period after the plan start and is no longer than it. In a sound table
-- each end is a deadline and no slice begins before the plan start, so only the first test says something; the others bound the rest
unfoldable pub within : ℕ → ℕ → ℕ → Bool
within start lo end = ltb lo end && (leb (end - start) longest_period && leb (end - lo) longest_period)

unfoldable pub slice_at : ℕ → List ℕ → Slice
slice_at end row = record { end = end; shares = row }

-- what is asked of a slice that is `long` ticks long: whether each share fits, and of all of them, added up, beside the rates that are
-- owed and the number of jobs that are due at its end
unfoldable pub row_test : Bool → ℕ → ℕ → ℕ → ℕ → Bool
row_test fits total long owed hits = every (fits ∷ leb total (long * owed) ∷ ltb 0 hits ∷ [])

-- the clauses of a sound table that speak of one slice, by what one pass over its row gives
unfoldable pub slice_check : ℕ → List ℕ → List ℕ → ℕ → Slice → Bool
slice_check start due rates lo s =
    within start lo s.end
    && row_test
    (shares_fit (s.end - start) (grains (s.end - lo)) due s.shares)
    (sum s.shares)
    (s.end - lo)
    (owed_in (s.end - start) due rates)
    (hits_in (s.end - start) due)

-- how many jobs are due at the slice's end
unfoldable pub slice_hits : ℕ → List ℕ → ℕ → Slice → ℕ
slice_hits start due lo s = cond (within start lo s.end) (hits_in (s.end - start) due) 0

unfoldable pub all_hits : ℕ → List ℕ → ℕ → List Slice → ℕ
all_hits start due lo [] = 0
all_hits start due lo (s ∷ ss) = slice_hits start due lo s + all_hits start due s.end ss

-- the clauses that speak of all slices, once each task is sound by itself: the load, the plan start where nothing is pending, each
-- slice, that as many jobs are due at the boundaries as are pending, and zeros past the last boundary and the last slice
unfoldable pub plan_test : ℕ → ℕ → ℕ → List ℕ → List ℕ → ℕ → List ℕ → List ℕ → Bool
plan_test cores clock start due rates count ends words =
    let slices = slices_of (take count ends) (rows_of row_count words) in
    every (
    leb (owed_in 0 due rates) (grains cores)
    ∷ (ltb (hits_in 0 due) slot_count || eqb start clock)
    ∷ each_slice (slice_check start due rates) start slices
    ∷ eqb (all_hits start due start slices) (slot_count - hits_in 0 due)
    ∷ eqb (sum (drop count ends)) 0
    ∷ eqb (sum (drop (slot_count * count) (take share_words words))) 0
    ∷ [])

unfoldable pub scalars_test : ℕ → ℕ → ℕ → ℕ → Bool
scalars_test cores clock start count = every (leb 1 cores ∷ leb cores most_cores ∷ leb clock last_tick ∷ leb start clock ∷ leb count row_count ∷ [])
