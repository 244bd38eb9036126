-- What each call leaves in the words that a station lends.
use Rattle.std.specs.Prelude.{cond, List, [], ◌++◌, ℕ, zero, suc, ltb, length, drop}
use Rattle.rules.specs.Station.{slot_count}
use Rattle.rules.specs.Advance.{Holding, held, idle_until, idle}
use Rattle.rules.specs.Calls.{Answer, Call, refusal}
use Rattle.calls.specs.Called.{Left, called, opening}
use Rattle.calls.specs.Holding.{told}
use Rattle.station.specs.Area.{state_words, planner_in, words_for}
use Rattle.station.specs.Result.{result_words, answered}

-- What a call leaves: the four areas lent, and the number that it answers.
pub record Lent : Type 0 where
  pub state : List ℕ
  pub shares : List ℕ
  pub segments : List ℕ
  pub result : List ℕ
  pub number : ℕ

abbrev pub lent : List ℕ → List ℕ → List ℕ → List ℕ → ℕ → Lent
lent state shares segments result number = record { state = state; shares = shares; segments = segments; result = result; number = number }

-- First the areas' lengths: a result area that is too short is left as it is, and a state area that is too short is refusal 1.
unfoldable pub lengths_first : List ℕ → List ℕ → List ℕ → List ℕ → Lent → Lent
lengths_first state shares segments result then =
    cond (ltb (length result) result_words) (lent state shares segments result 1)
    (cond (ltb (length state) state_words) (lent state shares segments (answered (refusal 1) result) 1) then)

-- What the call leaves, with its planner in the state area; the words past it stay.
unfoldable pub left_in : Left → List ℕ → List ℕ → List ℕ → List ℕ → Lent
left_in l state shares segments result =
    lengths_first state shares segments result (lent (words_for l.planner ++ drop state_words state) l.words l.buffer (answered l.answer result) l.answer.number)

-- Declare, withdraw, release and advance, on the planner that the state area holds.
unfoldable pub stationed : List ℕ → List ℕ → List ℕ → List ℕ → Call → Lent
stationed state shares segments result call = left_in (called (planner_in state) shares segments call) state shares segments result

-- Open: what the state area holds is not asked for, and stays where open is refused.
unfoldable pub opened_in : List ℕ → List ℕ → List ℕ → ℕ → Lent
opened_in state shares result cores = left_in (opening (planner_in state) shares cores) state shares [] result

-- Holder's three cases as value and count: the slot and the grain at which its segment ends; 64 for idle, with the grain at which slice 0
-- ends, or 0 without a limit.
unfoldable pub holding_words : Holding → Answer
holding_words (held slot until) = record { number = 0; value = slot; count = until }
holding_words (idle_until grain) = record { number = 0; value = slot_count; count = grain }
holding_words idle = record { number = 0; value = slot_count; count = 0 }

unfoldable pub told_words : ℕ → Holding → Answer
told_words zero h = holding_words h
told_words (suc n) h = refusal (suc n)

-- Holder: writes the result area alone.
unfoldable pub holder_in : List ℕ → List ℕ → List ℕ → ℕ → Lent
holder_in state shares result core =
    let t = told (planner_in state) shares core in
    lengths_first state shares [] result (lent state shares [] (answered (told_words t.number t.holding) result) t.number)
