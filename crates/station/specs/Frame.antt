-- The frame of a call on lent areas, whichever call it is: it is made on the planner in the state area, where both areas are long enough.
use Rattle.std.specs.Prelude.{◌≡◌, List, ◌++◌, ℕ, ◌<◌, ◌≤◌, length, drop, Result}
use Rattle.std.specs.Borrow.{MutBor}
use Rattle.std.specs.Fn.{Mut, Called}
use Rattle.rules.specs.declared.Refusal.{Refusal}
use Rattle.rules.specs.declared.State.{State}
use Rattle.rules.specs.Calls.{refusal}
use Rattle.rules.specs.Held.{planner}
use Rattle.calls.specs.declared.Done.{Done}
use Rattle.calls.specs.Called.{answer_of}
use Rattle.station.specs.Area.{state_words, planner_in, words_for}
use Rattle.station.specs.Result.{result_words, answered}

-- what a call is lent: a state and lists
abbrev pub Loan : Type 0
Loan = MutBor State × (MutBor (List ℕ) × Unit {0})

-- A call on a state area and a result area: the call and the areas before and after it, and the number that is answered.
module _ {F : Type 0} (g : Mut F Loan (Result Done Refusal × Loan)) (call call' : F) (state result state' result' : List ℕ) (number : ℕ) where
  -- no call is made: it is as it was, and so is the state area
  pub record Unmade (told : List ℕ) : Type 0 where
    pub call_same : call' ≡ call
    pub state_same : state' ≡ state
    pub result_is : result' ≡ told
    pub number_is : number ≡ 1

  -- the call is made on the planner in the area, and what it leaves is stored there
  pub record Made : Type 0 where
    pub lent : Loan
    pub left : Loan
    pub answer : Result Done Refusal
    pub reads : planner lent.0.now lent.1.0.now ≡ planner_in state
    pub called : Called g call lent (answer, left) call'
    pub state_is : state' ≡ words_for (planner left.0.now left.1.0.now) ++ drop state_words state
    pub result_is : result' ≡ answered (answer_of answer) result
    pub number_is : number ≡ (answer_of answer).number

  -- first the areas' lengths, and then the call
  pub record Framed : Type 0 where
    pub short_result : length result < result_words → Unmade result
    pub short_state : result_words ≤ length result → length state < state_words → Unmade (answered (refusal 1) result)
    pub long : result_words ≤ length result → state_words ≤ length state → Made
