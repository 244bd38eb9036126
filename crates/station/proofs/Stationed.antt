-- How a call comes out: a result area that is too short, a state area that is too short, or what the call leaves of the planner that the
-- area holds.
use mathlib.Core.List.{List, [], ◌++◌}
use mathlib.Core.Path.{◌≡◌}
use Prim.Native.Nat.{ℕ, ◌≤◌, ◌<◌}
use native.Mathlib.Omega.{arith}
use lib.ListN.{length, drop, length-drop}
use lib.Seq.{length-take-le}
use borrow.Author.Tests.{lt-ltb, le-ltb}
use Rattle.rules.proofs.Floor.{by_lt}
use Rattle.std.proofs.Common.{Result}
use Rattle.std.specs.Fn.{Mut, Called}
use Rattle.rules.specs.declared.Refusal.{Refusal}
use Rattle.rules.specs.Calls.{refusal}
use Rattle.rules.specs.Held.{Planner, planner, list_words}
use Rattle.wrap.specs.Holding.{Told}
use Rattle.calls.specs.declared.Done.{Done}
use Rattle.calls.specs.Called.{Left, leaves}
use Rattle.calls.specs.Holding.{told}
use Rattle.station.specs.Area.{state_words, lists_from, planner_in}
use Rattle.station.specs.Result.{result_words, answer_words, answered}
use Rattle.station.specs.Station.{Lent, lent, lengths_first, left_in, told_words, holder_in}
use Rattle.station.specs.Frame.{Loan, Framed}

-- the areas' lengths
module _ (state shares segments result : List ℕ) (then : Lent) where
  pub short-result : length result < result_words → lent state shares segments result 1 ≡ lengths_first state shares segments result then
  unfolding lengths_first
  short-result short = rw (lt-ltb (length result) result_words short)

  pub short-state : result_words ≤ length result → length state < state_words → lent state shares segments (answered (refusal 1) result) 1 ≡ lengths_first state shares segments result then
  unfolding lengths_first
  short-state room short = rw (le-ltb (length result) result_words room, lt-ltb (length state) state_words short)

  pub long_enough : result_words ≤ length result → state_words ≤ length state → then ≡ lengths_first state shares segments result then
  unfolding lengths_first
  long_enough room long = rw (le-ltb (length result) result_words room, le-ltb (length state) state_words long)

-- the lists of an area that is long enough
pub planner_wide : (s : List ℕ) → state_words ≤ length s → length (planner_in s).lists ≡ list_words
unfolding planner_in
planner_wide s long = length-take-le list_words (drop lists_from s) (omega (arith, length-drop lists_from s))

-- What a call on the areas leaves in the words lent: `made` says what it leaves of the planner that it is lent.
module _ {F : Type 0} {g : Mut F Loan (Result Done Refusal × Loan)} {call call' : F} {state shares segments result state' shares' segments' result' : List ℕ} {number : ℕ} where
  pub framed-is : (made : Planner → Left) → Framed g call call' state result state' result' number
      → (call' ≡ call → (shares' ≡ shares) × (segments' ≡ segments))
      → ((lent left : Loan) (a : Result Done Refusal) → Called g call lent (a, left) call' → leaves (planner left.0.now left.1.0.now) shares' segments' a ≡ made (planner lent.0.now lent.1.0.now))
      → lent state' shares' segments' result' number ≡ left_in (made (planner_in state)) state shares segments result
  unfolding left_in leaves
  framed-is made framed still makes =
      by_lt (length result) result_words
      (λ short.
      let unmade = framed.short_result short in
      let kept = still unmade.call_same in
      rw (unmade.state_same, unmade.result_is, unmade.number_is, kept.0, kept.1) (short-result state shares segments result _ short))
      (λ room. by_lt (length state) state_words
      (λ short.
      let unmade = framed.short_state room short in
      let kept = still unmade.call_same in
      rw (unmade.state_same, unmade.result_is, unmade.number_is, kept.0, kept.1) (short-state state shares segments result _ room short))
      (λ long.
      let m = framed.long room long in
      let left = makes m.lent m.left m.answer m.called in
      rw (m.state_is, m.result_is, m.number_is, ← m.reads, ← left) (long_enough state shares segments result _ room long)))

-- Holder: what it tells, in the words lent.
pub held-is : (state shares result : List ℕ) → result_words ≤ length result → state_words ≤ length state → (core : ℕ) (t : Told) → t ≡ told (planner_in state) shares core
    → lent state shares [] (answer_words (told_words t.number t.holding) ++ drop result_words result) t.number ≡ holder_in state shares result core
unfolding holder_in answered
held-is state shares result room long core t e = rw e (long_enough state shares [] result _ room long)
