-- The three ways through the frame of a call, and the planner that a split area holds.
use mathlib.Core.List.{List}
use mathlib.Core.Path.{◌≡◌, refl}
use Prim.Native.Nat.{ℕ, ◌≤◌, ◌<◌}
use native.Mathlib.Omega.{arith}
use lib.ListN.{length, take, drop}
use Rattle.std.proofs.Common.{Result}
use Rattle.std.proofs.lemmas.List.{get_or-take, drop-take}
use Rattle.std.specs.Fn.{Mut}
use Rattle.rules.specs.declared.Refusal.{Refusal}
use Rattle.rules.specs.declared.State.{State}
use Rattle.rules.specs.Calls.{refusal}
use Rattle.rules.specs.Held.{planner, list_words}
use Rattle.calls.specs.declared.Done.{Done}
use Rattle.station.specs.Area.{state_words, lists_from, state_in, planner_in}
use Rattle.station.specs.Result.{result_words, answered}
use Rattle.station.specs.Frame.{Loan, Made, Framed}

module _ {F : Type 0} (g : Mut F Loan (Result Done Refusal × Loan)) (call : F) (state result : List ℕ) where
  pub short_result-framed : length result < result_words → Framed g call call state result state result 1
  short_result-framed short = record {
    short_result = λ l. record { call_same = refl; state_same = refl; result_is = refl; number_is = refl };
    short_state = λ room l. absurd (omega arith);
    long = λ room l. absurd (omega arith);
  }

  pub short_state-framed : (result' : List ℕ) (number : ℕ) → result_words ≤ length result → length state < state_words → result' ≡ answered (refusal 1) result → number ≡ 1
      → Framed g call call state result state result' number
  short_state-framed result' number room short told n = record {
    short_result = λ l. absurd (omega arith);
    short_state = λ r l. record { call_same = refl; state_same = refl; result_is = told; number_is = n };
    long = λ r l. absurd (omega arith);
  }

  pub made-framed : (call' : F) (state' result' : List ℕ) (number : ℕ) → result_words ≤ length result → state_words ≤ length state → Made g call call' state result state' result' number
      → Framed g call call' state result state' result' number
  made-framed call' state' result' number room long made = record {
    short_result = λ l. absurd (omega arith);
    short_state = λ r l. absurd (omega arith);
    long = λ r l. made;
  }

-- the numbers of an area's front are those of the area
state_front : (n : ℕ) (s : List ℕ) → lists_from ≤ n → state_in (take n s) ≡ state_in s
unfolding state_in
state_front n s some =
    rw (get_or-take n s 0 0 (omega arith), get_or-take n s 1 0 (omega arith), get_or-take n s 2 0 (omega arith), get_or-take n s 3 0 (omega arith), get_or-take n s 4 0 (omega arith)) refl

-- An area that is split into its numbers and its lists: they are the planner that it holds.
pub split-is : (s area numbers lists : List ℕ) (held : State) → area ≡ take state_words s → numbers ≡ take lists_from area → lists ≡ drop lists_from area → held ≡ state_in numbers
    → planner held lists ≡ planner_in s
unfolding planner_in
split-is s area numbers lists held a n l h =
    rw (h, n, l, a, state_front lists_from (take state_words s) (omega arith), state_front state_words s (omega arith), drop-take lists_from list_words s) refl
