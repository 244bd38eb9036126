-- The planner in words: a state area holds its five numbers and its lists, one after the other.
use Rattle.std.specs.Prelude.{List, [], ◌∷◌, ◌++◌, ℕ, ◌+◌, take, drop, get_or}
use Rattle.rules.specs.declared.State.{State}
use Rattle.rules.specs.Held.{Planner, planner, list_words}

-- 5 numbers and the words of the lists
abbrev pub lists_from : ℕ
lists_from = 5

abbrev pub state_words : ℕ
state_words = lists_from + list_words

-- The planner that a state area holds.
unfoldable pub state_in : List ℕ → State
state_in s = record { cores = get_or s 0 0; clock = get_or s 1 0; start = get_or s 2 0; used = get_or s 3 0; count = get_or s 4 0 }

unfoldable pub planner_in : List ℕ → Planner
planner_in s = planner (state_in s) (take list_words (drop lists_from s))

-- The 325 words of a planner.
unfoldable pub numbers_of : State → List ℕ
numbers_of s = s.cores ∷ (s.clock ∷ (s.start ∷ (s.used ∷ (s.count ∷ []))))

unfoldable pub words_for : Planner → List ℕ
words_for p = numbers_of p.state ++ p.lists
