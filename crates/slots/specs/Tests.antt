-- The clauses of a sound table about each task, and what is written of the tasks side by side: deadlines counted from the plan start, and rates.
use Rattle.std.specs.Prelude.{Bool, ◌&&◌, List, [], ◌∷◌, ℕ, ◌-◌, ◌%◌, eqb}
use Rattle.rules.specs.declared.Task.{Task}
use Rattle.rules.specs.Sound.{every, lawful_test, in_time_test, unused_test}

-- "Slots not in use hold zeros."
unfoldable pub free_test : Task → Bool
free_test k = every (eqb k.period 0 ∷ eqb k.cost 0 ∷ eqb k.rate 0 ∷ eqb k.deadline 0 ∷ [])

-- the clauses of a sound table that speak of one task alone
unfoldable pub task_test : ℕ → ℕ → Task → Bool
task_test clock start k = lawful_test k && (in_time_test clock start k && unused_test k)

-- a deadline in ticks after the plan start, or 0 where it is not after it, in 32 bits: a sound job is due within a period
unfoldable pub due_from : ℕ → ℕ → ℕ
due_from start deadline = (deadline - start) % 4294967296

unfoldable pub dues_of : ℕ → List Task → List ℕ
dues_of start [] = []
dues_of start (k ∷ ks) = due_from start k.deadline ∷ dues_of start ks

unfoldable pub rates_of : List Task → List ℕ
rates_of [] = []
rates_of (k ∷ ks) = k.rate ∷ rates_of ks
