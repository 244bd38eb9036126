-- Tasks stored where they lie in the planner's lists.
use Rattle.std.specs.Prelude.{◌≡◌, List, ℕ}
use Rattle.rules.specs.declared.Task.{Task}
use Rattle.rules.specs.Held.{ends_of, tasks_of}

-- The lists v, which were w: their tasks are ks, and the boundaries are as they were.
pub record Tasked (w : List ℕ) (ks : List Task) (v : List ℕ) : Type 0 where
  pub tasks : tasks_of v ≡ ks
  pub ends : ends_of v ≡ ends_of w
