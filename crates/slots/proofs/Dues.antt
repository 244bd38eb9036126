-- Deadlines and rates side by side: the lists are as long as the tasks and have each task's number in its place.
use mathlib.Core.Path.{◌≡◌, refl, ap}
use mathlib.Core.List.{List, [], ◌∷◌}
use Prim.Native.Nat.{ℕ, zero, suc, ◌<◌}
use native.Mathlib.Omega.{arith}
use lib.ListN.{length, get_or}
use Rattle.rules.specs.declared.Task.{Task}
use Rattle.slots.specs.Tests.{due_from, dues_of, rates_of}

pub dues-long : (start : ℕ) (ks : List Task) → length (dues_of start ks) ≡ length ks
unfolding dues_of
dues-long start [] = refl
dues-long start (k ∷ ks) = ap suc (dues-long start ks)

pub rates-long : (ks : List Task) → length (rates_of ks) ≡ length ks
unfolding rates_of
rates-long [] = refl
rates-long (k ∷ ks) = ap suc (rates-long ks)

pub due_at : (start : ℕ) (ks : List Task) (i : ℕ) (none : Task) → i < length ks → get_or (dues_of start ks) i 0 ≡ due_from start (get_or ks i none).deadline
unfolding dues_of
due_at start [] i none h = omega arith
due_at start (k ∷ ks) zero none h = refl
due_at start (k ∷ ks) (suc i) none h = due_at start ks i none (omega arith)

pub rate_at : (ks : List Task) (i : ℕ) (none : Task) → i < length ks → get_or (rates_of ks) i 0 ≡ (get_or ks i none).rate
unfolding rates_of
rate_at [] i none h = omega arith
rate_at (k ∷ ks) zero none h = refl
rate_at (k ∷ ks) (suc i) none h = rate_at ks i none (omega arith)
