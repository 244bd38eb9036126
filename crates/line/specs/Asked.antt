-- What the routines on the line ask of their numbers.
use Rattle.std.specs.Prelude.{ℕ, ◌<◌, ◌≤◌}
use Rattle.rules.specs.Station.{grains, longest_period}

-- "Cutting a slice of length D ticks after its first d ticks (0 < d < D)". A slice is no longer than a period.
pub record Cut (part span : ℕ) : Type 0 where
  pub some : 0 < part
  pub less : part < span
  pub most : span ≤ longest_period

-- A slice of T grains, x grains after the plan start.
pub record Lower (T x : ℕ) : Type 0 where
  pub some : 0 < T
  pub most : T ≤ grains longest_period
  pub within : x ≤ T
