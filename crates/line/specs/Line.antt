-- A place on the line, kept as a core and the grains into that core's stretch.
use Rattle.std.specs.Prelude.{◌≡◌, ℕ, ◌+◌, ◌*◌, ◌<◌, ◌≤◌, min}
use Rattle.rules.specs.Station.{grains, longest_period, slot_count}
use Rattle.line.specs.declared.place.Place.{Place}

-- where it lies on a line that is cut every T grains
unfoldable pub on_line : ℕ → Place → ℕ
on_line T p = p.core * T + p.at

-- of the grains before it, those in the first x grains of the slice
unfoldable pub run_before : ℕ → Place → ℕ
run_before x p = p.core * x + min p.at x

-- A step from a place, one share along the line.
pub record Step (T : ℕ) (p : Place) (share : ℕ) : Type 0 where
  pub inside : p.at < T
  pub short : share ≤ T
  pub most : T ≤ grains longest_period
  pub far : p.core ≤ slot_count

-- The place at e, on one of the cores 0 to n.
pub record Along (T n e : ℕ) (p : Place) : Type 0 where
  pub inside : p.at < T
  pub far : p.core ≤ n
  pub is : on_line T p ≡ e
