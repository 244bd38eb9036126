-- At the plan start all rates are owed.
use mathlib.Core.Path.{◌≡◌, refl, ap}
use mathlib.Core.List.{List, [], ◌∷◌}
use Prim.Native.Nat.{◌+◌}
use native.Mathlib.Omega.{arith}
use borrow.Author.Tests.{le-leb}
use lib.ListN.{length}
use Prim.Native.Nat.{ℕ}
use Rattle.rules.specs.Station.{sum}
use Rattle.rows.specs.Row.{owed_in}

pub owed-sum : (due rates : List ℕ) → length due ≡ length rates → owed_in 0 due rates ≡ sum rates
unfolding owed_in sum
owed-sum [] [] h = refl
owed-sum [] (r ∷ rs) h = omega arith
owed-sum (d ∷ ds) [] h = omega arith
owed-sum (d ∷ ds) (r ∷ rs) h = rw (le-leb 0 d (omega arith)) (ap (λ n. r + n) (owed-sum ds rs (omega arith)))
