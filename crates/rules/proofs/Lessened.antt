-- A row less another, share by share.
use mathlib.Core.List.{List, [], ◌∷◌}
use mathlib.Core.Path.{◌≡◌, refl, ap, ◌∙◌}
use Prim.Native.Nat.{ℕ, zero, suc, ◌+◌, ◌-◌, ◌<◌}
use native.Mathlib.Nat.{not-suc-le-zero, le_of_suc-le-suc, add-zero}
use native.Mathlib.Omega.{arith}
use lib.ListN.{length, get_or}
use Rattle.rules.specs.Slices.{less}

pub less-length : (by : ℕ → ℕ) (slot : ℕ) (row : List ℕ) → length (less by slot row) ≡ length row
unfolding less
less-length by slot [] = refl
less-length by slot (s ∷ ss) = ap suc (less-length by (suc slot) ss)

pub less_at : (by : ℕ → ℕ) (slot : ℕ) (row : List ℕ) (i : ℕ) → i < length row → get_or (less by slot row) i 0 ≡ get_or row i 0 - by (slot + i)
unfolding less
less_at by slot [] i h = absurd (not-suc-le-zero h)
less_at by slot (s ∷ ss) zero h = rw add-zero
less_at by slot (s ∷ ss) (suc i) h =
    let next : suc slot + i ≡ slot + suc i = omega arith in
    less_at by (suc slot) ss i (le_of_suc-le-suc h) ∙ rw next
