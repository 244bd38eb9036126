-- Grains counted one by one: the count goes by who holds what, so two records that agree in the grains counted have one count, and a
-- count from a to c is that from a to b and that from b to c.
use mathlib.Core.Path.{◌≡◌, refl}
use mathlib.Core.List.{List}
use Prim.Native.Nat.{ℕ, zero, suc, ◌+◌, ◌-◌, ◌≤◌, ◌<◌}
use native.Mathlib.Nat.{add-zero, add-suc, add_assoc}
use native.Mathlib.Omega.{arith}
use borrow.Author.Tests.{ne_eqb}
use Rattle.rules.specs.Wrap.{Segment}
use Rattle.rules.specs.History.{held_at}
use Rattle.history.specs.Jobs.{held_by, cores_held, grains_in, grains_held}

module _ (k : ℕ) (xs ys : List Segment) where
  cores-same : (grain n : ℕ) → ((core : ℕ) → held_at xs core grain ≡ held_at ys core grain) → cores_held xs k grain n ≡ cores_held ys k grain n
  unfolding cores_held held_by
  cores-same grain zero same = refl
  cores-same grain (suc n) same = rw (cores-same grain n same, same n)

  in_same : (from n : ℕ) → ((core grain : ℕ) → from ≤ grain → grain < from + n → held_at xs core grain ≡ held_at ys core grain) → grains_in xs k from n ≡ grains_in ys k from n
  unfolding grains_in
  in_same from zero same = refl
  in_same from (suc n) same = rw (in_same from n (λ core grain a b. same core grain a (omega arith)), cores-same (from + n) 16 (λ core. same core (from + n) (omega arith) (omega arith)))

  pub grains-same : (from to : ℕ) → ((core grain : ℕ) → from ≤ grain → grain < to → held_at xs core grain ≡ held_at ys core grain) → grains_held xs k from to ≡ grains_held ys k from to
  unfolding grains_held
  grains-same from to same = in_same from (to - from) (λ core grain a b. same core grain a (omega arith))

module _ (k : ℕ) (xs : List Segment) where
  in_join : (from m n : ℕ) → grains_in xs k from (m + n) ≡ grains_in xs k from m + grains_in xs k (from + m) n
  unfolding grains_in
  in_join from m zero = rw (add-zero m) (omega arith)
  in_join from m (suc n) = rw (add-suc m n, in_join from m n, add_assoc from m n) (omega arith)

  pub grains_join : (a b c : ℕ) → a ≤ b → b ≤ c → grains_held xs k a c ≡ grains_held xs k a b + grains_held xs k b c
  unfolding grains_held
  grains_join a b c h g =
      let ticks : (b - a) + (c - b) ≡ c - a = omega arith in
      let place : a + (b - a) ≡ b = omega arith in
      rw (place, ticks) at (in_join a (b - a) (c - b))

  pub grains_none : (a : ℕ) → grains_held xs k a a ≡ 0
  unfolding grains_held grains_in
  grains_none a = let none : a - a ≡ 0 = omega arith in rw none

  -- a slot that holds nothing
  none_cores : (grain n : ℕ) → ((core : ℕ) → held_at xs core grain ≡ 0) → cores_held xs k grain n ≡ 0
  unfolding cores_held held_by
  none_cores grain zero none = refl
  none_cores grain (suc n) none = rw (none n, ne_eqb 0 (suc k) (λ q. omega arith)) (omega (arith, none_cores grain n none))

  none_in : (from n : ℕ) → ((core grain : ℕ) → held_at xs core grain ≡ 0) → grains_in xs k from n ≡ 0
  unfolding grains_in
  none_in from zero none = refl
  none_in from (suc n) none = omega (arith, none_in from n none, none_cores (from + n) 16 (λ core. none core (from + n)))

  pub grains-idle : (from to : ℕ) → ((core grain : ℕ) → held_at xs core grain ≡ 0) → grains_held xs k from to ≡ 0
  unfolding grains_held
  grains-idle from to none = none_in from (to - from) none
