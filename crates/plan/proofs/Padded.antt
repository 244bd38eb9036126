-- Slices held in n places: a number or a row for each of them, and then the same filler to the end.
-- Boundaries and rows are both held so, and what a place or a slice more or fewer does to either is said once.
use mathlib.Core.Path.{◌≡◌, refl, ap}
use mathlib.Core.List.{List, [], ◌∷◌, ◌++◌}
use Prim.Native.Nat.{ℕ, zero, suc, ◌-◌, ◌≤◌}
use native.Mathlib.Nat.{not-suc-le-zero, le_of_suc-le-suc}
use native.Mathlib.Omega.{arith}
use lib.ListN.{length, take, drop}
use Rattle.rules.specs.Station.{Slice, zeros}
use Rattle.rules.specs.Words.{rows_in}
use Rattle.rules.specs.Held.{ends_in}

-- P n ss has f of each of the slices ss, and then z, in n places
pub record Padded {A : Type 0} (f : Slice → A) (z : A) (P : ℕ → List Slice → List A) : Type 0 where
  pub none : (ss : List Slice) → P 0 ss ≡ []
  pub past : (n : ℕ) → P (suc n) [] ≡ z ∷ P n []
  pub next : (n : ℕ) (s : Slice) (ss : List Slice) → P (suc n) (s ∷ ss) ≡ f s ∷ P n ss

pub ends_padded : Padded (λ s. s.end) 0 ends_in
unfolding ends_in
ends_padded = record { none = λ ss. refl; past = λ n. refl; next = λ n s ss. refl }

pub rows_padded : Padded (λ s. s.shares) zeros rows_in
unfolding rows_in
rows_padded = record { none = λ ss. refl; past = λ n. refl; next = λ n s ss. refl }

module _ {A : Type 0} {f : Slice → A} {z : A} {P : ℕ → List Slice → List A} (p : Padded f z P) where
  pub padded_length : (n : ℕ) (ss : List Slice) → length (P n ss) ≡ n
  padded_length zero ss = rw (p.none ss)
  padded_length (suc n) [] = rw (p.past n) (ap suc (padded_length n []))
  padded_length (suc n) (s ∷ ss) = rw (p.next n s ss) (ap suc (padded_length n ss))

  -- one place fewer: one filler goes
  pub padded_fewer : (ss : List Slice) (n : ℕ) → length ss ≤ n → P n ss ≡ take (length ss) (P (suc n) ss) ++ drop (suc (length ss)) (P (suc n) ss)
  padded_fewer [] n h = rw (p.past n)
  padded_fewer (s ∷ ss) zero h = absurd (not-suc-le-zero h)
  padded_fewer (s ∷ ss) (suc n) h = rw (p.next n s ss, p.next (suc n) s ss) (ap (λ l. f s ∷ l) (padded_fewer ss n (le_of_suc-le-suc h)))

  -- one place more: one filler comes in behind the slices
  pub padded_more : (ss : List Slice) (n : ℕ) → length ss ≤ n → P (suc n) ss ≡ take (length ss) (P n ss) ++ (z ∷ drop (length ss) (P n ss))
  padded_more [] n h = p.past n
  padded_more (s ∷ ss) zero h = absurd (not-suc-le-zero h)
  padded_more (s ∷ ss) (suc n) h = rw (p.next (suc n) s ss, p.next n s ss) (ap (λ l. f s ∷ l) (padded_more ss n (le_of_suc-le-suc h)))

  -- the first slice dropped: the others move up by one
  pub padded_drop : (s : Slice) (ss : List Slice) (n : ℕ) → length ss ≤ n
      → P (suc n) ss ≡ take (suc (length ss) - 1) (drop 1 (P (suc n) (s ∷ ss))) ++ (z ∷ drop (suc (length ss)) (P (suc n) (s ∷ ss)))
  padded_drop s ss n h = let one : suc (length ss) - 1 ≡ length ss = omega arith in rw (p.next n s ss, one) (padded_more ss n h)

  -- as many other slices: the places behind them are the same
  pub padded_same : (ss ts : List Slice) (n : ℕ) → length ts ≡ length ss → length ss ≤ n → P n ts ≡ take (length ss) (P n ts) ++ drop (length ss) (P n ss)
  padded_same [] [] n e h = refl
  padded_same [] (t ∷ ts) n e h = absurd (omega arith)
  padded_same (s ∷ ss) [] n e h = absurd (omega arith)
  padded_same (s ∷ ss) (t ∷ ts) zero e h = absurd (not-suc-le-zero h)
  padded_same (s ∷ ss) (t ∷ ts) (suc n) e h = rw (p.next n t ts, p.next n s ss) (ap (λ l. f t ∷ l) (padded_same ss ts n (omega arith) (le_of_suc-le-suc h)))
