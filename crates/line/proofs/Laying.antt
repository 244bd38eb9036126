-- A loop that lays a row again along φ, in place: what is there, and what laying the rest would give, are the row asked for.
-- It starts with nothing laid, and a turn is the clause of `relaid`. Where φ and ψ make the line whole, one turn of φ gives ψ's.
use mathlib.Core.Path.{◌≡◌, refl}
use mathlib.Core.List.{List, [], ◌∷◌, ◌++◌, append_assoc, append-nil}
use Prim.Native.Nat.{ℕ, zero, suc, ◌+◌, ◌-◌, ◌<◌, ◌≤◌}
use native.Mathlib.Numerals.{add-one}
use native.Mathlib.Omega.{arith}
use lib.ListN.{length, take, drop, get_or, set, drop_of_length-le}
use lib.Seq.{drop-cons, take-suc-set, drop-set-lt, take_all}
use Rattle.rules.specs.Slices.{relaid}
use Rattle.rules.proofs.Relaid.{Halves}

-- after i turns the first i words are laid, and e is where the line stands
pub record Laying (φ : ℕ → ℕ) (laid : List ℕ) (i e : ℕ) (row : List ℕ) : Type 0 where
  pub is : take i row ++ relaid φ e (drop i row) ≡ laid

pub laying_none : (φ : ℕ → ℕ) (row : List ℕ) → Laying φ (relaid φ 0 row) 0 0 row
laying_none φ row = record { is = refl }

pub laying_more : {φ : ℕ → ℕ} {laid row : List ℕ} {i e : ℕ} → Laying φ laid i e row → (s v : ℕ) → i < length row → s ≡ get_or row i 0 → v ≡ φ (e + s) - φ e
    → Laying φ laid (i + 1) (e + s) (set row i v)
unfolding relaid
laying_more {row = row} {i = i} m s v h at is = record {
  is = rw (add-one, take-suc-set row i v h, drop-set-lt (suc i) row i v (omega arith), append_assoc, is, at) (rw (drop-cons row i 0 h) at m.is);
}

pub laying_all : {φ : ℕ → ℕ} {laid row : List ℕ} {i e : ℕ} → Laying φ laid i e row → length row ≤ i → row ≡ laid
unfolding relaid
laying_all {row = row} {i = i} m h = simp (drop_of_length-le row h, take_all i row h, append-nil) at m.is

-- A share s from e on, with `was` and `to` what φ has before and after it: φ rises by no more than s, and ψ by the rest.
pub record Turn (ψ : ℕ → ℕ) (e s was to : ℕ) : Type 0 where
  pub up : was ≤ to
  pub slow : to ≤ was + s
  pub rest : s - (to - was) ≡ ψ (e + s) - ψ e

pub turn : {φ ψ : ℕ → ℕ} → Halves φ ψ → (e s : ℕ) → Turn ψ e s (φ e) (φ (e + s))
turn two e s =
    let up = two.first e (e + s) (omega arith) in
    let rest = two.second e (e + s) (omega arith) in
    record { up = up; slow = omega (arith, two.whole e, two.whole (e + s)); rest = omega (arith, two.whole e, two.whole (e + s)) }

-- a bound that all shares keep when one is set to less
pub small-set : {T : ℕ} (row : List ℕ) (i v : ℕ) → ((j : ℕ) → get_or row j 0 ≤ T) → v ≤ T → (j : ℕ) → get_or (set row i v) j 0 ≤ T
small-set [] i v small h j = omega arith
small-set (s ∷ ss) zero v small h zero = h
small-set (s ∷ ss) zero v small h (suc j) = small (suc j)
small-set (s ∷ ss) (suc i) v small h zero = small 0
small-set (s ∷ ss) (suc i) v small h (suc j) = small-set ss i v (λ k. small (suc k)) h j
