-- Marks by their two bytes, and the command that each gives.
use mathlib.Core.Path.{◌≡◌, refl, ap}
use mathlib.Core.Bool.{false}
use mathlib.Core.List.{List, [], ◌∷◌}
use Prim.Native.Nat.{ℕ}
use native.Mathlib.Omega.{arith}
use lib.ListN.{length, get_or}
use Rattle.std.specs.Prelude.{None}
use Rattle.rules.specs.Checked.{same}
use Rattle.rules.proofs.Floor.{by_bool}
use Rattle.text.specs.Grammar.{one_field, two_fields}
use Rattle.text.proofs.Joined.{same-is}

-- a piece of the two bytes a and b
pub mark_is : (m : List ℕ) (a b : ℕ) → length m ≡ 2 → get_or m 0 0 ≡ a → get_or m 1 0 ≡ b → m ≡ a ∷ (b ∷ [])
mark_is [] a b two first second = absurd (omega arith)
mark_is (x ∷ []) a b two first second = absurd (omega arith)
mark_is (x ∷ (y ∷ [])) a b two first second = rw (first, second) refl
mark_is (x ∷ (y ∷ (z ∷ zs))) a b two first second = absurd (omega arith)

-- and any other
other_mark : (m : List ℕ) (a b : ℕ) → (length m ≡ 2 → get_or m 0 0 ≡ a → get_or m 1 0 ≡ b → ⊥) → same m (a ∷ (b ∷ [])) ≡ false
other_mark m a b other =
    by_bool (same m (a ∷ (b ∷ [])))
    (λ t. let is = same-is m (a ∷ (b ∷ [])) t in absurd (other (ap length is) (ap (λ p. get_or p 0 0) is) (ap (λ p. get_or p 1 0) is)))
    (λ f. f)

-- no mark of a command with one number, and none of one with two
pub no_one_field : (m : List ℕ) (v : ℕ)
    → (length m ≡ 2 → get_or m 0 0 ≡ 67 → get_or m 1 0 ≡ 79 → ⊥)
    → (length m ≡ 2 → get_or m 0 0 ≡ 87 → get_or m 1 0 ≡ 68 → ⊥)
    → (length m ≡ 2 → get_or m 0 0 ≡ 82 → get_or m 1 0 ≡ 76 → ⊥)
    → (length m ≡ 2 → get_or m 0 0 ≡ 65 → get_or m 1 0 ≡ 68 → ⊥)
    → None ≡ one_field m v
unfolding one_field
no_one_field m v co wd rl ad = rw (other_mark m 67 79 co, other_mark m 87 68 wd, other_mark m 82 76 rl, other_mark m 65 68 ad) refl

pub no_two_fields : (m : List ℕ) (v w : ℕ) → (length m ≡ 2 → get_or m 0 0 ≡ 84 → get_or m 1 0 ≡ 75 → ⊥) → None ≡ two_fields m v w
unfolding two_fields
no_two_fields m v w tk = rw (other_mark m 84 75 tk) refl
