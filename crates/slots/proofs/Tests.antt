-- Tests joined: what code leaves in a flag for `a && b`, and tests of a sum.
-- Each law is a table of truth values, or goes by the facts that the tests stand for.
use mathlib.Core.Path.{◌≡◌, refl, sym, ◌∙◌}
use mathlib.Core.Bool.{Bool, true, false, ◌&&◌, and-eq-true_iff, true≢false}
use Prim.Native.Nat.{ℕ, ◌+◌}
use native.Mathlib.Omega.{arith}
use borrow.Author.Tests.{eq-eqb, eqb-true}
use lib.Bits.{bit_or, or_add_and, and_le_l, and_le_r}
use lib.Dec.{eqb}

-- four tests in another order
pub cross : (a b c d : Bool) → ((a && b) && (c && d)) ≡ ((a && c) && (b && d))
cross false b c d = refl
cross true false false d = refl
cross true false true d = refl
cross true true false d = refl
cross true true true d = refl

-- two tests that imply each other
pub same_bool : (a b : Bool) → (a ≡ true → b ≡ true) → (b ≡ true → a ≡ true) → a ≡ b
same_bool true b f g = sym (f refl)
same_bool false true f g = g refl
same_bool false false f g = refl

-- no test holds and fails
pub not_both : {b : Bool} → b ≡ true → b ≡ false → ⊥
not_both holds fails = true≢false (sym holds ∙ fails)

-- numbers that add up to zero
pub sum_zero : (a b : ℕ) → eqb (a + b) 0 ≡ (eqb a 0 && eqb b 0)
sum_zero a b =
    same_bool _ _
    (λ is. let e = eqb-true (a + b) 0 is in (and-eq-true_iff _ _).1 (eq-eqb a 0 (omega arith), eq-eqb b 0 (omega arith)))
    (λ h. let f = (and-eq-true_iff (eqb a 0) (eqb b 0)).0 h in let x = eqb-true a 0 f.0 in let y = eqb-true b 0 f.1 in eq-eqb (a + b) 0 (omega arith))

-- a bitwise or is zero where both numbers are: with what they share it makes their sum, and what they share is at most each of them
pub or_zero : (a b : ℕ) → eqb (bit_or a b) 0 ≡ (eqb a 0 && eqb b 0)
or_zero a b =
    let both = or_add_and a b in
    let left = and_le_l a b in
    let right = and_le_r a b in
    same_bool _ _
    (λ is. let e = eqb-true (bit_or a b) 0 is in (and-eq-true_iff _ _).1 (eq-eqb a 0 (omega arith), eq-eqb b 0 (omega arith)))
    (λ h. let f = (and-eq-true_iff (eqb a 0) (eqb b 0)).0 h in let x = eqb-true a 0 f.0 in let y = eqb-true b 0 f.1 in eq-eqb (bit_or a b) 0 (omega arith))
