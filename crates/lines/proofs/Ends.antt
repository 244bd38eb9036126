-- Where the first line of a piece ends: at the first newline, and no further than the piece.
use mathlib.Core.Path.{◌≡◌, refl}
use mathlib.Core.Bool.{Bool, true, false}
use mathlib.Core.List.{List, [], ◌∷◌}
use Prim.Native.Nat.{ℕ, ◌+◌, ◌≤◌}
use native.Mathlib.Numerals.{add-one}
use native.Mathlib.Omega.{arith}
use borrow.Author.Tests.{eq-eqb, ne_eqb}
use lib.Dec.{eqb}
use lib.ListN.{length}
use Rattle.lines.specs.Lines.{line_end, newline}

-- cases on a test
pub by_bool : {C : Type 0} (t : Bool) → (t ≡ true → C) → (t ≡ false → C) → C
by_bool true here next = here refl
by_bool false here next = next refl

pub end-within : (piece : List ℕ) → line_end piece ≤ length piece
unfolding line_end
end-within [] = omega arith
end-within (b ∷ bs) = by_bool (eqb b newline) (λ e. rw e (omega arith)) (λ e. rw e (omega (arith, end-within bs)))

-- a piece that begins with the newline
pub end_here : (b : ℕ) (bs : List ℕ) → b ≡ newline → line_end (b ∷ bs) ≡ 0
unfolding line_end
end_here b bs is = rw (eq-eqb b newline is)

-- and one that begins with another byte
pub end-next : (b : ℕ) (bs : List ℕ) → (b ≡ newline → ⊥) → line_end (b ∷ bs) ≡ line_end bs + 1
unfolding line_end
end-next b bs other = rw (ne_eqb b newline other, add-one)
