-- The loop of a cut's first part: how far it has come, and what a turn needs.
use mathlib.Core.Path.{◌≡◌, sym}
use mathlib.Core.List.{List}
use Prim.Native.Nat.{ℕ, ◌+◌, ◌*◌, ◌≤◌}
use native.Mathlib.Omega.{arith}
use lib.ListN.{length}
use Rattle.rules.specs.Slices.{relaid, first_to}
use Rattle.rules.proofs.Cut.{rest_to, first_to_zero, cut_halves}
use Rattle.line.specs.Asked.{Cut}
use Rattle.line.proofs.Laying.{Laying, laying_none, Turn, turn}

-- e is where the line stands, and `was` how much of it the first part has
pub record Cutting (part span : ℕ) (whole : List ℕ) (e was i : ℕ) (row : List ℕ) : Type 0 where
  pub within : i ≤ 64
  pub long : length row ≡ 64
  pub far : e ≤ 4294967295 * i
  pub was_is : was ≡ first_to part span e
  pub laid : Laying (first_to part span) (relaid (first_to part span) 0 whole) i e row

pub cutting_none : (part span : ℕ) (row : List ℕ) → length row ≡ 64 → Cutting part span row 0 0 0 row
cutting_none part span row long =
    record { within = omega arith; long = long; far = omega arith; was_is = sym (first_to_zero part span); laid = laying_none (first_to part span) row }

pub cut_turn : {part span : ℕ} → Cut part span → (e s : ℕ) → Turn (rest_to part span) e s (first_to part span e) (first_to part span (e + s))
cut_turn {part} cut e s = turn (cut_halves part (omega arith) (omega arith)) e s
