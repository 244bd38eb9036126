-- Where a kept place lies: its core and its grains are the quotient and the rest by T, so what the rules say of a place on the
-- line is said of the kept one.
use mathlib.Core.Path.{◌≡◌, refl}
use Prim.Native.Nat.{ℕ, ◌+◌, ◌-◌, ◌/◌, ◌%◌, ◌<◌, min}
use native.Mathlib.Numerals.{add-one}
use native.Mathlib.Omega.{arith}
use Rattle.rules.specs.Wrap.{on_core, on_next}
use Rattle.rules.proofs.Floor.{unique}
use Rattle.rules.proofs.Front.{front, back, front_halves}
use Rattle.line.specs.declared.place.Place.{Place}
use Rattle.line.specs.Asked.{Lower}
use Rattle.line.specs.Line.{on_line, run_before}
use Rattle.line.proofs.Laying.{Turn, turn}

pub line-start : (T : ℕ) → on_line T (record { core = 0; at = 0 }) ≡ 0
unfolding on_line
line-start T = omega arith

-- nothing has run before the line's begin
pub run_start : (x : ℕ) → run_before x (record { core = 0; at = 0 }) ≡ 0
unfolding run_before
run_start x = omega arith

module _ {T : ℕ} (p : Place) (inside : p.at < T) where
  line_parts : (on_line T p / T ≡ p.core) × (on_line T p % T ≡ p.at)
  unfolding on_line
  line_parts = unique p.core p.at refl inside

  line_front_lem : (x : ℕ) → front T x (on_line T p) ≡ run_before x p
  unfolding front run_before
  line_front_lem x = rw (line_parts.0, line_parts.1)

  module _ (slot s : ℕ) where
    pub line-core : on_core T slot (on_line T p) s ≡ record { core = p.core; slot = slot; first = p.at; after = min (p.at + s) T }
    unfolding on_core
    line-core = rw (line_parts.0, line_parts.1)

    pub line-next : on_next T slot (on_line T p) s ≡ record { core = p.core + 1; slot = slot; first = 0; after = p.at + s - T }
    unfolding on_next
    line-next = rw (line_parts.0, line_parts.1, add-one)

-- one share of a walk, by what has run before the two places
pub walk : {T x s : ℕ} → Lower T x → (p q : Place) → p.at < T → q.at < T → on_line T q ≡ on_line T p + s
    → Turn (back T x) (on_line T p) s (run_before x p) (run_before x q)
walk {T} {x} {s} asked p q here there is =
    rw (line_front_lem p here x, ← is, line_front_lem q there x) at (turn (front_halves asked.some x asked.within) (on_line T p) s)
