-- A call of the planner, as one step of the drill: what it leaves, with its answer printed.
use mathlib.Core.Path.{◌≡◌, ap}
use mathlib.Core.List.{List}
use Prim.Native.Nat.{ℕ}
use Rattle.calls.specs.Called.{answer_of, Left, leaves}
use Rattle.planner.specs.declared.Next.{Next}
use Rattle.planner.specs.Struct.{leaves_by}
use Rattle.script.specs.Drilled.{printed, Printable}
use Rattle.script.proofs.Printable.{called_printable, opening_printable}

module _ (next : Next) (words lent : List ℕ) {l : Left} (e : leaves_by next words lent ≡ l) where
  -- its answer can be printed
  pub left_printable : Printable l.answer → Printable (answer_of next.answer)
  unfolding leaves
  left_printable p = rw (ap (λ k. k.answer) e) p

  -- where it was lent no buffer, whatever that holds
  pub left_printed : (buffer : List ℕ) → printed (leaves_by next words buffer) buffer ≡ printed l buffer
  unfolding printed leaves
  left_printed buffer = ap (λ k. printed k buffer) e

  -- and where it was lent one
  pub left_shown : printed (leaves_by next words lent) lent ≡ printed l l.buffer
  unfolding printed leaves
  left_shown = ap (λ k. printed k k.buffer) e

-- what a call's step is shown by
pub ruleset steps = (left_printable, left_printed, left_shown, called_printable, opening_printable)
