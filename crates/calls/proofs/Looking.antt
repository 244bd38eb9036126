-- Holder: what a look at slice 0 finds is what the rules answer.
use mathlib.Core.Path.{◌≡◌}
use mathlib.Core.Bool.{true, false, cond}
use mathlib.Core.List.{List, []}
use Prim.Native.Nat.{ℕ}
use native.Mathlib.Omega.{arith}
use lib.Dec.{leb}
use lib.ListN.{get_or}
use borrow.Author.Tests.{eq-eqb, ne_eqb}
use Rattle.rules.specs.Wrap.{wrap_of}
use Rattle.rules.specs.Advance.{held_in, idle_in, holder_of}
use Rattle.rules.specs.Calls.{withdraw, refused, holder_refusals, holder_number}
use Rattle.rules.specs.Held.{Planner, table_of, table_at, is_sound_in, ends_of}
use Rattle.rules.proofs.Floor.{by_eq}
use Rattle.std.proofs.Common.{Err}
use Rattle.rules.specs.declared.Refusal.TheVariants.{NotSound}
use Rattle.rules.specs.Numbers.{number_of}
use Rattle.wrap.specs.Holding.{told_by, told_if, held_front, held_now}
use Rattle.calls.specs.Called.{Agrees}
use Rattle.calls.specs.Holding.{told}
use Rattle.calls.proofs.Called.{not-unsound}
use Rattle.calls.proofs.First.{first_slice}
use Rattle.calls.proofs.Onward.{none}

pub told-unsound : (p : Planner) (w : List ℕ) (core : ℕ) → is_sound_in p w ≡ false → told_by (Err NotSound) ≡ told p w core
unfolding told told_by number_of
told-unsound p w core bad = rw bad

module _ {p : Planner} {w : List ℕ} (ok : is_sound_in p w ≡ true) (a : Agrees p w) (core : ℕ) where
  holder_now : held_now p.state.count p.state.start p.state.clock (get_or (ends_of p.lists) 0 0) w core ≡ holder_of (table_of p w) core
  unfolding held_now held_front holder_of idle_in wrap_of held_in table_of table_at
  holder_now =
      by_eq p.state.count 0
      (λ z. rw (eq-eqb p.state.count 0 z, none a z))
      (λ ne. rw (ne_eqb p.state.count 0 ne, first_slice a (omega arith)))

  pub told_now : told_if (cond (leb p.state.cores core) 13 0) (held_now p.state.count p.state.start p.state.clock (get_or (ends_of p.lists) 0 0) w core) ≡ told p w core
  unfolding told holder_number holder_refusals refused table_of table_at
  told_now = rw (ok, not-unsound ok a [] (withdraw 0), holder_now)
