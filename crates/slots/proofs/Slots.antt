-- Loops over the slots: what is left of the word of the slots in use says of the slots from i on what the whole word says of all slots.
-- Deadlines and rates are written side by side for the first i.
use mathlib.Core.Path.{◌≡◌, refl, sym, ◌∙◌}
use mathlib.Core.Bool.{Bool, true, false, ◌&&◌}
use mathlib.Core.List.{List}
use Prim.Native.Nat.{ℕ, ◌+◌, ◌/◌, ◌%◌, ◌<◌, ◌≤◌}
use native.Mathlib.Omega.{arith}
use lib.Dec.{eqb}
use lib.ListN.{length, drop, get_or, set, length-set}
use Rattle.rules.specs.declared.Task.{Task}
use Rattle.rules.specs.Station.{in_use}
use Rattle.rules.specs.Sound.{each_task}
use Rattle.rows.proofs.Moves.{Mixed, mixed_none, mixed_more, mixed_all}
use Rattle.rules.specs.Held.{flag, used_of}
use Rattle.slots.specs.Tests.{task_test}
use Rattle.slots.specs.Tests.{due_from, dues_of, rates_of}
use Rattle.slots.proofs.Dues.{dues-long, rates-long, due_at, rate_at}
use Rattle.slots.proofs.Bits.{agree, agree_next, agree_done}

-- what is asked of one slot
abbrev pub slot_test : ℕ → ℕ → ℕ → Task → Bool
slot_test clock start left k = eqb (left % 2) (flag (in_use k)) && task_test clock start k

pub record Going (used clock start : ℕ) (tasks : List Task) (due₀ rates₀ due rates : List ℕ) (left i : ℕ) : Type 0 where
  pub within : i ≤ 64
  pub due_long : length due ≡ 64
  pub rates-long : length rates ≡ 64
  pub same : agree clock start left (drop i tasks) ≡ agree clock start used tasks
  pub due_done : Mixed (dues_of start tasks) due₀ i due
  pub rates-done : Mixed (rates_of tasks) rates₀ i rates

pub going_none : (used clock start : ℕ) (tasks : List Task) (due rates : List ℕ) → length due ≡ 64 → length rates ≡ 64 → Going used clock start tasks due rates due rates used 0
going_none used clock start tasks due rates hd hr =
    record { within = omega arith; due_long = hd; rates-long = hr; same = refl; due_done = mixed_none _ _; rates-done = mixed_none _ _ }

module _ {used clock start : ℕ} {tasks : List Task} {due₀ rates₀ due rates : List ℕ} {left i : ℕ} (g : Going used clock start tasks due₀ rates₀ due rates left i) (slots : length tasks ≡ 64) where
  module _ (none : Task) (h : i < 64) where
    -- a slot that is not sound says no for all
    pub going_fails : slot_test clock start left (get_or tasks i none) ≡ false → false ≡ (eqb used (used_of tasks) && each_task (task_test clock start) tasks)
    unfolding agree
    going_fails fails = sym (sym g.same ∙ rw fails at (agree_next clock start left tasks i none (omega arith)))

    -- a sound one hands on to the next, its deadline and its rate written
    pub going_more : length due₀ ≡ 64 → length rates₀ ≡ 64 → slot_test clock start left (get_or tasks i none) ≡ true → (d r : ℕ) → d ≡ due_from start (get_or tasks i none).deadline → r ≡ (get_or tasks i none).rate
        → Going used clock start tasks due₀ rates₀ (set due i d) (set rates i r) (left / 2) (i + 1)
    going_more hd hr holds d r is-due is-rate =
        let ahead : i < length tasks = omega arith in
        let dues : length (dues_of start tasks) ≡ 64 = omega (arith, dues-long start tasks) in
        let rated : length (rates_of tasks) ≡ 64 = omega (arith, rates-long tasks) in
        record {
          within = omega arith;
          due_long = length-set due i d ∙ g.due_long;
          rates-long = length-set rates i r ∙ g.rates-long;
          same = sym (rw holds at (agree_next clock start left tasks i none ahead)) ∙ g.same;
          due_done = mixed_more 0 g.due_done d (omega arith) (omega arith) (is-due ∙ sym (due_at start tasks i none ahead));
          rates-done = mixed_more 0 g.rates-done r (omega arith) (omega arith) (is-rate ∙ sym (rate_at tasks i none ahead));
        }

  -- after the last slot nothing is left, and all are written
  pub going_done : 64 ≤ i → length due₀ ≡ 64 → length rates₀ ≡ 64 → (eqb left 0 ≡ (eqb used (used_of tasks) && each_task (task_test clock start) tasks)) × (due ≡ dues_of start tasks) × (rates ≡ rates_of tasks)
  unfolding agree
  going_done h hd hr = (
    sym (agree_done clock start left tasks i (omega arith)) ∙ g.same,
    mixed_all g.due_done (omega (arith, dues-long start tasks)) (omega arith),
    mixed_all g.rates-done (omega (arith, rates-long tasks)) (omega arith),
  )
