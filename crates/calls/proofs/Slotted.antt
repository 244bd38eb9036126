-- Declare and withdraw: a slot's task and its bit change, slices and words stay. The lowest free slot is told by the word of slots, adding
-- its bit sets it, and taking it away clears it.
use mathlib.Core.Path.{◌≡◌, refl, sym, ◌∙◌}
use mathlib.Core.Bool.{true, false}
use mathlib.Core.List.{List, []}
use Prim.Native.Nat.{ℕ, ◌+◌, ◌-◌, ◌^◌, ◌≤◌, ◌<◌}
use native.Mathlib.Omega.{arith}
use lib.Count.{count_trailing_zeros}
use lib.ListN.{length, set, get_or, length-set}
use borrow.Author.Tests.{lt-ltb}
use Rattle.rules.specs.declared.State.{State}
use Rattle.rules.specs.declared.Task.{Task}
use Rattle.rules.specs.Station.{slot_count, longest_period, grains, rate_of, rates, free, in_use}
use Rattle.rules.specs.Calls.{declare, withdraw, lowest_free, with_task, declared, withdrawn, accepted, done}
use Rattle.rules.specs.Held.{Planner, planner, table_of, table_at, is_sound_in, flag, used_of, list_words, tasks_of}
use Rattle.rules.proofs.Floor.{by_lt}
use Rattle.rules.proofs.Held.{slots_length}
use Rattle.rules.proofs.Tasks.{lowest_free_lem, lowest_in}
use Rattle.slots.specs.Lists.{Tasked}
use Rattle.slots.proofs.Used.{used-fits, used-set, flag_yes, flag_no, lowest_bit, all-used}
use Rattle.calls.specs.Reasons.{declare_number}
use Rattle.calls.specs.Called.{did, Holds, Agrees, answer_of, leaves, held_as, called, number_for}
use Rattle.calls.proofs.Joint.{left-held, written_none, used-held}
use Rattle.calls.proofs.Called.{number-agrees, number-done}
use Rattle.calls.proofs.Reasons.{declare-number, declare_none, withdraw-past, withdraw-number, task_none}

pub used_there : (k : Task) → 0 < k.period → in_use k ≡ true
unfolding in_use
used_there k some = lt-ltb 0 k.period some

free_there : in_use free ≡ false
unfolding in_use free
free_there = refl

-- the numbers with another word of slots in use
abbrev pub with_used : State → ℕ → State
with_used s used = record { cores = s.cores; clock = s.clock; start = s.start; used = used; count = s.count }

-- another task in a slot, with the word that says so
module _ {p : Planner} {w : List ℕ} (a : Agrees p w) {lists : List ℕ} (wide : length lists ≡ list_words) (slot : ℕ) (k : Task) (stored : Tasked p.lists (set (tasks_of p.lists) slot k) lists) where
  slot-holds : (used : ℕ) → used ≡ used_of (set (tasks_of p.lists) slot k) → Holds (planner (with_used p.state used) lists) w (with_task (table_of p w) slot k)
  unfolding with_task table_of table_at
  slot-holds used is = record {
    lists = wide;
    cores = refl;
    clock = refl;
    start = refl;
    used = is;
    tasks = stored.tasks;
    planned = rw stored.ends a.holds.planned;
  }

  pub slot-left : (used v : ℕ) → used ≡ used_of (set (tasks_of p.lists) slot k)
      → leaves (planner (with_used p.state used) lists) w [] (did v 0) ≡ held_as w [] (done v (with_task (table_of p w) slot k))
  unfolding leaves answer_of done
  slot-left used v is = left-held (slot-holds used is) w [] [] [] (record { number = 0; value = v; count = 0 }) refl (sym (written_none []))

module _ (p : Planner) (w : List ℕ) (wide : length p.lists ≡ list_words) where
  abbrev ks : List Task
  ks = tasks_of p.lists

  -- Declare, where nothing refuses it.
  module _ (period cost : ℕ) (z : number_for p w (declare period cost) ≡ 0) where
    ok : is_sound_in p w ≡ true
    ok = (number-agrees p w (declare period cost) wide z).0

    a : Agrees p w
    a = (number-agrees p w (declare period cost) wide z).1

    number : declare_number p.state.cores p.state.used (rates ks) period cost ≡ 0
    number = sym (declare-number ok a period cost) ∙ z

    -- period and cost are lawful
    pub declared-lawful : (1 ≤ period) × (period ≤ longest_period) × (cost ≤ grains period)
    declared-lawful =
        let none = declare_none p.state.cores p.state.used (rates ks) period cost number in
        (none.0, none.1, none.2)

    -- and a slot is free
    free-slot : lowest_free ks < slot_count
    free-slot =
        let n = slots_length p.lists in
        let none = declare_none p.state.cores p.state.used (rates ks) period cost number in
        let some : lowest_free ks ≡ slot_count → ⊥ = λ h. none.3 (rw (used-held a) (all-used ks (h ∙ sym n) ∙ n)) in
        omega (arith, lowest_in ks)

    module _ (slot : ℕ) (is : slot ≡ count_trailing_zeros 64 (18446744073709551615 - p.state.used)) where
      here : slot ≡ lowest_free ks
      here = is ∙ rw (used-held a) (rw (slots_length p.lists) at (lowest_bit ks))

      pub declared-slot : slot < slot_count
      declared-slot = omega (arith, here, free-slot)

      -- its bit was clear, and is set
      module _ (k : Task) (some : 0 < k.period) where
        taken : used_of (set ks slot k) ≡ p.state.used + 2 ^ slot
        taken =
            let was : flag (in_use (get_or ks slot free)) ≡ 0 = rw here (flag_no (in_use (get_or ks (lowest_free ks) free)) (lowest_free_lem ks)) in
            let now : flag (in_use k) ≡ 1 = flag_yes (in_use k) (used_there k some) in
            let law = used-set ks slot k (omega (arith, slots_length p.lists, declared-slot)) in
            omega (arith, rw (was, now) at law, used-held a)

        pub declared_bit : p.state.used + 2 ^ slot ≤ 18446744073709551615
        declared_bit =
            let slots : length (set ks slot k) ≡ 64 = simp length-set (slots_length p.lists) in
            let fits : used_of (set ks slot k) < 2 ^ 64 = rw slots at (used-fits (set ks slot k)) in
            omega (arith, taken)

      pub declared-left : {lists : List ℕ} (used : ℕ) (k : Task) → k ≡ record { period = period; cost = cost; rate = rate_of period cost; deadline = 0 } → length lists ≡ list_words
          → Tasked p.lists (set ks slot k) lists → used ≡ p.state.used + 2 ^ slot
          → leaves (planner (with_used p.state used) lists) w [] (did slot 0) ≡ called p w [] (declare period cost)
      unfolding accepted declared table_of table_at
      declared-left used k of long stored bit =
          let some : 0 < k.period = rw of (omega (arith, declared-lawful)) in
          slot-left a long slot k stored used slot (bit ∙ sym (taken k some))
          ∙ rw (of, here) (number-done p w (declare period cost) wide [] z)

  -- Withdraw, where nothing refuses it.
  module _ (slot : ℕ) (z : number_for p w (withdraw slot) ≡ 0) where
    fine : (is_sound_in p w ≡ true) × Agrees p w
    fine = number-agrees p w (withdraw slot) wide z

    pub withdrawn-inside : slot < slot_count
    withdrawn-inside = by_lt 63 slot (λ h. absurd (omega (arith, z, withdraw-past fine.0 fine.1 slot h))) (λ few. omega arith)

    -- its bit was set, and is clear
    freed : used_of (set ks slot free) + 2 ^ slot ≡ p.state.used
    freed =
        let k = get_or ks slot free in
        let some = (task_none k.period k.deadline (sym (withdraw-number fine.0 fine.1 slot (omega (arith, withdrawn-inside))) ∙ z)).0 in
        let was : flag (in_use k) ≡ 1 = flag_yes (in_use k) (used_there k some) in
        let now : flag (in_use free) ≡ 0 = flag_no (in_use free) free_there in
        let law = used-set ks slot free (omega (arith, slots_length p.lists, withdrawn-inside)) in
        omega (arith, rw (was, now) at law, used-held fine.1)

    pub withdrawn_bit : 2 ^ slot ≤ p.state.used
    withdrawn_bit = omega (arith, freed)

    pub withdrawn-left : {lists : List ℕ} (used : ℕ) → length lists ≡ list_words → Tasked p.lists (set ks slot free) lists → used + 2 ^ slot ≡ p.state.used
        → leaves (planner (with_used p.state used) lists) w [] (did 0 0) ≡ called p w [] (withdraw slot)
    unfolding accepted withdrawn
    withdrawn-left used long stored bit =
        slot-left fine.1 long slot free stored used 0 (omega (arith, freed)) ∙ number-done p w (withdraw slot) wide [] z
