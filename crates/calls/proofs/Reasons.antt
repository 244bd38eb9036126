-- The first reason of each call on a sound table, by the numbers that are held: the planner's word of slots, its rates, its boundaries and
-- their number tell what the rules' table tells. And what it means that no reason holds, in plain facts.
use mathlib.Core.Path.{◌≡◌, refl, ap, sym, ◌∙◌}
use mathlib.Core.Bool.{Bool, true, false, cond, not, ◌&&◌, ◌||◌, and-false, false≢true}
use mathlib.Core.Logic.{◌⊎◌, inl, inr}
use mathlib.Core.List.{List, [], ◌∷◌}
use Prim.Native.Nat.{ℕ, zero, suc, ◌+◌, ◌≤◌, ◌<◌}
use native.Mathlib.Omega.{arith}
use lib.Count.{ones}
use lib.Dec.{leb, ltb, eqb}
use lib.ListN.{length, get_or}
use borrow.Author.Tests.{lt-ltb, le-ltb, le-leb, lt-leb, eq-eqb, ne_eqb, ltb-false, eqb-false}
use Rattle.rules.specs.Station.{Slice, grains, last_tick, longest_period, row_count, slot_count, rate_of, rates, free, in_use, pending, task_at}
use Rattle.rules.specs.Slices.{is_end}
use Rattle.rules.specs.Release.{deadline_of}
use Rattle.rules.specs.Calls.{declare, withdraw, release, advance, refused, refusals, not_in_use, job_pending, lowest_free, segment_words}
use Rattle.rules.proofs.Floor.{by_bool, by_eq, by_lt}
use Rattle.rules.proofs.Steps.{or_none}
use Rattle.plan.specs.Planned.{slices_in}
use Rattle.rules.specs.Held.{Planner, table_of, table_at, is_sound_in, list_words, ends_in, ends_of, tasks_of}
use Rattle.rules.proofs.Held.{slots_length}
use Rattle.calls.specs.Reasons.{declare_number, task_number, among, due_number, advance_number}
use Rattle.calls.specs.Called.{Agrees, number_for}
use Rattle.slots.proofs.Used.{all-used, used_all}
use Rattle.calls.proofs.Called.{not-unsound}
use Rattle.calls.proofs.Joint.{agrees, used-held, planned-held, few-held}

-- a reason that does not hold, before the others
past : (b : Bool) (n m : ℕ) → cond b (suc n) m ≡ 0 → (b ≡ false) × (m ≡ 0)
past true n m z = absurd (omega arith)
past false n m z = (refl, z)

-- what a number of 0 tells
pub declare_none : (cores used load period cost : ℕ) → declare_number cores used load period cost ≡ 0
    → (1 ≤ period) × (period ≤ longest_period) × (cost ≤ grains period) × (ones used ≡ slot_count → ⊥) × (load + rate_of period cost ≤ grains cores)
unfolding declare_number
declare_none cores used load period cost z =
    let three = past (ltb period 1 || ltb longest_period period) 2 _ z in
    let four = past (eqb cost 0 || ltb (grains period) cost) 3 _ three.1 in
    let five = past (eqb (ones used) slot_count) 4 _ four.1 in
    let six = past (ltb (grains cores) (load + rate_of period cost)) 5 0 five.1 in
    let timely = or_none (ltb period 1) (ltb longest_period period) three.0 in
    let fair = or_none (eqb cost 0) (ltb (grains period) cost) four.0 in
    (ltb-false period 1 timely.0, ltb-false longest_period period timely.1, ltb-false (grains period) cost fair.1, eqb-false (ones used) slot_count five.0, ltb-false (grains cores) (load + rate_of period cost) six.0)

pub task_none : (period deadline : ℕ) → task_number period deadline ≡ 0 → (0 < period) × (deadline ≡ 0)
unfolding task_number
task_none period deadline z =
    let seven = past (eqb period 0) 6 _ z in
    let eight = past (ltb 0 deadline) 7 0 seven.1 in
    let some = eqb-false period 0 seven.0 in
    (omega arith, omega (arith, ltb-false 0 deadline eight.0))

pub due_none : (d count : ℕ) (ends : List ℕ) → due_number d count ends ≡ 0 → (d ≤ last_tick) × ((among d ends ≡ true) ⊎ (count ≡ row_count → ⊥))
unfolding due_number
due_none d count ends z =
    let ten = past (ltb last_tick d) 9 _ z in
    let nine = past (eqb count row_count && not (among d ends)) 8 0 ten.1 in
    (ltb-false last_tick d ten.0, by_bool (among d ends) (λ e. inl e) (λ e. inr (λ all. let out : true ≡ false = rw (eq-eqb count row_count all, e) at nine.0 in false≢true (sym out))))

pub advance_none : (clock tick room : ℕ) → advance_number clock tick room ≡ 0 → (clock ≤ tick) × (tick ≤ last_tick) × (segment_words ≤ room)
unfolding advance_number
advance_none clock tick room z =
    let eleven = past (ltb tick clock) 10 _ z in
    let ten = past (ltb last_tick tick) 9 _ eleven.1 in
    let twelve = past (ltb room segment_words) 11 0 ten.1 in
    (ltb-false tick clock eleven.0, ltb-false last_tick tick ten.0, ltb-false room segment_words twelve.0)

not_positive : (n : ℕ) → not (ltb 0 n) ≡ eqb n 0
not_positive n = by_eq n 0 (λ z. rw (le-ltb 0 n (omega arith), eq-eqb n 0 z)) (λ ne. rw (lt-ltb 0 n (omega arith), ne_eqb n 0 ne))

-- the reasons of a slot stand before the others
task_first : (period deadline rest n : ℕ) → task_number period deadline ≡ suc n → cond (eqb period 0) 7 (cond (ltb 0 deadline) 8 rest) ≡ suc n
unfolding task_number
task_first period deadline rest n e =
    by_bool (eqb period 0)
    (λ q. rw q (rw q at e))
    (λ q. by_bool (ltb 0 deadline) (λ r. rw (q, r) (rw (q, r) at e)) (λ r. let none : 0 ≡ suc n = rw (q, r) at e in absurd (omega arith)))

task_last : (period deadline rest : ℕ) → task_number period deadline ≡ 0 → cond (eqb period 0) 7 (cond (ltb 0 deadline) 8 rest) ≡ rest
task_last period deadline rest z =
    let none = task_none period deadline z in
    let some : period ≡ 0 → ⊥ = omega arith in
    rw (ne_eqb period 0 some, le-ltb 0 deadline (omega arith))

-- among all boundaries of as many slices
among-ends : (d n : ℕ) (ss : List Slice) → length ss ≡ n → among d (ends_in n ss) ≡ is_end d ss
unfolding among ends_in is_end
among-ends d zero [] h = refl
among-ends d zero (s ∷ ss) h = absurd (omega arith)
among-ends d (suc n) [] h = absurd (omega arith)
among-ends d (suc n) (s ∷ ss) h = rw (among-ends d n ss (omega arith))

module _ {p : Planner} {w : List ℕ} (ok : is_sound_in p w ≡ true) (a : Agrees p w) where
  -- 64 ones in the word of slots: no slot is free
  full_slots : eqb (lowest_free (tasks_of p.lists)) slot_count ≡ eqb (ones p.state.used) slot_count
  full_slots =
      let n = slots_length p.lists in
      by_eq (ones p.state.used) 64
      (λ h. rw (eq-eqb (ones p.state.used) 64 h, eq-eqb (lowest_free (tasks_of p.lists)) 64 (used_all (tasks_of p.lists) (rw (← (used-held a), n) h) ∙ n)))
      (λ ne. rw (ne_eqb (ones p.state.used) 64 ne, ne_eqb (lowest_free (tasks_of p.lists)) 64 (λ h. ne (rw (used-held a) (all-used (tasks_of p.lists) (h ∙ sym n) ∙ n)))))

  pub declare-number : (period cost : ℕ) → number_for p w (declare period cost) ≡ declare_number p.state.cores p.state.used (rates (tasks_of p.lists)) period cost
  unfolding number_for refused refusals declare_number table_of table_at
  declare-number period cost = rw (ok, not-unsound ok a [] (declare period cost), full_slots)

  -- where all rows are in use, the boundaries are all of the slices' ends
  full_rows : (d : ℕ) → not (is_end d (slices_in (ends_of p.lists) p.state.count w)) && leb row_count (length (slices_in (ends_of p.lists) p.state.count w)) ≡ eqb p.state.count row_count && not (among d (ends_of p.lists))
  full_rows d =
      let ss = slices_in (ends_of p.lists) p.state.count w in
      let number = (planned-held a).number in
      by_eq p.state.count row_count
      (λ all. let same : among d (ends_of p.lists) ≡ is_end d ss = ap (among d) (planned-held a).bounds ∙ among-ends d row_count ss (omega arith) in
      let full : row_count ≤ length ss = omega arith in
      rw (eq-eqb p.state.count row_count all, le-leb row_count (length ss) full, same) (by_bool (is_end d ss) (λ e. rw e) (λ e. rw e)))
      (λ ne. let few : length ss < row_count = omega (arith, few-held a) in
      rw (ne_eqb p.state.count row_count ne, lt-leb row_count (length ss) few, and-false))

  pub advance-number : (tick room : ℕ) → number_for p w (advance tick room) ≡ advance_number p.state.clock tick room
  unfolding number_for refused refusals advance_number table_of table_at
  advance-number tick room = rw (ok, not-unsound ok a [] (advance tick room))

  module _ (slot : ℕ) where
    pub withdraw-past : 63 < slot → number_for p w (withdraw slot) ≡ 7
    unfolding number_for refused refusals not_in_use
    withdraw-past h = rw (ok, not-unsound ok a [] (withdraw slot), lt-ltb 63 slot h)

    pub release-past : 63 < slot → number_for p w (release slot) ≡ 7
    unfolding number_for refused refusals not_in_use
    release-past h = rw (ok, not-unsound ok a [] (release slot), lt-ltb 63 slot h)

    module _ (few : slot ≤ 63) where
      pub withdraw-number : number_for p w (withdraw slot) ≡ task_number (get_or (tasks_of p.lists) slot free).period (get_or (tasks_of p.lists) slot free).deadline
      unfolding number_for refused refusals not_in_use job_pending in_use pending task_at task_number table_of table_at
      withdraw-number = rw (ok, not-unsound ok a [] (withdraw slot), le-ltb 63 slot few, not_positive (get_or (tasks_of p.lists) slot free).period)

      release-is : number_for p w (release slot)
          ≡ cond (eqb (get_or (tasks_of p.lists) slot free).period 0) 7 (cond (ltb 0 (get_or (tasks_of p.lists) slot free).deadline) 8 (due_number (p.state.clock + (get_or (tasks_of p.lists) slot free).period) p.state.count (ends_of p.lists)))
      unfolding number_for refused refusals not_in_use job_pending in_use pending task_at deadline_of due_number table_of table_at slices_in
      release-is =
          rw (ok, not-unsound ok a [] (release slot), le-ltb 63 slot few, not_positive (get_or (tasks_of p.lists) slot free).period, full_rows (p.state.clock + (get_or (tasks_of p.lists) slot free).period))

      pub release_task : (n : ℕ) → task_number (get_or (tasks_of p.lists) slot free).period (get_or (tasks_of p.lists) slot free).deadline ≡ suc n → number_for p w (release slot) ≡ suc n
      release_task n e = release-is ∙ task_first _ _ _ n e

      pub release-number : task_number (get_or (tasks_of p.lists) slot free).period (get_or (tasks_of p.lists) slot free).deadline ≡ 0
          → number_for p w (release slot) ≡ due_number (p.state.clock + (get_or (tasks_of p.lists) slot free).period) p.state.count (ends_of p.lists)
      release-number z = release-is ∙ task_last _ _ _ z

      -- a number that is not 0 is one of them
      pub release-first : (n : ℕ) → task_number (get_or (tasks_of p.lists) slot free).period (get_or (tasks_of p.lists) slot free).deadline ≡ n → (n ≡ 0 → ⊥) → number_for p w (release slot) ≡ n
      release-first zero e some = absurd (some refl)
      release-first (suc n) e some = release_task n e

-- a reason of a withdraw is one of a release of that slot
pub release_as : (p : Planner) (w : List ℕ) → length p.lists ≡ list_words → (slot n : ℕ) → n ≡ number_for p w (withdraw slot) → (n ≡ 0 → ⊥) → number_for p w (release slot) ≡ n
unfolding number_for
release_as p w wide slot n is some =
    by_bool (is_sound_in p w)
    (λ ok. let a = agrees p w wide ok in
    by_lt 63 slot
    (λ far. release-past ok a slot far ∙ sym (is ∙ withdraw-past ok a slot far))
    (λ few. release-first ok a slot few n (sym (is ∙ withdraw-number ok a slot few)) some))
    (λ bad. rw bad (sym (rw bad at is)))
