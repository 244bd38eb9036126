-- What the routines ask of what is held.
use Rattle.std.specs.Prelude.{◌≡◌, true, ◌⊎◌, List, ℕ, ◌≤◌, ◌<◌, length, get_or}
use Rattle.rules.specs.declared.State.{State}
use Rattle.rules.specs.Station.{grains, slot_count, row_count, share_words}
use Rattle.rules.specs.Slices.{is_end, with_end}
use Rattle.rules.specs.Release.{lowered}
use Rattle.plan.specs.declared.NewJob.{NewJob}
use Rattle.plan.specs.Planned.{Planned, Ready, slices_in}

-- a plan from lo on: the words of a whole table, and slices that are held and ready
pub record PlanFrom (lo : ℕ) (ends : List ℕ) (count : ℕ) (words : List ℕ) : Type 0 where
  pub long : share_words ≤ length words
  pub planned : Planned (slices_in ends count words) ends count words
  pub ready : Ready lo (slices_in ends count words)

-- slice 0 can be lowered at the clock: where there is one, it ends after the clock
pub record Lowers (st : State) (ends words : List ℕ) : Type 0 where
  pub plan : PlanFrom st.start ends st.count words
  pub begun : st.start ≤ st.clock
  pub ahead : 0 < st.count → st.clock < get_or ends 0 0

-- and the new job's boundary and its shares can be added
pub record Replans (st : State) (ends words : List ℕ) (job : NewJob) : Type 0 where
  pub lowers : Lowers st ends words
  pub ready : Ready st.clock (lowered st.start st.clock (slices_in ends st.count words))
  pub parted : Ready st.clock (with_end job.deadline st.clock (lowered st.start st.clock (slices_in ends st.count words)))
  pub ahead : st.clock < job.deadline
  pub room : (is_end job.deadline (lowered st.start st.clock (slices_in ends st.count words)) ≡ true) ⊎ (st.count < row_count)
  pub inside : job.slot < slot_count
  pub slow : job.rate ≤ grains 1
