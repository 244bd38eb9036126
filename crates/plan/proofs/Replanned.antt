-- The three steps of a release: what lowering slice 0 asks, what each step leaves for the next, and that a sound table is asked no more.
-- What is held can be told, so what one step leaves is what the next one finds.
use mathlib.Core.Path.{◌≡◌}
use mathlib.Core.Bool.{true}
use mathlib.Core.Logic.{◌⊎◌}
use mathlib.Core.List.{List, [], ◌∷◌}
use Prim.Native.Nat.{ℕ, suc, ◌+◌, ◌-◌, ◌≤◌, ◌<◌}
use native.Mathlib.Nat.{not-suc-le-zero}
use native.Mathlib.Omega.{arith}
use lib.ListN.{length, get_or}
use Rattle.rules.specs.declared.State.{State}
use Rattle.rules.specs.declared.Task.{Task}
use Rattle.rules.specs.Station.{Slice, Table, grains, longest_period, slot_count, row_count, share_words, free}
use Rattle.rules.specs.Slices.{is_end, with_end}
use Rattle.rules.specs.Release.{lowered, given}
use Rattle.rules.specs.Sound.{Each, Sound}
use Rattle.rules.specs.Words.{row_at}
use Rattle.rules.proofs.Few.{sound-few}
use Rattle.rules.proofs.Slices.{lowered-ends}
use Rattle.rules.proofs.Kept.{first-ahead}
use Rattle.plan.specs.declared.NewJob.{NewJob}
use Rattle.rules.specs.Held.{ends_in}
use Rattle.plan.specs.Planned.{Planned, slices_in, begin_of}
use Rattle.plan.specs.Asked.{PlanFrom, Lowers, Replans}
use Rattle.plan.proofs.Planned.{ready_at, planned-slices}
use Rattle.plan.proofs.Ready.{ready, ready-lowered, ready_with}

-- what lowering row 0 asks
pub record First (st : State) (ends words : List ℕ) : Type 0 where
  pub soon : get_or ends 0 0 ≤ st.start + longest_period
  pub begun : st.start ≤ st.clock
  pub ahead : st.clock < get_or ends 0 0
  pub small : (i : ℕ) → get_or (row_at 0 words) i 0 ≤ grains (get_or ends 0 0 - st.start)

pub first : {st : State} {ends words : List ℕ} → Lowers st ends words → 0 < st.count → First st ends words
unfolding begin_of row_at
first q some = let at = ready_at q.plan.planned q.plan.ready 0 some in record { soon = at.soon; begun = q.begun; ahead = q.ahead some; small = at.small }

-- the three steps, one after the other: what the second asks, what the third asks, and what all leave
module _ {st : State} {ends words : List ℕ} {job : NewJob} (q : Replans st ends words job) {v : List ℕ}
    (got : Planned (lowered st.start st.clock (slices_in ends st.count words)) ends st.count v) where
  low : slices_in ends st.count v ≡ lowered st.start st.clock (slices_in ends st.count words)
  low = planned-slices got q.ready.few

  pub boundary_plan : share_words ≤ length v → PlanFrom st.clock ends st.count v
  boundary_plan long = record { long = long; planned = rw low got; ready = rw low q.ready }

  pub boundary_room : (is_end job.deadline (slices_in ends st.count v) ≡ true) ⊎ (st.count < row_count)
  boundary_room = rw low q.room

  module _ {bounds u : List ℕ} {n : ℕ} (with : Planned (with_end job.deadline st.clock (slices_in ends st.count v)) bounds n u) where
    parted : Planned (with_end job.deadline st.clock (lowered st.start st.clock (slices_in ends st.count words))) bounds n u
    parted = rw low at with

    cut : slices_in bounds n u ≡ with_end job.deadline st.clock (lowered st.start st.clock (slices_in ends st.count words))
    cut = planned-slices parted q.parted.few

    pub give_plan : share_words ≤ length u → PlanFrom st.clock bounds n u
    give_plan long = record { long = long; planned = rw cut parted; ready = rw cut q.parted }

    pub replanned : {x : List ℕ} → Planned (given job.slot job.rate job.deadline st.clock (slices_in bounds n u)) bounds n x
        → Planned (given job.slot job.rate job.deadline st.clock (with_end job.deadline st.clock (lowered st.start st.clock (slices_in ends st.count words)))) bounds n x
    replanned done = rw cut at done

-- where each end is after c, the first boundary is
first-end : (c lo : ℕ) (ss : List Slice) (n : ℕ) → Each (λ l s. c < s.end) lo ss → 0 < length ss → c < get_or (ends_in (suc n) ss) 0 0
unfolding ends_in
first-end c lo [] n e h = absurd (not-suc-le-zero h)
first-end c lo (s ∷ ss) n e h = e.0

-- a sound table, held beside the numbers of st, is ready for the release of a job in a slot that has none
module _ (t : Table) (sound : Sound t) (st : State) {ends words : List ℕ} (clock : t.clock ≡ st.clock) (start : t.start ≡ st.start)
    (long : share_words ≤ length words) (planned : Planned t.slices ends st.count words) where
  told : slices_in ends st.count words ≡ t.slices
  told = planned-slices planned (sound-few t sound)

  pub lowers : Lowers st ends words
  lowers = record {
    plan = record { long = long; planned = rw told planned; ready = rw (told, ← start) (ready t sound) };
    begun = omega (arith, sound.start);
    ahead = λ some. rw (← clock, planned.bounds) (first-end t.clock t.start t.slices 63 (first-ahead t sound) (omega (arith, planned.number)));
  }

  pub replans : (job : NewJob) → job.slot < slot_count → (get_or t.tasks job.slot free).deadline ≡ 0 → job.rate ≤ grains 1
      → t.clock < job.deadline → job.deadline ≤ t.clock + longest_period → (is_end job.deadline t.slices ≡ true) ⊎ (st.count < row_count)
      → Replans st ends words job
  replans job inside none slow ahead soon room =
      let k : Task = record { period = 0; cost = 0; rate = 0; deadline = job.deadline } in
      record {
        lowers = lowers;
        ready = rw (told, ← clock, ← start) (ready-lowered t sound);
        parted = rw (told, ← clock, ← start) (ready_with t sound job.slot k inside none ahead soon);
        ahead = omega arith;
        room = rw (lowered-ends, told) room;
        inside = inside;
        slow = slow;
      }
