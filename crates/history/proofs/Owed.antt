-- What a slot's job is still owed, over one call: an advance takes off exactly the grains that the slot holds in it, a release owes the new
-- job its allowance, and nothing else changes what any job is owed. A slot with no job is owed nothing.
use mathlib.Core.Path.{◌≡◌, refl, ap, ◌∙◌}
use mathlib.Core.List.{List, [], ◌∷◌}
use Prim.Native.Nat.{ℕ, ◌+◌, ◌-◌, ◌*◌, ◌≤◌, ◌<◌}
use native.Mathlib.Nat.{add-sub_cancel_left, mul-le-mul_right}
use native.Mathlib.Omega.{arith}
use lib.ListN.{get_or}
use borrow.Author.Tests.{le-leb, lt-leb, eq-eqb}
use Rattle.rules.specs.Station.{Slice, Table, grains, task_at, allowance}
use Rattle.rules.specs.Slices.{with_end}
use Rattle.rules.specs.Wrap.{has_run, segments_to}
use Rattle.rules.specs.Release.{lower_row, lowered, deadline_of, released_slices, released}
use Rattle.rules.specs.Advance.{moved_to, at_boundary, advanced_in, advanced}
use Rattle.rules.specs.Sound.{Each, Sound}
use Rattle.rules.specs.History.{held_at}
use Rattle.rules.proofs.Floor.{by_lt}
use Rattle.rules.proofs.Sound.{SliceOk, each_map}
use Rattle.rules.proofs.Whole.{sound_whole}
use Rattle.rules.proofs.Tasks.{none_pending}
use Rattle.rules.proofs.Slices.{with_end-ends}
use Rattle.rules.proofs.Released.{lowered_ok}
use Rattle.rules.proofs.Kept.{first-ahead, released-sound}
use Rattle.history.specs.Jobs.{grains_held, total, still_owed}
use Rattle.history.proofs.Reached.{Before}
use Rattle.history.proofs.Line.{line_at}
use Rattle.history.proofs.Wrapped.{span, span_some, shares-small, line-fits, held-line, none_held}
use Rattle.history.proofs.Cases.{Ready}
use Rattle.history.proofs.Counted.{grains-idle}
use Rattle.history.proofs.Places.{grains_run}
use Rattle.history.proofs.Totals.{lower_at, run_all, total_none, lowered-still, Shaped, with_end_shaped, with_end-total, given_other, given-total}

module _ (t : Table) (sound : Sound t) (k : ℕ) where
  -- a slot with no job is owed nothing
  pub owed_none : (task_at t k).deadline ≡ 0 → still_owed t k ≡ 0
  unfolding still_owed task_at
  owed_none none = total_none t.tasks k t.clock (lowered t.start t.clock t.slices)
      (lowered_ok t.tasks t.start t.clock sound.start t.slices (first-ahead t sound) (sound_whole t sound).slices) none

  -- an advance to b, in slice 0
  module _ (b : ℕ) (later : t.clock ≤ b) where
    module _ (s : Slice) (ss : List Slice) (e : t.slices ≡ s ∷ ss) (by : b ≤ s.end) where
      abbrev ran_by : ℕ → ℕ
      ran_by c = has_run (span t sound s ss e) (grains (c - t.start)) s.shares k

      held-ran : grains_held (segments_to t b) k (grains t.clock) (grains b) + ran_by t.clock ≡ ran_by b
      unfolding grains_held
      held-ran =
          let x = grains (t.clock - t.start) in
          let n = grains b - grains t.clock in
          let far : x + n ≡ grains (b - t.start) = omega (arith, sound.start) in
          let laid : (j : ℕ) → j < n → (q : ℕ) → held_at (segments_to t b) q (grains t.clock + j) ≡ line_at (q * span t sound s ss e + (x + j)) 0 0 s.shares = λ j l q.
          let place : grains t.clock + j - grains t.start ≡ x + j = omega (arith, sound.start) in
          rw place at (held-line t sound s ss e b (grains t.clock + j) later by (omega arith) (omega arith) q) in
          rw far at (grains_run (span_some t sound s ss e) s.shares (segments_to t b) k (shares-small t sound s ss e)
          (omega (arith, line-fits t sound s ss e, sound.cores, mul-le-mul_right (span t sound s ss e) sound.cores.1)) (grains t.clock) x n (omega (arith, sound.start)) laid)

    owed_in_lem : (ss : List Slice) → t.slices ≡ ss → Before b ss → grains_held (segments_to t b) k (grains t.clock) (grains b) + still_owed (advanced_in t b ss) k ≡ still_owed t k
    unfolding advanced_in still_owed moved_to at_boundary lowered total
    owed_in_lem [] e before =
        let now : total k (lowered t.start t.clock t.slices) ≡ 0 = rw e in
        omega (arith, grains-idle k (segments_to t b) (grains t.clock) (grains b) (λ core grain. none_held t b core grain e))
    owed_in_lem (s ∷ ss) e before =
        let T = span t sound s ss e in
        let row = s.shares in
        let lower = lower_at (span_some t sound s ss e) row (shares-small t sound s ss e) k in
        let at : (c : ℕ) → total k (lowered t.start c t.slices) ≡ get_or (lower_row T (grains (c - t.start)) row) k 0 + total k ss = λ c. rw e in
        let ahead : Each (λ lo s. t.clock < s.end) t.start (s ∷ ss) = rw e at (first-ahead t sound) in
        let slices : Each (SliceOk t.tasks) t.start (s ∷ ss) = rw e at (sound_whole t sound).slices in
        let now = lower (grains (t.clock - t.start)) (omega (arith, ahead.0)) in
        let ran = held-ran s ss e before in
        by_lt b s.end
        (λ l. rw (lt-leb s.end b l) (omega (arith, at t.clock, at b, ran, lower (grains (b - t.start)) (omega arith))))
        (λ g. let end : grains (b - t.start) ≡ T = omega arith in
        let whole : has_run T (grains (b - t.start)) row k ≡ get_or row k 0 = rw end (run_all (span_some t sound s ss e) row (shares-small t sound s ss e) k) in
        rw (le-leb s.end b g) (omega (arith, at t.clock, ran, whole, lowered-still t.tasks k s.end ss slices.1)))

    pub owed-advance : Before b t.slices → grains_held (segments_to t b) k (grains t.clock) (grains b) + still_owed (advanced t b) k ≡ still_owed t k
    unfolding advanced
    owed-advance = owed_in_lem t.slices refl

-- a release of a slot that has no job
module _ (t : Table) (sound : Sound t) (slot : ℕ) (ready : Ready t slot) where
  after_now : t.clock < deadline_of t slot
  unfolding deadline_of
  after_now = omega (arith, (sound.lawful slot ready.used).period)

  abbrev low : List Slice
  low = lowered t.start t.clock t.slices

  low_shaped : Each Shaped t.clock low
  low_shaped =
      each_map (SliceOk t.tasks) Shaped (λ lo s o. (o.rises, o.columns)) t.clock low
      (lowered_ok t.tasks t.start t.clock sound.start t.slices (first-ahead t sound) (sound_whole t sound).slices)

  -- the new plan starts at the clock, where nothing has run
  owed-total : (k : ℕ) → still_owed (released t slot) k ≡ total k (released_slices t slot)
  unfolding still_owed released
  owed-total k =
      let fine = released-sound t sound slot ready.inside ready.used ready.none ready.range in
      lowered-still (released t slot).tasks k t.clock (released_slices t slot) (sound_whole (released t slot) fine).slices

  pub owed_other : (k : ℕ) → (k ≡ slot → ⊥) → still_owed (released t slot) k ≡ still_owed t k
  unfolding still_owed released_slices
  owed_other k other =
      let d = deadline_of t slot in
      owed-total k ∙ given_other slot (task_at t slot).rate d k t.clock (with_end d t.clock low) other ∙ with_end-total d k t.clock low after_now low_shaped

  pub owed_made : still_owed (released t slot) slot ≡ allowance (task_at t slot)
  unfolding still_owed released_slices allowance deadline_of
  owed_made =
      let rate = (task_at t slot).rate in
      let d = deadline_of t slot in
      let none : total slot low ≡ 0 = owed_none t sound slot (none_pending (task_at t slot) ready.none) in
      let whole = with_end-total d slot t.clock low after_now low_shaped in
      let job = given-total slot rate d t.clock (with_end d t.clock low) (omega (arith, ready.inside)) (with_end_shaped d t.clock low after_now low_shaped)
      (rw (with_end-ends d d t.clock low, eq-eqb d d refl)) in
      let ticks : rate * (d - t.clock) ≡ rate * (task_at t slot).period = ap (λ n. rate * n) (add-sub_cancel_left t.clock (task_at t slot).period) in
      omega (arith, owed-total slot)
