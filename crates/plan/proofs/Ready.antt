-- What the routines ask of slices holds in a sound table, and of its slices lowered at the clock.
-- Each boundary is a pending job's deadline, so it is soon, and the slices are no more than the tasks.
use mathlib.Core.Path.{◌≡◌, ap, ◌∙◌}
use mathlib.Core.Bool.{true}
use mathlib.Core.List.{List}
use Prim.Native.Nat.{ℕ, ◌+◌, ◌≤◌, ◌<◌}
use native.Mathlib.Omega.{arith}
use lib.ListN.{length, get_or, set, length-set}
use lib.Seq.{get_or-set_same}
use Rattle.rules.specs.declared.Task.{Task}
use Rattle.rules.specs.Station.{Slice, Table, longest_period, free, in_use}
use Rattle.rules.specs.Slices.{with_end}
use Rattle.rules.specs.Release.{lowered}
use Rattle.rules.specs.Sound.{Each, Rises, AtDeadline, Small, Sound, is_deadline}
use Rattle.rules.proofs.Floor.{by_lt, by_bool}
use Rattle.rules.proofs.Few.{few-slices}
use Rattle.rules.proofs.Sound.{SliceOk, each_map}
use Rattle.rules.proofs.Tasks.{pending-some, deadline-slot, slot-deadline, deadline-kept, set_each}
use Rattle.rules.proofs.Whole.{Room, room, sound_whole}
use Rattle.rules.proofs.Released.{lowered_ok, with_end-room}
use Rattle.rules.proofs.Kept.{first-ahead}
use Rattle.plan.specs.Planned.{Ready}

rises : (ks js : List Task) (lo : ℕ) (ss : List Slice) → Each (Room ks js) lo ss → Each Rises lo ss
rises ks js = each_map (Room ks js) Rises (λ l s r. r.rises)

-- slices beside the tasks ks, where their ends are deadlines of js: all within a period of lo
ready-room : (ks js : List Task) (lo : ℕ) → length js ≡ 64 → ((i : ℕ) → (get_or js i free).deadline ≤ lo + longest_period) → (ss : List Slice) → Each (Room ks js) lo ss → Ready lo ss
ready-room ks js lo wide soon ss ok = record {
  few = omega (arith, few-slices js lo ss (rises ks js lo ss ok) (each_map (Room ks js) (AtDeadline js) (λ l s r. r.deadline) lo ss ok));
  rising = rises ks js lo ss ok;
  soon = each_map (Room ks js) (λ l s. s.end ≤ lo + longest_period) (λ l s r. let at = deadline-slot s.end js r.deadline in omega (arith, at.1, soon at.0)) lo ss ok;
  small = each_map (Room ks js) Small (λ l s r i. (r.shares i).small) lo ss ok;
}

module _ (t : Table) (sound : Sound t) where
  -- every deadline is within a period of the plan start
  soon : (i : ℕ) → (get_or t.tasks i free).deadline ≤ t.start + longest_period
  unfolding free
  soon i =
      let k = get_or t.tasks i free in
      let ok = (sound_whole t sound).tasks i in
      by_lt 0 k.deadline
      (λ some. by_bool (in_use k) (λ u. omega (arith, (ok.in_time (pending-some k some)).soon, (ok.lawful u).period)) (λ u. omega (arith, ap (λ j. j.deadline) (ok.unused u))))
      (λ none. omega arith)

  pub ready : Ready t.start t.slices
  ready =
      ready-room t.tasks t.tasks t.start sound.slots soon t.slices
      (each_map (SliceOk t.tasks) (Room t.tasks t.tasks) (λ l s o. room t.tasks o.deadline o) t.start t.slices (sound_whole t sound).slices)

  -- A release: with ends that are deadlines of js, the slices lowered at the clock
  module _ (js : List Task) (kept : (e : ℕ) → 0 < e → is_deadline e t.tasks ≡ true → is_deadline e js ≡ true) where
    low : Each (Room t.tasks js) t.clock (lowered t.start t.clock t.slices)
    low =
        each_map (SliceOk t.tasks) (Room t.tasks js) (λ l s o. room js (kept s.end (omega (arith, o.rises)) o.deadline) o) t.clock (lowered t.start t.clock t.slices)
        (lowered_ok t.tasks t.start t.clock sound.start t.slices (first-ahead t sound) (sound_whole t sound).slices)

  late : (i : ℕ) → (get_or t.tasks i free).deadline ≤ t.clock + longest_period
  late i = omega (arith, soon i, sound.start)

  pub ready-lowered : Ready t.clock (lowered t.start t.clock t.slices)
  ready-lowered = ready-room t.tasks t.tasks t.clock sound.slots late (lowered t.start t.clock t.slices) (low t.tasks (λ e some h. h))

  -- and with a boundary at the deadline of k's job, which comes into a slot that had none
  pub ready_with : (slot : ℕ) (k : Task) → slot < 64 → (get_or t.tasks slot free).deadline ≡ 0 → t.clock < k.deadline → k.deadline ≤ t.clock + longest_period
      → Ready t.clock (with_end k.deadline t.clock (lowered t.start t.clock t.slices))
  ready_with slot k in_row none ahead by =
      let js = set t.tasks slot k in
      let same : length js ≡ 64 = length-set t.tasks slot k ∙ sound.slots in
      let here : get_or js slot free ≡ k = get_or-set_same t.tasks slot k free (omega (arith, sound.slots)) in
      let at : is_deadline k.deadline js ≡ true = slot-deadline k.deadline js slot (omega arith) (ap (λ j. j.deadline) here) in
      let kept : (e : ℕ) → 0 < e → is_deadline e t.tasks ≡ true → is_deadline e js ≡ true =
      λ e some. deadline-kept e t.tasks js some (set_each (λ i j. (get_or t.tasks i free).deadline ≡ e → j.deadline ≡ e) t.tasks slot k (λ q. omega arith) (λ i q. q)) in
      ready-room t.tasks js t.clock same (set_each (λ i j. j.deadline ≤ t.clock + longest_period) t.tasks slot k by late) (with_end k.deadline t.clock (lowered t.start t.clock t.slices))
      (with_end-room t.tasks js k.deadline at t.clock (lowered t.start t.clock t.slices) ahead (low js kept))
