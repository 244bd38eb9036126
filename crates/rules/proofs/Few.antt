-- At most as many slices as slots. Rising boundaries that are deadlines are deadlines of as many tasks: each one is after the begin of
-- its slice, and no task with that deadline is after its end. So the tasks that are still ahead are counted down along the slices.
use mathlib.Core.Path.{◌≡◌}
use mathlib.Core.Bool.{true, false, cond, false≢true}
use mathlib.Core.List.{List, [], ◌∷◌}
use Prim.Native.Nat.{ℕ, suc, ◌+◌, ◌≤◌, ◌<◌}
use native.Mathlib.Omega.{arith}
use lib.Dec.{ltb}
use lib.ListN.{length}
use borrow.Author.Tests.{lt-ltb, le-ltb, ne_eqb}
use Rattle.rules.specs.declared.Task.{Task}
use Rattle.rules.specs.Station.{Slice, Table, slot_count}
use Rattle.rules.specs.Sound.{Each, Rises, AtDeadline, Sound, is_deadline}
use Rattle.rules.proofs.Floor.{by_lt, by_eq}

-- how many tasks have a deadline after lo
unfoldable after : ℕ → List Task → ℕ
after lo [] = 0
after lo (k ∷ ks) = cond (ltb lo k.deadline) 1 0 + after lo ks

after-most : (lo : ℕ) (ks : List Task) → after lo ks ≤ length ks
unfolding after
after-most lo [] = omega arith
after-most lo (k ∷ ks) = elim (ltb lo k.deadline) as (λ t. cond t 1 0 + after lo ks ≤ suc (length ks)) [ true ↦ omega (arith, after-most lo ks) | false ↦ omega (arith, after-most lo ks) ]

module _ (lo e : ℕ) (up : lo < e) where
  one_fewer : (d : ℕ) → cond (ltb e d) 1 0 ≤ cond (ltb lo d) 1 0
  one_fewer d = by_lt e d (λ l. rw (lt-ltb e d l, lt-ltb lo d (omega arith)) (omega arith)) (λ g. rw (le-ltb e d g) (omega arith))

  after_fewer : (ks : List Task) → after e ks ≤ after lo ks
  unfolding after
  after_fewer [] = omega arith
  after_fewer (k ∷ ks) = omega (arith, one_fewer k.deadline, after_fewer ks)

  -- a task with the deadline e is after lo and not after e
  after_one : (ks : List Task) → is_deadline e ks ≡ true → after e ks + 1 ≤ after lo ks
  unfolding after is_deadline
  after_one [] h = absurd (false≢true h)
  after_one (k ∷ ks) h =
      by_eq e k.deadline
      (λ q. rw (le-ltb e k.deadline (omega arith), lt-ltb lo k.deadline (omega arith)) (omega (arith, after_fewer ks)))
      (λ ne. omega (arith, one_fewer k.deadline, after_one ks (rw ne_eqb at h)))

few-after : (ks : List Task) (lo : ℕ) (ss : List Slice) → Each Rises lo ss → Each (AtDeadline ks) lo ss → length ss ≤ after lo ks
few-after ks lo [] r d = omega arith
few-after ks lo (s ∷ ss) r d = omega (arith, few-after ks s.end ss r.1 d.1, after_one lo s.end r.0 ks d.0)

-- slices that rise and end at deadlines of the tasks ks are no more than these
pub few-slices : (ks : List Task) (lo : ℕ) (ss : List Slice) → Each Rises lo ss → Each (AtDeadline ks) lo ss → length ss ≤ length ks
few-slices ks lo ss r d = omega (arith, few-after ks lo ss r d, after-most lo ks)

-- so a sound table has at most as many slices as slots
pub sound-few : (t : Table) → Sound t → length t.slices ≤ slot_count
sound-few t sound = omega (arith, few-slices t.tasks t.start t.slices sound.boundaries.rising sound.boundaries.deadlines, sound.slots)
