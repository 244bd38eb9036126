-- Each pending job is due at one boundary or at none, since boundaries rise. So as many jobs are due at boundaries as are pending
-- exactly if each pending job's deadline is a boundary. Counted slice by slice, and in each slice task by task.
use mathlib.Core.Path.{◌≡◌, refl, sym}
use mathlib.Core.Bool.{Bool, true, false, cond, not, ◌&&◌, ◌||◌, and-eq-true_iff, and-false}
use mathlib.Core.List.{List, [], ◌∷◌}
use Prim.Native.Nat.{ℕ, ◌+◌, ◌-◌, ◌≤◌, ◌<◌}
use native.Mathlib.Nat.{zero-add}
use native.Mathlib.Omega.{arith}
use borrow.Author.Tests.{lt-ltb, le-ltb, eq-eqb, ne_eqb, ltb-true, eqb-true}
use lib.Dec.{ltb, eqb}
use lib.ListN.{length}
use Rattle.rules.specs.declared.Task.{Task}
use Rattle.rules.specs.Station.{Slice, pending}
use Rattle.rules.specs.Slices.{is_end}
use Rattle.rules.specs.Sound.{Each, Rises, each_task, each_slice}
use Rattle.rules.proofs.Floor.{by_lt, by_eq, by_bool}
use Rattle.rows.specs.Row.{hits_in}
use Rattle.slots.specs.Tests.{dues_of}
use Rattle.sound.specs.Due.{within, slice_check, slice_hits, all_hits}
use Rattle.rules.proofs.Sound.{or_to}
use Rattle.sound.proofs.Near.{AllNear, eqb-from}

-- the pending jobs, counted, and those that are due at a boundary
unfoldable pub jobs : List Task → ℕ
jobs [] = 0
jobs (k ∷ ks) = cond (pending k) 1 0 + jobs ks

unfoldable pub ended : List Slice → List Task → ℕ
ended ss [] = 0
ended ss (k ∷ ks) = cond (pending k && is_end k.deadline ss) 1 0 + ended ss ks

-- a slot has no job exactly if it is due at the plan start
pub jobs_left : (start : ℕ) (ks : List Task) → AllNear start ks → hits_in 0 (dues_of start ks) + jobs ks ≡ length ks
unfolding hits_in dues_of jobs pending
jobs_left start [] n = refl
jobs_left start (k ∷ ks) n =
    let d = k.deadline in
    let rest = jobs_left start ks n.1 in
    by_lt 0 d
    (λ job. let after = n.0.job job in rw (n.0.due, lt-ltb 0 d job, ne_eqb 0 (d - start) (λ q. omega arith)) (omega arith))
    (λ none. rw (n.0.due, le-ltb 0 d none, eq-eqb 0 (d - start) (omega arith)) (omega arith))

pub jobs_none : (ks : List Task) → each_task (λ k. not (pending k)) ks ≡ eqb (jobs ks) 0
unfolding each_task jobs
jobs_none [] = refl
jobs_none (k ∷ ks) = rw (jobs_none ks) (one (pending k) (jobs ks))
  where
    one : (p : Bool) (n : ℕ) → (not p && eqb n 0) ≡ eqb (cond p 1 0 + n) 0
    one true n = sym (ne_eqb (1 + n) 0 (λ q. omega arith))
    one false n = rw zero-add

ended-few : (ss : List Slice) (ks : List Task) → ended ss ks ≤ jobs ks
unfolding ended jobs
ended-few ss [] = omega arith
ended-few ss (k ∷ ks) = one (pending k) (is_end k.deadline ss) (ended ss ks) (jobs ks) (ended-few ss ks)
  where
    one : (p q : Bool) (e j : ℕ) → e ≤ j → cond (p && q) 1 0 + e ≤ cond p 1 0 + j
    one true true e j h = omega arith
    one true false e j h = omega arith
    one false q e j h = omega arith

pub ended-all : (ss : List Slice) (ks : List Task) → each_task (λ k. not (pending k) || is_end k.deadline ss) ks ≡ eqb (ended ss ks) (jobs ks)
unfolding each_task ended jobs
ended-all ss [] = refl
ended-all ss (k ∷ ks) = rw (ended-all ss ks) (one (pending k) (is_end k.deadline ss) (ended ss ks) (jobs ks) (ended-few ss ks))
  where
    one : (p q : Bool) (e j : ℕ) → e ≤ j → ((not p || q) && eqb e j) ≡ eqb (cond (p && q) 1 0 + e) (cond p 1 0 + j)
    one true true e j h = by_eq e j (λ q. rw (eq-eqb e j q, eq-eqb (1 + e) (1 + j) (omega arith))) (λ ne. rw (ne_eqb e j ne, ne_eqb (1 + e) (1 + j) (λ q. ne (omega arith))))
    one true false e j h = sym (ne_eqb (0 + e) (1 + j) (λ q. omega arith))
    one false q e j h = simp zero-add

ended_none : (ks : List Task) → ended [] ks ≡ 0
unfolding ended is_end
ended_none [] = refl
ended_none (k ∷ ks) = rw (and-false (pending k)) (omega (arith, ended_none ks))

-- boundaries lie after the tick from which they rise
end_after : (lo d : ℕ) (ss : List Slice) → Each Rises lo ss → is_end d ss ≡ true → lo < d
unfolding is_end
end_after lo d [] r h = let z : ◌≡◌ {A = ℕ} 0 1 = cc in omega arith
end_after lo d (s ∷ ss) r h =
    by_bool (eqb d s.end)
    (λ q. let is = eqb-true d s.end q in let rise = r.0 in omega arith)
    (λ ne. let later = end_after s.end d ss r.1 (or_to _ _ h ne) in let rise = r.0 in omega arith)

-- one slice more: the jobs that are due at its end are due at no later one
ended_more : (start : ℕ) (s : Slice) (ss : List Slice) → start < s.end → Each Rises s.end ss → (ks : List Task) → AllNear start ks
    → hits_in (s.end - start) (dues_of start ks) + ended ss ks ≡ ended (s ∷ ss) ks
unfolding hits_in dues_of ended is_end pending
ended_more start s ss after r [] n = refl
ended_more start s ss after r (k ∷ ks) n =
    let d = k.deadline in
    let e = s.end in
    let rest = ended_more start s ss after r ks n.1 in
    rw (n.0.due, eqb-from start e d after)
    (by_eq e d
    (λ q.
    let other : is_end d ss ≡ false = by_bool (is_end d ss) (λ h. let l = end_after e d ss r h in let bad : ⊥ = omega arith in absurd bad) (λ h. h) in
    rw (eq-eqb e d q, eq-eqb d e (sym q), other, lt-ltb 0 d (omega arith)) (omega arith))
    (λ ne. rw (ne_eqb e d ne, ne_eqb d e (λ q. ne (sym q))) (omega arith)))

module _ (start : ℕ) (due rates : List ℕ) where
  check_within : (lo : ℕ) (s : Slice) → slice_check start due rates lo s ≡ true → within start lo s.end ≡ true
  unfolding slice_check
  check_within lo s h = ((and-eq-true_iff (within start lo s.end) _).0 h).0

  within_rises : (lo e : ℕ) → within start lo e ≡ true → lo < e
  unfolding within
  within_rises lo e h = ltb-true lo e ((and-eq-true_iff (ltb lo e) _).0 h).0

  checks_rise : (lo : ℕ) (ss : List Slice) → each_slice (slice_check start due rates) lo ss ≡ true → Each Rises lo ss
  unfolding each_slice
  checks_rise lo [] h = tt
  checks_rise lo (s ∷ ss) h =
      let both = (and-eq-true_iff (slice_check start due rates lo s) _).0 h in
      (within_rises lo s.end (check_within lo s both.0), checks_rise s.end ss both.1)

pub hits_ended : (start : ℕ) (ks : List Task) (rates : List ℕ) → AllNear start ks → (lo : ℕ) (ss : List Slice) → start ≤ lo
    → each_slice (slice_check start (dues_of start ks) rates) lo ss ≡ true → all_hits start (dues_of start ks) lo ss ≡ ended ss ks
unfolding all_hits each_slice slice_hits
hits_ended start ks rates n lo [] h c = sym (ended_none ks)
hits_ended start ks rates n lo (s ∷ ss) h c =
    let due = dues_of start ks in
    let both = (and-eq-true_iff (slice_check start due rates lo s) _).0 c in
    let inside = check_within start due rates lo s both.0 in
    let rise = within_rises start due rates lo s.end inside in
    rw (inside, hits_ended start ks rates n s.end ss (omega arith) both.1)
    (ended_more start s ss (omega arith) (checks_rise start due rates s.end ss both.1) ks n)
