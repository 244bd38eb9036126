-- Every job gets exactly its allowance: what a pending job is owed is what its slot holds from the clock to its deadline, by induction over
-- the history. Each call takes off what is held in it, the job's deadline ends it owed nothing, and a new job is owed its allowance.
use mathlib.Core.Path.{◌≡◌, refl, ap, sym, ◌∙◌}
use mathlib.Core.Logic.{◌⊎◌, inl, inr, ⊎_elim}
use mathlib.Core.List.Memᴰ
use mathlib.Core.List.{List, [], ◌∷◌, Memᴰ}
use Prim.Native.Nat.{ℕ, ◌+◌, ◌≤◌, ◌<◌, min}
use native.Mathlib.Omega.{arith}
use borrow.Author.Tests.{ne_eqb}
use Rattle.rules.specs.Station.{Table, grains, task_at}
use Rattle.rules.specs.Release.{released}
use Rattle.rules.specs.Sound.{Sound}
use Rattle.rules.specs.Calls.{Call, declare, withdraw, release, advance, Outcome, refusal, with_task, done, accepted, step}
use Rattle.rules.specs.History.{after, record_of}
use Rattle.rules.proofs.Floor.{by_lt}
use Rattle.rules.proofs.Tasks.{none_pending, pending-some}
use Rattle.rules.proofs.Kept.{step-sound}
use Rattle.history.specs.Jobs.{Job, job_at, jobs_by, jobs_of, grains_held, still_owed}
use Rattle.history.proofs.Reached.{advanced-clock}
use Rattle.history.proofs.Cases.{Ready, leaves, task_jobs, step_cases}
use Rattle.history.proofs.Steps.{Made, Change, released_made, step_later, step_change}
use Rattle.history.proofs.Record.{after_later, record_now, record-next}
use Rattle.history.proofs.Counted.{grains-same, grains_join, grains_none}
use Rattle.history.proofs.Owed.{owed_none, owed-advance, owed_other, owed_made}

-- Up to when a job of deadline d is counted, and what is left to it: to d with nothing, where the clock has reached it; otherwise to the
-- last clock with what it is still owed then.
abbrev Until : ℕ → ℕ → ℕ → ℕ → ℕ → Type 0
Until d last owed to left = ((d ≤ last) × (to ≡ d) × (left ≡ 0)) ⊎ ((last < d) × (to ≡ last) × (left ≡ owed))

until_after : (c d last owed to left : ℕ) → c ≤ d → c ≤ last → Until d last owed to left → c ≤ to
until_after c d last owed to left h g (inl p) = omega arith
until_after c d last owed to left h g (inr p) = omega arith

-- a call made the job j, and owes it its allowance
record NewJob (t : Table) (c : Call) (o : Outcome) (j : Job) : Type 0 where
  is : j ≡ job_at t j.slot
  made : Made t c o j.slot
  owed : still_owed o.table j.slot ≡ j.allowance

-- a refused call makes no job
refused_jobs : (t : Table) (c : Call) (n : ℕ) → 0 < n → jobs_by t c (record { answer = refusal n; table = t; segments = [] }) ≡ []
unfolding jobs_by refusal
refused_jobs t (declare period cost) n some = refl
refused_jobs t (withdraw slot) n some = refl
refused_jobs t (release slot) n some = rw (ne_eqb n 0 (λ q. omega arith))
refused_jobs t (advance tick room) n some = refl

module _ (words : ℕ) where
  module _ (t : Table) (sound : Sound t) where
    -- a call takes off what is held in it
    step-owed : (k : ℕ) (c : Call) → 0 < (task_at t k).deadline
        → grains_held (step words t c).segments k (grains t.clock) (grains (step words t c).table.clock) + still_owed (step words t c).table k ≡ still_owed t k
    unfolding done with_task released accepted leaves still_owed
    step-owed k c pending =
        step_cases (λ c o. grains_held o.segments k (grains t.clock) (grains o.table.clock) + still_owed o.table k ≡ still_owed t k) words t sound (record {
          on_refusal = λ c n some. omega (arith, grains_none k [] (grains t.clock));
          on_task = λ c value slot j on old new. omega (arith, grains_none k [] (grains t.clock));
          on_release = λ slot ready. omega (arith, grains_none k [] (grains t.clock), owed_other t sound slot ready k (λ q. other slot ready q));
          on_advance = λ tick room b later range before. ap (λ c. grains_held (leaves t b).segments k (grains t.clock) (grains c) + still_owed (leaves t b).table k) (advanced-clock t b before)
              ∙ owed-advance t sound k b later before;
        }) c
      where
        other : (slot : ℕ) → Ready t slot → k ≡ slot → ⊥
        other slot ready q = let none : (task_at t slot).deadline ≡ 0 = none_pending (task_at t slot) ready.none in omega (arith, ap (λ i. (task_at t i).deadline) q)

    new_job : (slot : ℕ) → Ready t slot → NewJob t (release slot) (accepted t (release slot)) (job_at t slot)
    unfolding job_at accepted done
    new_job slot ready = record { is = refl; made = released_made t slot sound ready; owed = owed_made t sound slot ready }

    step_new : (j : Job) (c : Call) → Memᴰ j (jobs_by t c (step words t c)) → NewJob t c (step words t c) j
    unfolding jobs_by
    step_new j c =
        step_cases (λ c o. Memᴰ j (jobs_by t c o) → NewJob t c o j) words t sound (record {
          on_refusal = λ c n some m. absurd (Memᴰ.not-nil (rw (refused_jobs t c n some) at m));
          on_task = λ c value slot k on old new m. absurd (Memᴰ.not-nil (rw (task_jobs t c (done value (with_task t slot k)) on) at m));
          on_release = λ slot ready m. rw (Memᴰ.eq_of_singleton (rw (released_made t slot sound ready).jobs at m)) (new_job slot ready);
          on_advance = λ tick room b later range before m. absurd (Memᴰ.not-nil m);
        }) c

    -- the count over a history, split at the clock after its first call
    record-grains : (c : Call) (cs : List Call) (k d : ℕ) → (step words t c).table.clock ≤ d
        → grains_held (record_of words t (c ∷ cs)) k (grains t.clock) (grains d)
        ≡ grains_held (step words t c).segments k (grains t.clock) (grains (step words t c).table.clock) + grains_held (record_of words (step words t c).table cs) k (grains (step words t c).table.clock) (grains d)
    record-grains c cs k d h =
        let u = (step words t c).table in
        let all = record_of words t (c ∷ cs) in
        let first = grains-same k all (step words t c).segments (grains t.clock) (grains u.clock) (λ core grain a b. record_now words t c cs core grain sound b) in
        let rest = grains-same k all (record_of words u cs) (grains u.clock) (grains d) (λ core grain a b. record-next words t c cs core grain sound a) in
        omega (arith, grains_join k all (grains t.clock) (grains u.clock) (grains d) (omega (arith, step_later words t sound c)) (omega arith))

    -- a pending job over one call, where it is right over the others
    held-step : (c : Call) (cs : List Call) (k last owed to left : ℕ) → (step words t c).table.clock ≤ last → 0 < (task_at t k).deadline → Until (task_at t k).deadline last owed to left
        → (0 < (task_at (step words t c).table k).deadline → Until (task_at (step words t c).table k).deadline last owed to left
        → grains_held (record_of words (step words t c).table cs) k (grains (step words t c).table.clock) (grains to) + left ≡ still_owed (step words t c).table k)
        → Change t c (step words t c) k → grains_held (record_of words t (c ∷ cs)) k (grains t.clock) (grains to) + left ≡ still_owed t k
    held-step c cs k last owed to left within pending until others (inl same) =
        let u = (step words t c).table in
        let later = (step-sound words t c sound).in_time k (pending-some (task_at u k) (omega arith)) in
        let here = until_after u.clock (task_at t k).deadline last owed to left (omega arith) within until in
        omega (arith, record-grains c cs k to here, step-owed k c pending, others (omega arith) (rw same until))
    held-step c cs k last owed to left within pending (inl p) others (inr (inl ends)) =
        let u = (step words t c).table in
        let end : to ≡ u.clock = p.1 ∙ ends.now in
        let none = grains_none k (record_of words u cs) (grains u.clock) in
        rw end (omega (arith, record-grains c cs k u.clock (omega arith), step-owed k c pending, owed_none u (step-sound words t c sound) k ends.over))
    held-step c cs k last owed to left within pending (inr p) others (inr (inl ends)) = absurd (omega (arith, ends.now))
    held-step c cs k last owed to left within pending until others (inr (inr made)) = absurd (omega (arith, made.none))

  -- a pending job holds what it is owed
  owed_held : (t : Table) (cs : List Call) (k to left : ℕ) → Sound t → 0 < (task_at t k).deadline → Until (task_at t k).deadline (after words t cs).clock (still_owed (after words t cs) k) to left
      → grains_held (record_of words t cs) k (grains t.clock) (grains to) + left ≡ still_owed t k
  unfolding after
  owed_held t [] k to left sound pending (inl p) = absurd (omega (arith, sound.in_time k (pending-some (task_at t k) pending)))
  owed_held t [] k to left sound pending (inr p) = rw p.1 (omega (arith, grains_none k (record_of words t []) (grains t.clock)))
  owed_held t (c ∷ cs) k to left sound pending until =
      let u = (step words t c).table in
      let fine = step-sound words t c sound in
      let last = after words u cs in
      held-step t sound c cs k last.clock (still_owed last k) to left (after_later words u cs fine) pending until (λ still until. owed_held u cs k to left fine still until) (step_change words t sound k c)

  -- a job that the first call makes
  new_held : (t : Table) (c : Call) (cs : List Call) (j : Job) (to left : ℕ) → Sound t → NewJob t c (step words t c) j
      → Until j.deadline (after words (step words t c).table cs).clock (still_owed (after words (step words t c).table cs) j.slot) to left
      → grains_held (record_of words t (c ∷ cs)) j.slot (grains j.released) (grains to) + left ≡ j.allowance
  unfolding job_at
  new_held t c cs j to left sound new until =
      let u = (step words t c).table in
      let k = j.slot in
      let fine = step-sound words t c sound in
      let last = after words u cs in
      let made = new.made in
      let from : j.released ≡ t.clock = ap (λ i. i.released) new.is in
      let end : j.deadline ≡ (task_at u k).deadline = ap (λ i. i.deadline) new.is ∙ sym made.deadline in
      let none = ap (λ n. grains_held (step words t c).segments k (grains t.clock) (grains n)) made.now ∙ grains_none k (step words t c).segments (grains t.clock) in
      let here = until_after u.clock j.deadline last.clock (still_owed last k) to left (omega arith) (after_later words u cs fine) until in
      rw from (omega (arith, new.owed, record-grains t sound c cs k to here, owed_held u cs k to left fine (omega arith) (rw end at until)))

  -- jobs are made at the clock or later
  jobs_later : (t : Table) (cs : List Call) (j : Job) → Sound t → Memᴰ j (jobs_of words t cs) → t.clock ≤ j.released
  unfolding jobs_of job_at
  jobs_later t [] j sound m = absurd (Memᴰ.not-nil m)
  jobs_later t (c ∷ cs) j sound m =
      ⊎_elim
      (λ new. omega (arith, ap (λ i. i.released) (step_new t sound j c new).is))
      (λ old. omega (arith, step_later words t sound c, jobs_later (step words t c).table cs j (step-sound words t c sound) old))
      (Memᴰ.append_cases (jobs_by t c (step words t c)) m)

  -- every job, due or not
  job-held : (t : Table) (cs : List Call) (j : Job) (to left : ℕ) → Sound t → Memᴰ j (jobs_of words t cs)
      → Until j.deadline (after words t cs).clock (still_owed (after words t cs) j.slot) to left
      → grains_held (record_of words t cs) j.slot (grains j.released) (grains to) + left ≡ j.allowance
  unfolding jobs_of after
  job-held t [] j to left sound m until = absurd (Memᴰ.not-nil m)
  job-held t (c ∷ cs) j to left sound m until =
      let u = (step words t c).table in
      let fine = step-sound words t c sound in
      ⊎_elim
      (λ new. new_held t c cs j to left sound (step_new t sound j c new) until)
      (λ old. let later = jobs_later u cs j fine old in
      rw (grains-same j.slot (record_of words t (c ∷ cs)) (record_of words u cs) (grains j.released) (grains to) (λ core grain a b. record-next words t c cs core grain sound (omega arith)))
      (job-held u cs j to left fine old until))
      (Memᴰ.append_cases (jobs_by t c (step words t c)) m)

  -- where its deadline is reached
  pub due_held : (t : Table) (cs : List Call) (j : Job) → Sound t → Memᴰ j (jobs_of words t cs) → j.deadline ≤ (after words t cs).clock
      → grains_held (record_of words t cs) j.slot (grains j.released) (grains j.deadline) ≡ j.allowance
  due_held t cs j sound m due = omega (arith, job-held t cs j j.deadline 0 sound m (inl (due, refl, refl)))

  pub due_owed : (t : Table) (cs : List Call) (k : ℕ) → Sound t → 0 < (task_at t k).deadline → (task_at t k).deadline ≤ (after words t cs).clock
      → grains_held (record_of words t cs) k (grains t.clock) (grains (task_at t k).deadline) ≡ still_owed t k
  due_owed t cs k sound pending due = omega (arith, owed_held t cs k (task_at t k).deadline 0 sound pending (inl (due, refl, refl)))

  -- where it is not
  pub ahead-held : (t : Table) (cs : List Call) (j : Job) → Sound t → Memᴰ j (jobs_of words t cs) → (after words t cs).clock < j.deadline
      → grains_held (record_of words t cs) j.slot (grains j.released) (grains (after words t cs).clock) + still_owed (after words t cs) j.slot ≡ j.allowance
  ahead-held t cs j sound m ahead = job-held t cs j (after words t cs).clock (still_owed (after words t cs) j.slot) sound m (inr (ahead, refl, refl))

  -- in either case no more than its allowance so far
  pub held-bounded : (t : Table) (cs : List Call) (j : Job) → Sound t → Memᴰ j (jobs_of words t cs)
      → grains_held (record_of words t cs) j.slot (grains j.released) (grains (min j.deadline (after words t cs).clock)) ≤ j.allowance
  held-bounded t cs j sound m =
      let now = (after words t cs).clock in
      by_lt now j.deadline
      (λ ahead. let to : min j.deadline now ≡ now = omega arith in rw to (omega (arith, ahead-held t cs j sound m ahead)))
      (λ due. let to : min j.deadline now ≡ j.deadline = omega arith in rw to (omega (arith, due_held t cs j sound m due)))
