-- The promises of demand 3: of every history of calls on a sound table, then of the calls as they run, from open. Nothing is shown here but what is cited.
use mathlib.Core.Path.{◌≡◌, sym, ◌∙◌}
use mathlib.Core.Bool.{true}
use mathlib.Core.Logic.{◌⊎◌, ⊎_elim}
use mathlib.Core.List.{List, Memᴰ}
use Prim.Native.Nat.{ℕ, suc, ◌+◌, ◌≤◌, ◌<◌}
use lib.ListN.{length}
use Rattle.rules.specs.Station.{Table, grains, task_at}
use Rattle.rules.specs.Sound.{Sound}
use Rattle.rules.specs.Calls.{Call, Outcome, opened}
use Rattle.rules.specs.History.{after, outcomes, record_of, held_at, stamped}
use Rattle.rules.proofs.Kept.{opened-sound}
use Rattle.rules.specs.Checked.{examples}
use Rattle.rules.specs.Held.{Planner}
use Rattle.calls.specs.Called.{Left, opening}
use Rattle.history.specs.Carried.{Made, calls_of, carried, last_planner, last_words, record_in, stamped_in}
use Rattle.history.specs.Examples.{all_ran}
use Rattle.history.specs.Valid.{Valid}
use Rattle.history.specs.Jobs.{Job, jobs_of, JobDuring, holders_at, grains_held, still_owed}
use Rattle.history.proofs.Carried.{carried-cut, carried_never_1}
use Rattle.history.proofs.Opened.{open_ok, open_wide, open_record, open_clock, open_stamps}
use Rattle.history.proofs.Examples.{examples-ran}
use Rattle.history.proofs.Replay.{same_run}
use Rattle.history.proofs.Record.{record-within, record_one, record-job, outcomes_never_one, opened-idle}
use Rattle.history.proofs.Single.{record-single}
use Rattle.history.proofs.Served.{due_held, due_owed, ahead-held, held-bounded}

module _ (words : ℕ) (t : Table) (sound : Sound t) where
  -- How time was cut into advances changes nothing: with the same task and release calls at the same ticks, and the same last clock, two
  -- histories have the same record of who held each core in each grain, and the same table.
  pub cut_independence : (cs ds : List Call) → stamped words t cs ≡ stamped words t ds → (after words t cs).clock ≡ (after words t ds).clock
      → ((core grain : ℕ) → held_at (record_of words t cs) core grain ≡ held_at (record_of words t ds) core grain) × (after words t cs ≡ after words t ds)
  cut_independence cs ds stamps last = ((λ core grain. (same_run words core grain t cs ds sound stamps last).0), (same_run words 0 0 t cs ds sound stamps last).1)

  -- A job whose deadline is reached held exactly its allowance, from its release to its deadline.
  pub allowance-held : (cs : List Call) (j : Job) → Memᴰ j (jobs_of words t cs) → j.deadline ≤ (after words t cs).clock
      → grains_held (record_of words t cs) j.slot (grains j.released) (grains j.deadline) ≡ j.allowance
  allowance-held cs j = due_held words t cs j sound

  -- A job whose deadline is not yet reached has held its allowance less what it is still owed.
  pub allowance_so_far : (cs : List Call) (j : Job) → Memᴰ j (jobs_of words t cs) → (after words t cs).clock < j.deadline
      → grains_held (record_of words t cs) j.slot (grains j.released) (grains (after words t cs).clock) + still_owed (after words t cs) j.slot ≡ j.allowance
  allowance_so_far cs j = ahead-held words t cs j sound

  -- A job that was pending before the history held what it was still owed: its shares, less what it had run. (Its deadline, above 0, says
  -- that there is one.)
  pub pending-held : (cs : List Call) (k : ℕ) → 0 < (task_at t k).deadline → (task_at t k).deadline ≤ (after words t cs).clock
      → grains_held (record_of words t cs) k (grains t.clock) (grains (task_at t k).deadline) ≡ still_owed t k
  pending-held cs k = due_owed words t cs k sound

  -- No task held two cores in one grain.
  pub one_core : (cs : List Call) (core core' grain k : ℕ) → held_at (record_of words t cs) core grain ≡ suc k → held_at (record_of words t cs) core' grain ≡ suc k → core ≡ core'
  one_core cs core core' grain k = record_one words t cs core core' grain k sound

  -- Nor had a core two holders in one grain: at most one segment of the record holds it.
  pub one_holder : (cs : List Call) (core grain : ℕ) → holders_at (record_of words t cs) core grain ≤ 1
  one_holder cs core grain = record-single words t cs core grain sound

  -- None ran without a job: one made in the history whose release and deadline enclose the grain, or one that was pending before it and
  -- whose deadline is later. Nor was anything held from the last clock on, or on a core that is not there.
  pub no_job_no_run : (cs : List Call) (core grain k : ℕ) → held_at (record_of words t cs) core grain ≡ suc k
      → (JobDuring (jobs_of words t cs) k grain ⊎ (grain < grains (task_at t k).deadline)) × (grain < grains (after words t cs).clock) × (core < t.cores)
  no_job_no_run cs core grain k held =
      let r = record-job words t cs core grain k sound held in
      (r.0, record-within words t cs core grain k sound held, r.1)

-- No call is refused with 1.
pub never_refused_1 : (words : ℕ) (t : Table) → 4096 ≤ words → Sound t → (cs : List Call) (o : Outcome) → Memᴰ o (outcomes words t cs) → o.answer.number ≡ 1 → ⊥
never_refused_1 words t = outcomes_never_one words t

-- P1 to P10 and the listing come out right through the planner's contracts, whatever planner was there and whatever words are lent: one table, one statement.
pub run_examples : (q : Planner) (words : List ℕ) → 4096 ≤ length words → all_ran q words examples ≡ true
run_examples = examples-ran

-- From open, with 1 to 16 cores, the record is valid (history/specs/Valid.antt), with the jobs that were released.
pub opened_valid : (words m : ℕ) → 1 ≤ m → m ≤ 16 → (cs : List Call) → Valid m (after words (opened m) cs).clock (jobs_of words (opened m) cs) (record_of words (opened m) cs)
unfolding opened
opened_valid words m some few cs =
    let t = opened m in
    let sound = opened-sound m some few in
    record {
      single = one_holder words t sound cs;
      one_core = one_core words t sound cs;
      job = λ core grain k held. ⊎_elim (λ during. during) (λ l. absurd (opened-idle m k grain l)) (no_job_no_run words t sound cs core grain k held).0;
      within = λ core grain k held. let r = no_job_no_run words t sound cs core grain k held in (r.1, r.2);
      served = allowance-held words t sound cs;
      bounded = λ j. held-bounded words t cs j sound;
    }

-- The same of the calls as they run, from open with 1 to 16 cores: whatever planner q was there and whatever words are lent, if only 4,096. Each
-- call's exit values are handed to the next, and the record is read from the segment buffers.
module _ (q : Planner) (words : List ℕ) (long : 4096 ≤ length words) (m : ℕ) (some : 1 ≤ m) (few : m ≤ 16) where
  abbrev p : Planner
  p = (opening q words m).planner

  abbrev w : List ℕ
  w = (opening q words m).words

  abbrev jobs : List Made → List Job
  jobs ms = jobs_of (length words) (opened m) (calls_of ms)

  -- How time was cut into advances changes nothing: the same holder of every core in every grain, the same planner, and the same words.
  pub run_cut : (ms ns : List Made) → stamped_in p w ms ≡ stamped_in p w ns → (last_planner p w ms).state.clock ≡ (last_planner p w ns).state.clock
      → ((core grain : ℕ) → held_at (record_in (carried p w ms)) core grain ≡ held_at (record_in (carried p w ns)) core grain)
      × (last_planner p w ms ≡ last_planner p w ns) × (last_words p w ms ≡ last_words p w ns)
  run_cut ms ns stamps last =
      let stamps' = sym (open_stamps q words long m some few ms) ∙ stamps ∙ open_stamps q words long m some few ns in
      let last' = sym (open_clock q words long m some few ms) ∙ last ∙ open_clock q words long m some few ns in
      let cut = cut_independence (length words) (opened m) (opened-sound m some few) (calls_of ms) (calls_of ns) stamps' last' in
      let held = carried-cut p w ms ns (open_wide q words long m some few) (open_ok q words long m some few) stamps last in
      ((λ core grain. rw (open_record q words long m some few ms, open_record q words long m some few ns) (cut.0 core grain)), held.0, held.1)

  -- The record is valid: every job whose deadline is reached held exactly its allowance, no task held two cores in one grain, none ran without a job.
  pub run_valid : (ms : List Made) → Valid m (last_planner p w ms).state.clock (jobs ms) (record_in (carried p w ms))
  run_valid ms = rw (open_record q words long m some few ms, open_clock q words long m some few ms) (opened_valid (length words) m some few (calls_of ms))

  -- No call is refused with 1.
  pub run_never_1 : (ms : List Made) (l : Left) → Memᴰ l (carried p w ms) → l.answer.number ≡ 1 → ⊥
  run_never_1 ms = carried_never_1 p w ms (open_wide q words long m some few) (open_ok q words long m some few)
