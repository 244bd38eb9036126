-- The tests that the code makes, in the code's order, say what `is_sound_at` says, once the numbers are in range and each task is sound by itself.
-- Test by test: the load, the plan start, each slice, and by counting the boundaries.
use mathlib.Core.Path.{◌≡◌, refl, ap, sym, ◌∙◌}
use mathlib.Core.Bool.{Bool, true, false, not, ◌&&◌, ◌||◌, and-eq-true_iff, and-false}
use mathlib.Core.List.{List, [], ◌∷◌}
use Prim.Native.Nat.{ℕ, zero, suc, ◌-◌, ◌*◌, ◌≤◌, ◌<◌}
use native.Mathlib.Omega.{arith}
use borrow.Author.Tests.{lt-ltb, le-ltb, le-leb, eq-eqb, ne_eqb, ltb-true, leb-true}
use lib.Dec.{leb, ltb, eqb}
use lib.ListN.{length, take, drop, length-take, length-drop}
use Rattle.rules.specs.declared.Task.{Task}
use Rattle.rules.specs.Station.{Slice, grains, last_tick, most_cores, row_count, share_words, pending, rates, sum}
use Rattle.rules.specs.Slices.{is_end}
use Rattle.rules.specs.Sound.{Each, Columns, every, each_task, each_slice, lawful_test, in_time_test, unused_test, slice_test, is_deadline, owed, is_sound}
use Rattle.rules.specs.Words.{rows_of, slices_of}
use Rattle.rows.specs.Row.{shares_fit, owed_in, hits_in}
use Rattle.rules.proofs.Floor.{by_lt, by_eq, by_bool}
use Rattle.rules.specs.Held.{used_of, table_at, is_sound_at}
use Rattle.slots.specs.Tests.{task_test, dues_of, rates_of}
use Rattle.sound.specs.Due.{within, row_test, slice_check, all_hits, plan_test, scalars_test}
use Rattle.slots.proofs.Tests.{same_bool, cross}
use Rattle.rules.proofs.Sound.{every-to, every-from}
use Rattle.sound.proofs.Near.{AllNear, tasks-near, owed_all, owed-from, hits_from, deadline-soon, shares-from}
use Rattle.sound.proofs.Ends.{jobs, jobs_left, jobs_none, ended-all, hits_ended}

-- the three tests of each task, and each test of all tasks
tasks_split : (clock start : ℕ) (ks : List Task) → each_task (task_test clock start) ks ≡ (each_task lawful_test ks && (each_task (in_time_test clock start) ks && each_task unused_test ks))
unfolding each_task task_test
tasks_split clock start [] = refl
tasks_split clock start (k ∷ ks) =
    let t = in_time_test clock start k in
    let u = unused_test k in
    let T = each_task (in_time_test clock start) ks in
    let U = each_task unused_test ks in
    rw (tasks_split clock start ks)
    (cross (lawful_test k) (t && u) (each_task lawful_test ks) (T && U) ∙ ap (λ b. (lawful_test k && each_task lawful_test ks) && b) (cross t u T U))

-- each row has 64 words
columns : (lo n : ℕ) (ends words : List ℕ) → 64 * n ≤ length words → Each Columns lo (slices_of ends (rows_of n words))
unfolding slices_of rows_of
columns lo zero [] words h = tt
columns lo zero (d ∷ ds) words h = tt
columns lo (suc n) [] words h = tt
columns lo (suc n) (d ∷ ds) words h = (simp length-take (omega arith), columns d n ds (drop 64 words) (simp length-drop (omega arith)))

-- the tests of a row in the code's order, and in the order of the clauses
order : (a b : Bool) → (a && (b && (true && true))) ≡ (b && (a && true))
order true true = refl
order true false = refl
order false true = refl
order false false = refl

module _ (start : ℕ) (ks : List Task) (near : AllNear start ks) where
  slice_same : (lo : ℕ) (s : Slice) → start ≤ lo → length s.shares ≡ 64 → slice_check start (dues_of start ks) (rates_of ks) lo s ≡ slice_test ks lo s
  unfolding slice_check row_test slice_test within every
  slice_same lo s h wide =
      let e = s.end in
      by_lt lo e
      (λ rise.
      let after : start < e = omega arith in
      rw (owed-from start e after ks near, hits_from start e after ks near, shares-from start e after lo ks s.shares near, eq-eqb (length s.shares) 64 wide, lt-ltb lo e rise)
      (by_bool (is_deadline e ks)
      (λ is.
      let soon = deadline-soon start e after ks near is in
      rw (is, le-leb (e - start) 60000 (omega arith), le-leb (e - lo) 60000 (omega arith)) (order (shares_fit (e - start) (grains (e - lo)) (dues_of start ks) s.shares) (leb (sum s.shares) ((e - lo) * owed e ks))))
      (λ none. rw none (simp and-false))))
      (λ flat. rw (le-ltb lo e flat, eq-eqb (length s.shares) 64 wide))

  slice_rises : (lo : ℕ) (s : Slice) → slice_test ks lo s ≡ true → lo < s.end
  unfolding slice_test
  slice_rises lo s h = ltb-true lo s.end (every-to _ h).1.0

  each_same : (lo : ℕ) (ss : List Slice) → start ≤ lo → Each Columns lo ss → each_slice (slice_check start (dues_of start ks) (rates_of ks)) lo ss ≡ each_slice (slice_test ks) lo ss
  unfolding each_slice
  each_same lo [] h c = refl
  each_same lo (s ∷ ss) h c =
      rw (slice_same lo s h c.0)
      (by_bool (slice_test ks lo s)
      (λ is. let rise = slice_rises lo s is in ap (λ b. slice_test ks lo s && b) (each_same s.end ss (omega arith) c.1))
      (λ none. rw none))

  module _ (slots : length ks ≡ 64) where
    still-same : ltb (hits_in 0 (dues_of start ks)) 64 ≡ not (each_task (λ k. not (pending k)) ks)
    still-same =
        let all = jobs_left start ks near in
        let hits = hits_in 0 (dues_of start ks) in
        rw (jobs_none ks)
        (by_eq (jobs ks) 0
        (λ q. rw (eq-eqb (jobs ks) 0 q, le-ltb hits 64 (omega arith)))
        (λ ne. rw (ne_eqb (jobs ks) 0 ne, lt-ltb hits 64 (omega arith))))

    ends_same : (ss : List Slice) → each_slice (slice_check start (dues_of start ks) (rates_of ks)) start ss ≡ true
        → eqb (all_hits start (dues_of start ks) start ss) (64 - hits_in 0 (dues_of start ks)) ≡ each_task (λ k. not (pending k) || is_end k.deadline ss) ks
    ends_same ss h =
        let left : 64 - hits_in 0 (dues_of start ks) ≡ jobs ks = omega (arith, jobs_left start ks near) in
        rw (left, hits_ended start ks (rates_of ks) near start ss (omega arith) h) (sym (ended-all ss ks))

pub record InRange (cores clock start count : ℕ) : Type 0 where
  pub some-cores : cores ≤ most_cores
  pub range : clock ≤ last_tick
  pub begun : start ≤ clock
  pub some-rows : count ≤ row_count

pub in_range : (cores clock start count : ℕ) → scalars_test cores clock start count ≡ true → InRange cores clock start count
unfolding scalars_test
in_range cores clock start count h =
    let s = every-to _ h in
    record { some-cores = leb-true _ _ s.1.0; range = leb-true _ _ s.1.1.0; begun = leb-true _ _ s.1.1.1.0; some-rows = leb-true _ _ s.1.1.1.1.0 }

module _ (cores clock start used : ℕ) (tasks : List Task) (count : ℕ) (ends words : List ℕ) where
  -- what the code asks first; a sound table passes it
  pub record Asked : Type 0 where
    pub enough : share_words ≤ length words
    pub scalars : scalars_test cores clock start count ≡ true
    pub each : (eqb used (used_of tasks) && each_task (task_test clock start) tasks) ≡ true

  pub asked : is_sound_at cores clock start used tasks count ends words ≡ true → Asked
  unfolding is_sound_at is_sound table_at scalars_test
  asked h =
      let a = every-to _ h in
      let t = every-to _ a.1.0 in
      let b = t.1.1.1 in
      let c = b.1.1.1 in
      let sound : each_task (task_test clock start) tasks ≡ true = tasks_split clock start tasks ∙ (and-eq-true_iff _ _).1 (b.1.0, (and-eq-true_iff _ _).1 (c.0, c.1.1.1.1.1.0)) in
      record {
        enough = leb-true 4096 (length words) a.0;
        scalars = every-from _ (t.1.0, (t.1.1.0, (b.0, (c.1.0, (a.1.1.1.0, tt)))));
        each = (and-eq-true_iff _ _).1 (a.1.1.0, sound);
      }

  pub refused : (Asked → ⊥) → false ≡ is_sound_at cores clock start used tasks count ends words
  refused none = by_bool (is_sound_at cores clock start used tasks count ends words) (λ h. absurd (none (asked h))) sym

  module _ (slots : length tasks ≡ 64) (a : Asked) where
    near : AllNear start tasks
    near = tasks-near clock start (in_range cores clock start count a.scalars).begun tasks ((and-eq-true_iff (eqb used (used_of tasks)) _).0 a.each).1

    slices-same : each_slice (slice_check start (dues_of start tasks) (rates_of tasks)) start (slices_of (take count ends) (rows_of row_count words))
        ≡ each_slice (slice_test tasks) start (slices_of (take count ends) (rows_of row_count words))
    slices-same = each_same start tasks near start (slices_of (take count ends) (rows_of row_count words)) (omega arith) (columns start 64 (take count ends) words a.enough)

    -- the clauses by their places in `plan_test`, `is_sound_at` and `is_sound`
    to : plan_test cores clock start (dues_of start tasks) (rates_of tasks) count ends words ≡ true → is_sound_at cores clock start used tasks count ends words ≡ true
    unfolding plan_test is_sound_at is_sound table_at scalars_test
    to h =
        let p = every-to _ h in
        let s = every-to _ a.scalars in
        let u = (and-eq-true_iff (eqb used (used_of tasks)) _).0 a.each in
        let l = (and-eq-true_iff (each_task lawful_test tasks) _).0 (sym (tasks_split clock start tasks) ∙ u.1) in
        let t = (and-eq-true_iff (each_task (in_time_test clock start) tasks) (each_task unused_test tasks)).0 l.1 in
        let ss = slices_of (take count ends) (rows_of row_count words) in
        let load : leb (rates tasks) (grains cores) ≡ true = rw (← (owed_all start tasks)) p.0 in
        let still : (not (each_task (λ k. not (pending k)) tasks) || eqb start clock) ≡ true = rw (← (still-same start tasks near slots)) p.1.0 in
        let all : each_task (λ k. not (pending k) || is_end k.deadline ss) tasks ≡ true = sym (ends_same start tasks near slots ss p.1.1.0) ∙ p.1.1.1.0 in
        let each : each_slice (slice_test tasks) start ss ≡ true = sym slices-same ∙ p.1.1.0 in
        let table : is_sound (table_at cores clock start tasks count ends words) ≡ true =
        every-from _ (
          eq-eqb (length tasks) 64 slots,
          (s.0, (s.1.0, (s.1.1.0, (l.0, (load, (t.0, (s.1.1.1.0, (still, (all, (each, (t.1, tt))))))))))),
        ) in
        every-from _ (le-leb 4096 (length words) a.enough, (table, (u.0, (s.1.1.1.1.0, (p.1.1.1.1.0, (p.1.1.1.1.1.0, tt))))))

    from : is_sound_at cores clock start used tasks count ends words ≡ true → plan_test cores clock start (dues_of start tasks) (rates_of tasks) count ends words ≡ true
    unfolding plan_test is_sound_at is_sound table_at
    from h =
        let w = every-to _ h in
        let t = (every-to _ w.1.0).1.1.1.1.1 in
        let ss = slices_of (take count ends) (rows_of row_count words) in
        let load : leb (owed_in 0 (dues_of start tasks) (rates_of tasks)) (grains cores) ≡ true = rw (owed_all start tasks) t.0 in
        let still : (ltb (hits_in 0 (dues_of start tasks)) 64 || eqb start clock) ≡ true = rw (still-same start tasks near slots) t.1.1.1.0 in
        let each : each_slice (slice_check start (dues_of start tasks) (rates_of tasks)) start ss ≡ true = slices-same ∙ t.1.1.1.1.1.0 in
        let all = ends_same start tasks near slots ss each ∙ t.1.1.1.1.0 in
        every-from _ (load, (still, (each, (all, (w.1.1.1.1.0, (w.1.1.1.1.1.0, tt))))))

    whole : plan_test cores clock start (dues_of start tasks) (rates_of tasks) count ends words ≡ is_sound_at cores clock start used tasks count ends words
    whole = same_bool _ _ to from

    -- the same with what was written for the deadlines and rates, as the code says it
    pub decided : {due rates : List ℕ} {r : Bool} → due ≡ dues_of start tasks → rates ≡ rates_of tasks → r ≡ plan_test cores clock start due rates count ends words → r ≡ is_sound_at cores clock start used tasks count ends words
    decided {due} {rates} dues rated is =
        is
        ∙ ap (λ d. plan_test cores clock start d rates count ends words) dues
        ∙ ap (λ d. plan_test cores clock start (dues_of start tasks) d count ends words) rated
        ∙ whole
