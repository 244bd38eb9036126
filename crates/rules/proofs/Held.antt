-- Tasks in words: a load and a store law for any field of any slot, and the lists of a planner, which nothing is lost from.
-- The first words of a list are told one by one (`firsts`), so no law goes through the fields of a task.
use mathlib.Core.List.{List, [], ◌∷◌, ◌++◌, append-nil}
use mathlib.Core.Path.{◌≡◌, refl, ap, sym, ◌∙◌}
use Prim.Native.Nat.{ℕ, zero, suc, ◌+◌, ◌*◌, ◌≤◌, ◌<◌}
use native.Mathlib.Nat.{le_of_suc-le-suc, not-suc-le-zero}
use native.Mathlib.Omega.{arith}
use lib.ListN.{length, take, drop, get_or, set, length-drop, length-append, length-set, take-append-drop}
use lib.Seq.{drop-drop, take_at, drop_at, drop-set-lt, drop-set-add, take-set-lt, take-set-le, get_or-set_same, set-set}
use Rattle.rules.specs.declared.Task.{Task}
use Rattle.rules.specs.Station.{Slice, Table, free, slot_count, row_count}
use Rattle.rules.specs.Held.{words_per_task, task_words, task_in, tasks_in, tasks_flat, ends_in, tasks_from, list_words, ends_of, tasks_of, planner_of}

-- f 0 to f (n - 1)
unfoldable pub firsts : (ℕ → ℕ) → ℕ → List ℕ
firsts f zero = []
firsts f (suc n) = f 0 ∷ firsts (λ i. f (suc i)) n

pub take_firsts : (n : ℕ) (w : List ℕ) → n ≤ length w → take n w ≡ firsts (λ i. get_or w i 0) n
unfolding firsts
take_firsts zero w h = refl
take_firsts (suc n) [] h = absurd (not-suc-le-zero h)
take_firsts (suc n) (x ∷ w) h = ap (λ l. x ∷ l) (take_firsts n w (le_of_suc-le-suc h))

-- a task is told by its words, and they by it
task_front : (w : List ℕ) → words_per_task ≤ length w → task_in (take words_per_task w) ≡ task_in w
unfolding firsts task_in
task_front w h = ap task_in (take_firsts words_per_task w h)

words_front : (w : List ℕ) → words_per_task ≤ length w → task_words (task_in w) ≡ take words_per_task w
unfolding firsts task_in task_words
words_front w h = sym (take_firsts words_per_task w h)

-- field j of a task becomes v
unfoldable pub stored : ℕ → ℕ → Task → Task
stored j v k = task_in (set (task_words k) j v)

task_store : (w : List ℕ) (j v : ℕ) → words_per_task ≤ length w → j < words_per_task → task_in (set w j v) ≡ stored j v (task_in w)
unfolding stored
task_store w j v long l =
    sym (task_front (set w j v) (rw length-set long)) ∙ rw (take-set-lt words_per_task w j v l, words_front w long)

task_other : (w : List ℕ) (m v : ℕ) → words_per_task ≤ length w → task_in (set w (words_per_task + m) v) ≡ task_in w
task_other w m v long =
    sym (task_front (set w (words_per_task + m) v) (rw length-set long)) ∙ rw (take-set-le words_per_task w (words_per_task + m) v (omega arith)) (task_front w long)

-- many tasks
pub tasks-length : (n : ℕ) (w : List ℕ) → length (tasks_in n w) ≡ n
unfolding tasks_in
tasks-length zero w = refl
tasks-length (suc n) w = ap suc (tasks-length n (drop words_per_task w))

tasks-load : (n : ℕ) (w : List ℕ) (i : ℕ) → i < n → get_or (tasks_in n w) i free ≡ task_in (drop (words_per_task * i) w)
unfolding tasks_in
tasks-load zero w i h = absurd (not-suc-le-zero h)
tasks-load (suc n) w zero h = refl
tasks-load (suc n) w (suc i) h =
    let next : words_per_task * suc i ≡ words_per_task + words_per_task * i = omega arith in
    tasks-load n (drop words_per_task w) i (le_of_suc-le-suc h) ∙ rw (next, ← (drop-drop (words_per_task * i) words_per_task w))

tasks_store : (n : ℕ) (w : List ℕ) (i j v : ℕ) → i < n → j < words_per_task → words_per_task * n ≤ length w
    → tasks_in n (set w (words_per_task * i + j) v) ≡ set (tasks_in n w) i (stored j v (get_or (tasks_in n w) i free))
unfolding tasks_in
tasks_store zero w i j v h l long = absurd (not-suc-le-zero h)
tasks_store (suc n) w zero j v h l long =
    let here : words_per_task * zero + j ≡ j = omega arith in
    rw (here, task_store w j v (omega arith) l, drop-set-lt words_per_task w j v l)
tasks_store (suc n) w (suc i) j v h l long =
    let m = words_per_task * i + j in
    let next : words_per_task * suc i + j ≡ words_per_task + m = omega arith in
    let rest : words_per_task * n ≤ length (drop words_per_task w) = simp length-drop (omega arith) in
    rw (next, task_other w m v (omega arith), drop-set-add words_per_task w m v)
    (ap (λ l. task_in w ∷ l) (tasks_store n (drop words_per_task w) i j v (le_of_suc-le-suc h) l rest))

-- the task in a slot is the one at its words
pub task_at_lem : (lists : List ℕ) (i : ℕ) → i < slot_count → get_or (tasks_of lists) i free ≡ task_in (drop (tasks_from + words_per_task * i) lists)
unfolding tasks_of
task_at_lem lists i h = tasks-load slot_count (drop tasks_from lists) i h ∙ rw (drop-drop (words_per_task * i) tasks_from lists)

-- a store into field j of slot i changes that field alone, and no boundary
module _ (lists : List ℕ) (long : length lists ≡ list_words) (i j v at : ℕ) (h : i < slot_count) (l : j < words_per_task) (is : at ≡ tasks_from + words_per_task * i + j) where
  pub task_stored : tasks_of (set lists at v) ≡ set (tasks_of lists) i (stored j v (get_or (tasks_of lists) i free))
  unfolding tasks_of
  task_stored =
      let where' : at ≡ tasks_from + (words_per_task * i + j) = omega arith in
      let room : words_per_task * slot_count ≤ length (drop tasks_from lists) = simp length-drop (omega arith) in
      rw (where', drop-set-add tasks_from lists (words_per_task * i + j) v) (tasks_store slot_count (drop tasks_from lists) i j v h l room)

  -- the same after another store into the slot
  pub task_stored-on : (ks : List Task) (k : Task) → length ks ≡ slot_count → tasks_of lists ≡ set ks i k → tasks_of (set lists at v) ≡ set ks i (stored j v k)
  task_stored-on ks k slots e =
      task_stored ∙ rw (e, get_or-set_same ks i k free (omega arith), set-set ks i k (stored j v k))

  pub ends-stored : ends_of (set lists at v) ≡ ends_of lists
  unfolding ends_of
  ends-stored = take-set-le row_count lists at v (omega arith)

-- nothing is lost between lists and what they hold
words_exact : (n : ℕ) (w : List ℕ) → length w ≡ words_per_task * n → tasks_flat (tasks_in n w) ≡ w
unfolding tasks_in tasks_flat
words_exact zero [] is = refl
words_exact zero (x ∷ w) is = absurd (omega arith)
words_exact (suc n) w is =
    rw (words_front w (omega arith), words_exact n (drop words_per_task w) (simp length-drop (omega arith))) (take-append-drop words_per_task w)

tasks_back : (ks : List Task) (past : List ℕ) → tasks_in (length ks) (tasks_flat ks ++ past) ≡ ks
unfolding tasks_in tasks_flat task_words task_in
tasks_back [] past = refl
tasks_back (k ∷ ks) past = ap (λ l. k ∷ l) (tasks_back ks past)

words-length : (ks : List Task) → length (tasks_flat ks) ≡ words_per_task * length ks
unfolding tasks_flat task_words
words-length [] = refl
words-length (k ∷ ks) = omega (arith, words-length ks)

pub ends-length : (n : ℕ) (ss : List Slice) → length (ends_in n ss) ≡ n
unfolding ends_in
ends-length zero ss = refl
ends-length (suc n) [] = ap suc (ends-length n [])
ends-length (suc n) (s ∷ ss) = ap suc (ends-length n ss)

pub lists_exact : (lists : List ℕ) → length lists ≡ list_words → ends_of lists ++ tasks_flat (tasks_of lists) ≡ lists
unfolding ends_of tasks_of
lists_exact lists is = rw (words_exact slot_count (drop tasks_from lists) (simp length-drop (omega arith))) (take-append-drop tasks_from lists)

module _ (t : Table) where
  pub planner-ends : ends_of (planner_of t).lists ≡ ends_in row_count t.slices
  unfolding ends_of planner_of
  planner-ends = take_at (ends_in row_count t.slices) (tasks_flat t.tasks) row_count (ends-length row_count t.slices)

  module _ (slots : length t.tasks ≡ slot_count) where
    pub planner-tasks : tasks_of (planner_of t).lists ≡ t.tasks
    unfolding tasks_of planner_of
    planner-tasks =
        rw (drop_at (ends_in row_count t.slices) (tasks_flat t.tasks) tasks_from (ends-length row_count t.slices))
        (rw (append-nil, slots) at (tasks_back t.tasks []))

    pub planner-length : length (planner_of t).lists ≡ list_words
    unfolding planner_of
    planner-length = simp length-append (omega (arith, ends-length row_count t.slices, words-length t.tasks))

pub slots_length : (lists : List ℕ) → length (tasks_of lists) ≡ slot_count
unfolding tasks_of
slots_length lists = tasks-length slot_count (drop tasks_from lists)

-- the boundaries were lent, and came back
module _ (lists ends : List ℕ) (wide : length ends ≡ row_count) where
  pub ends-lent : ends_of (ends ++ drop tasks_from lists) ≡ ends
  unfolding ends_of
  ends-lent = take_at ends (drop tasks_from lists) row_count wide

  pub tasks-lent : tasks_of (ends ++ drop tasks_from lists) ≡ tasks_of lists
  unfolding tasks_of
  tasks-lent = rw (drop_at ends (drop tasks_from lists) tasks_from wide)
