-- The word of the slots in use, read from its lowest bit on: a bit for the first slot, and half the word for the others.
-- A word is a bit and twice a word exactly if its rest and its half are those.
use mathlib.Core.Path.{◌≡◌}
use mathlib.Core.Bool.{Bool, true, false, ◌&&◌, and-eq-true_iff, and-true, and-false}
use mathlib.Core.List.{List}
use Prim.Native.Nat.{ℕ, suc, ◌+◌, ◌*◌, ◌/◌, ◌%◌, ◌≤◌, ◌<◌}
use native.Mathlib.Numerals.{add-one}
use native.Mathlib.Omega.{arith}
use borrow.Author.Tests.{lt-ltb, le-ltb, eq-eqb, ne_eqb, eqb-true}
use lib.Dec.{eqb}
use lib.ListN.{length, drop, get_or, drop_of_length-le}
use lib.Seq.{drop-cons}
use Rattle.rules.specs.declared.Task.{Task}
use Rattle.rules.specs.Station.{in_use, pending}
use Rattle.rules.specs.Sound.{every, each_task, lawful_test, in_time_test, unused_test}
use Rattle.rules.proofs.Floor.{by_lt, by_bool}
use Rattle.rules.proofs.Sound.{every-to}
use Rattle.rules.specs.Held.{flag, used_of}
use Rattle.slots.specs.Tests.{free_test, task_test}
use Rattle.slots.proofs.Tests.{same_bool, cross}

halves : (n f m : ℕ) → f ≤ 1 → eqb n (f + 2 * m) ≡ (eqb (n % 2) f && eqb (n / 2) m)
halves n f m bit =
    same_bool _ _
    (λ is. let e = eqb-true n (f + 2 * m) is in (and-eq-true_iff _ _).1 (eq-eqb (n % 2) f (omega arith), eq-eqb (n / 2) m (omega arith)))
    (λ both. let b = (and-eq-true_iff (eqb (n % 2) f) (eqb (n / 2) m)).0 both in let r = eqb-true (n % 2) f b.0 in let q = eqb-true (n / 2) m b.1 in eq-eqb n (f + 2 * m) (omega arith))

flag_bit : (b : Bool) → flag b ≤ 1
unfolding flag
flag_bit true = omega arith
flag_bit false = omega arith

-- a slot by its bit: one that is not in use holds zeros, and one that is in use has a lawful task and a job in time
pub free_task : (clock start : ℕ) (k : Task) → free_test k ≡ (eqb 0 (flag (in_use k)) && task_test clock start k)
unfolding free_test task_test lawful_test in_time_test unused_test in_use pending flag every
free_task clock start k =
    by_lt 0 k.period
    (λ used. rw (lt-ltb 0 k.period used, ne_eqb k.period 0 (λ q. omega arith)))
    (λ none. rw (le-ltb 0 k.period none, eq-eqb k.period 0 (omega arith))
    (by_lt 0 k.deadline
    (λ job. rw (ne_eqb k.deadline 0 (λ q. omega arith)) (simp and-false))
    (λ idle. rw (le-ltb 0 k.deadline idle))))

pub free-rate : (k : Task) → free_test k ≡ true → k.rate ≡ 0
unfolding free_test
free-rate k h = eqb-true k.rate 0 (every-to _ h).1.1.0

pub used_task : (clock start : ℕ) (k : Task) → ((in_use k && lawful_test k) && in_time_test clock start k) ≡ (eqb 1 (flag (in_use k)) && task_test clock start k)
unfolding task_test unused_test flag
used_task clock start k = by_bool (in_use k) (λ is. rw is (simp and-true)) (λ none. rw none)

-- one slot, by its bit
pub ruleset of_one_task = (free_task, free-rate, used_task)

-- the word and the tasks from slot i on
unfoldable pub agree : ℕ → ℕ → ℕ → List Task → Bool
agree clock start left ks = eqb left (used_of ks) && each_task (task_test clock start) ks

pub agree_next : (clock start left : ℕ) (tasks : List Task) (i : ℕ) (none : Task) → i < length tasks
    → let k = get_or tasks i none in
    agree clock start left (drop i tasks) ≡ ((eqb (left % 2) (flag (in_use k)) && task_test clock start k) && agree clock start (left / 2) (drop (i + 1) tasks))
unfolding agree used_of each_task
agree_next clock start left tasks i none h =
    let k = get_or tasks i none in
    let later = drop (suc i) tasks in
    let bit = eqb (left % 2) (flag (in_use k)) in
    let half = eqb (left / 2) (used_of later) in
    let one = task_test clock start k in
    let all = each_task (task_test clock start) later in
    rw (add-one, drop-cons tasks i none h, halves left (flag (in_use k)) (used_of later) (flag_bit (in_use k))) (cross bit half one all)

pub agree_done : (clock start left : ℕ) (tasks : List Task) (i : ℕ) → length tasks ≤ i → agree clock start left (drop i tasks) ≡ eqb left 0
unfolding agree used_of each_task
agree_done clock start left tasks i h = rw (drop_of_length-le tasks h) (and-true _)
