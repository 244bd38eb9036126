-- Deadlines counted from the plan start say of a later tick what the deadlines themselves say.
-- A task that is sound by itself has no job, or one that is due after the plan start and within the longest period of it.
use mathlib.Core.Path.{◌≡◌, refl, ap}
use mathlib.Core.Bool.{Bool, true, false, cond, ◌&&◌, ◌||◌, and-eq-true_iff, and-true, and-false, or-true}
use mathlib.Core.List.{List, [], ◌∷◌}
use Prim.Native.Nat.{ℕ, ◌+◌, ◌-◌, ◌≤◌, ◌<◌}
use native.Mathlib.Nat.{zero-add}
use native.Mathlib.Omega.{arith}
use borrow.Author.Tests.{lt-ltb, le-ltb, le-leb, lt-leb, eq-eqb, ne_eqb, ltb-true, leb-true, eqb-true}
use lib.Dec.{leb, ltb, eqb}
use Rattle.rules.specs.declared.Task.{Task}
use Rattle.rules.specs.Station.{grains, free, in_use, pending, rates}
use Rattle.rules.specs.Sound.{every, each_task, each_share, lawful_test, in_time_test, unused_test, share_test, is_deadline, owed}
use Rattle.rules.proofs.Floor.{by_lt, by_eq, by_bool}
use Rattle.slots.specs.Tests.{task_test}
use Rattle.rows.specs.Row.{share_fits, shares_fit, owed_in, hits_in}
use Rattle.slots.specs.Tests.{due_from, dues_of, rates_of}
use Rattle.rules.proofs.Sound.{every-to, or_to, then_to}

pub record Near (start : ℕ) (k : Task) : Type 0 where
  pub due : due_from start k.deadline ≡ k.deadline - start
  pub job : 0 < k.deadline → start < k.deadline
  pub soon : k.deadline ≤ start + 60000

abbrev pub AllNear : ℕ → List Task → Type 0
AllNear start [] = Unit {0}
AllNear start (k ∷ ks) = Near start k × AllNear start ks

-- what the three tests of a task say of its job
module _ (clock start : ℕ) (order : start ≤ clock) where
  job-near : (k : Task) → task_test clock start k ≡ true → 0 < k.deadline → (start < k.deadline) × (k.deadline ≤ start + 60000)
  unfolding task_test lawful_test in_time_test unused_test in_use pending
  job-near k h job =
      let parts = (and-eq-true_iff (lawful_test k) _).0 h in
      let rest = (and-eq-true_iff (in_time_test clock start k) (unused_test k)).0 parts.1 in
      let time = every-to _ (then_to _ _ rest.0 (lt-ltb 0 k.deadline job)) in
      let ahead = ltb-true clock k.deadline time.1.0 in
      let soon = leb-true k.deadline (start + k.period) time.1.1.0 in
      by_lt 0 k.period
      (λ used. let law = every-to _ (then_to _ _ parts.0 (lt-ltb 0 k.period used)) in let long = leb-true k.period 60000 law.1.0 in omega arith)
      (λ none. let zeros = every-to _ (or_to _ _ rest.1 (le-ltb 0 k.period none)) in let never = eqb-true k.deadline 0 zeros.1.1.0 in omega arith)

  task_near : (k : Task) → task_test clock start k ≡ true → Near start k
  unfolding due_from
  task_near k h =
      by_lt 0 k.deadline
      (λ job. let at = job-near k h job in record { due = omega arith; job = λ j. at.0; soon = at.1 })
      (λ none. record { due = omega arith; job = λ j. omega arith; soon = omega arith })

  pub tasks-near : (ks : List Task) → each_task (task_test clock start) ks ≡ true → AllNear start ks
  unfolding each_task
  tasks-near [] h = tt
  tasks-near (k ∷ ks) h = let both = (and-eq-true_iff (task_test clock start k) _).0 h in (task_near k both.0, tasks-near ks both.1)

-- two ticks, and both counted from an earlier one
module _ (s e d : ℕ) (after : s < e) where
  leb-from : leb (e - s) (d - s) ≡ leb e d
  leb-from = by_lt d e (λ l. rw (lt-leb (e - s) (d - s) (omega arith), lt-leb e d l)) (λ g. rw (le-leb (e - s) (d - s) (omega arith), le-leb e d g))

  ltb-from : ltb (d - s) (e - s) ≡ ltb d e
  ltb-from = by_lt d e (λ l. rw (lt-ltb (d - s) (e - s) (omega arith), lt-ltb d e l)) (λ g. rw (le-ltb (d - s) (e - s) (omega arith), le-ltb d e g))

  pub eqb-from : eqb (e - s) (d - s) ≡ eqb e d
  eqb-from = by_eq e d (λ q. rw (eq-eqb (e - s) (d - s) (omega arith), eq-eqb e d q)) (λ ne. rw (ne_eqb (e - s) (d - s) (λ q. ne (omega arith)), ne_eqb e d ne))

-- at the plan start all rates are owed
pub owed_all : (start : ℕ) (ks : List Task) → owed_in 0 (dues_of start ks) (rates_of ks) ≡ rates ks
unfolding owed_in dues_of rates_of rates
owed_all start [] = refl
owed_all start (k ∷ ks) = rw (le-leb 0 (due_from start k.deadline) (omega arith)) (ap (λ r. k.rate + r) (owed_all start ks))

some : (b : Bool) (n : ℕ) → ltb 0 (cond b 1 0 + n) ≡ (b || ltb 0 n)
some true n = lt-ltb 0 (1 + n) (omega arith)
some false n = rw zero-add

-- a share that is at most 0 is 0, and at most anything
none_fits : (s m : ℕ) (b : Bool) → (leb s m && ((b || eqb s 0) && (eqb s 0 && true))) ≡ leb s 0
none_fits s m b =
    by_lt 0 s
    (λ some. rw (lt-leb s 0 some, ne_eqb s 0 (λ q. omega arith)) (simp (and-false)))
    (λ none. rw (le-leb s 0 none, le-leb s m (omega arith), eq-eqb s 0 (omega arith), or-true b))

free-near : (start : ℕ) → Near start free
unfolding free due_from
free-near start = record { due = omega arith; job = λ j. omega arith; soon = omega arith }

free_due : (start : ℕ) → due_from start free.deadline ≡ 0
unfolding free due_from
free_due start = omega arith

-- an end after the plan start
module _ (start e : ℕ) (after : start < e) where
  pub owed-from : (ks : List Task) → AllNear start ks → owed_in (e - start) (dues_of start ks) (rates_of ks) ≡ owed e ks
  unfolding owed_in dues_of rates_of owed
  owed-from [] n = refl
  owed-from (k ∷ ks) n = rw (n.0.due, leb-from start e k.deadline after, owed-from ks n.1)

  pub hits_from : (ks : List Task) → AllNear start ks → ltb 0 (hits_in (e - start) (dues_of start ks)) ≡ is_deadline e ks
  unfolding hits_in dues_of is_deadline
  hits_from [] n = refl
  hits_from (k ∷ ks) n = rw (n.0.due, eqb-from start e k.deadline after, some (eqb e k.deadline) (hits_in (e - start) (dues_of start ks)), hits_from ks n.1)

  pub deadline-soon : (ks : List Task) → AllNear start ks → is_deadline e ks ≡ true → e ≤ start + 60000
  unfolding is_deadline
  deadline-soon [] n h = let z : ◌≡◌ {A = ℕ} 0 1 = cc in omega arith
  deadline-soon (k ∷ ks) n h =
      by_bool (eqb e k.deadline)
      (λ q. let is = eqb-true e k.deadline q in let soon = n.0.soon in omega arith)
      (λ ne. deadline-soon ks n.1 (or_to _ _ h ne))

  share_from : (lo : ℕ) (k : Task) (s : ℕ) → Near start k → share_test lo e k s ≡ share_fits (e - start) (grains (e - lo)) (due_from start k.deadline) s
  unfolding share_test every pending share_fits
  share_from lo k s n =
      let d = k.deadline in
      rw (n.due, ltb-from start e d after)
      (by_lt d e
      (λ l. rw (lt-ltb d e l, lt-leb e d l) (none_fits s (grains (e - lo)) (ltb 0 d)))
      (λ g. rw (le-ltb d e g, le-leb e d g, lt-ltb 0 d (omega arith)) (and-true _)))

  pub shares-from : (lo : ℕ) (ks : List Task) (row : List ℕ) → AllNear start ks → each_share (share_test lo e) ks row ≡ shares_fit (e - start) (grains (e - lo)) (dues_of start ks) row
  unfolding each_share shares_fit dues_of
  shares-from lo [] [] n = refl
  shares-from lo (k ∷ ks) [] n = refl
  shares-from lo [] (s ∷ ss) n = rw (share_from lo free s (free-near start), free_due start, shares-from lo [] ss n)
  shares-from lo (k ∷ ks) (s ∷ ss) n = rw (share_from lo k s n.0, shares-from lo ks ss n.1)
