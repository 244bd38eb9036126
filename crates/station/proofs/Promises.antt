-- What holds of all calls on lent words: the state area holds a planner exactly; a refusal writes the result area alone; what an accepted call
-- leaves is sound again and is what the next call reads; any two outcomes that a contract allows coincide.
use mathlib.Core.Bool.{true, false, cond}
use mathlib.Core.List.{List, [], ◌∷◌, ◌++◌, append-nil}
use mathlib.Core.Logic.{◌⊎◌, ⊎_elim}
use mathlib.Core.Path.{◌≡◌, refl, ap, sym, ◌∙◌}
use Prim.Native.Nat.{ℕ, zero, suc, ◌≤◌, ◌<◌}
use native.Mathlib.Omega.{arith}
use lib.Dec.{ltb}
use lib.ListN.{length, take, drop, get_or, take-append-drop}
use lib.Seq.{take_at, drop_at, take-add}
use borrow.Author.Tests.{lt-ltb, le-ltb}
use Rattle.rules.specs.declared.Task.{Task}
use Rattle.rules.specs.Advance.{Holding, holder_of}
use Rattle.rules.specs.Calls.{Call, refusal, refused, open_refusals, step, opened, done}
use Rattle.rules.specs.Station.{free, in_use, task_at, rates}
use Rattle.rules.specs.Held.{Planner, planner, table_of, table_at, is_sound_in, list_words, tasks_of}
use Rattle.rules.proofs.Floor.{by_bool, by_lt}
use Rattle.rules.proofs.Held.{firsts, take_firsts, planner-length}
use Rattle.rules.proofs.Kept.{step-sound}
use Rattle.rules.proofs.Tasks.{no_tasks-length}
use Rattle.calls.specs.Called.{Left, unchanged, held_as, called, opened_by, opening}
use Rattle.calls.specs.Holding.{told}
use Rattle.calls.proofs.Called.{called-unsound}
use Rattle.calls.proofs.Promises.{sound_of, stays_sound, opens_sound, refused-keeps as call-keeps}
use Rattle.station.specs.Area.{state_words, lists_from, state_in, planner_in, numbers_of, words_for}
use Rattle.station.specs.Result.{result_words, answered}
use Rattle.station.specs.Station.{Lent, lent, lengths_first, left_in, stationed, opened_in, holding_words, told_words, holder_in}
use Rattle.station.proofs.Telling.{told_apart}
use Rattle.station.proofs.Stationed.{planner_wide}

-- the planner comes back from its words, whatever lies past them
comes_back : (p : Planner) (past : List ℕ) → length p.lists ≡ list_words → planner_in (words_for p ++ past) ≡ p
unfolding planner_in state_in words_for numbers_of
comes_back p past wide = ap (planner p.state) (take_at p.lists past list_words wide)

-- The planner comes back from its 325 words.
pub planner_back : (p : Planner) → length p.lists ≡ list_words → planner_in (words_for p) ≡ p
planner_back p wide = ap planner_in (sym (append-nil (words_for p))) ∙ comes_back p [] wide

-- five words at the front
numbers_front : (s : List ℕ) → state_words ≤ length s → numbers_of (state_in s) ≡ take lists_from s
unfolding numbers_of state_in firsts
numbers_front s long = sym (take_firsts lists_from s (omega arith))

-- The first 325 words of a state area are the words of the planner that it holds.
pub words_back : (s : List ℕ) → state_words ≤ length s → words_for (planner_in s) ≡ take state_words s
unfolding words_for planner_in
words_back s long = rw (numbers_front s long) (sym (take-add lists_from list_words s))

-- with what lies past them they are the area
area_kept : (s : List ℕ) → state_words ≤ length s → words_for (planner_in s) ++ drop state_words s ≡ s
area_kept s long = rw (words_back s long) (take-append-drop state_words s)

words_count : (p : Planner) → length p.lists ≡ list_words → length (words_for p) ≡ state_words
unfolding words_for numbers_of
words_count p wide = omega arith

-- What a refused call leaves: everything as it was, but the result area, where it has room, has the number, 0 and 0.
abbrev pub only_told : List ℕ → List ℕ → List ℕ → List ℕ → ℕ → Lent
only_told state shares segments result n = lent state shares segments (cond (ltb (length result) result_words) result (answered (refusal n) result)) n

by_lengths : (P : Lent → Type 0) (state shares segments result : List ℕ) (then : Lent)
    → (length result < result_words → P (lent state shares segments result 1))
    → (result_words ≤ length result → P (lent state shares segments (answered (refusal 1) result) 1))
    → (result_words ≤ length result → state_words ≤ length state → P then)
    → P (lengths_first state shares segments result then)
unfolding lengths_first
by_lengths P state shares segments result then short small long =
    by_lt (length result) result_words
    (λ l. rw (lt-ltb (length result) result_words l) (short l))
    (λ g. rw (le-ltb (length result) result_words g) (by_lt (length state) state_words
    (λ l. rw (lt-ltb (length state) state_words l) (small g))
    (λ h. rw (le-ltb (length state) state_words h) (long g h))))

-- a call that is done, or changed nothing
abbrev Keeps : Left → Planner → List ℕ → List ℕ → Type 0
Keeps l p words buffer = (l.answer.number ≡ 0 → ⊥) → l ≡ unchanged l.answer.number p words buffer

module _ (state shares segments result : List ℕ) where
  abbrev done-lent : Left → Lent
  done-lent l = lent (words_for l.planner ++ drop state_words state) l.words l.buffer (answered l.answer result) l.answer.number

  left-keeps : (l : Left) → (state_words ≤ length state → Keeps l (planner_in state) shares segments) → ((left_in l state shares segments result).number ≡ 0 → ⊥)
      → left_in l state shares segments result ≡ only_told state shares segments result (left_in l state shares segments result).number
  unfolding left_in unchanged refusal
  left-keeps l keeps =
      by_lengths (λ o. (o.number ≡ 0 → ⊥) → o ≡ only_told state shares segments result o.number) state shares segments result (done-lent l)
      (λ short not_done. rw (lt-ltb (length result) result_words short))
      (λ room not_done. rw (le-ltb (length result) result_words room))
      (λ room long not_done. ap done-lent (keeps long not_done) ∙ rw (area_kept state long, le-ltb (length result) result_words room))

  -- a call that is done found areas that are long enough
  left-done : (l : Left) → (left_in l state shares segments result).number ≡ 0 → (left_in l state shares segments result ≡ done-lent l) × (l.answer.number ≡ 0) × (state_words ≤ length state)
  unfolding left_in
  left-done l =
      by_lengths (λ o. o.number ≡ 0 → (o ≡ done-lent l) × (l.answer.number ≡ 0) × (state_words ≤ length state)) state shares segments result (done-lent l)
      (λ short e. absurd (omega arith))
      (λ room e. absurd (omega arith))
      (λ room long e. (refl, e, long))

-- A call that is refused changes nothing but the result area.
pub refused-keeps : (state shares segments result : List ℕ) (call : Call) → ((stationed state shares segments result call).number ≡ 0 → ⊥)
    → stationed state shares segments result call ≡ only_told state shares segments result (stationed state shares segments result call).number
unfolding stationed
refused-keeps state shares segments result call =
    left-keeps state shares segments result (called (planner_in state) shares segments call)
    (λ long. call-keeps (planner_in state) shares segments call (planner_wide state long))

opened-keeps : (n : ℕ) (p : Planner) (words : List ℕ) (cores : ℕ) → Keeps (opened_by n p words cores) p words []
unfolding opened_by held_as done unchanged refusal
opened-keeps zero p words cores some = absurd (some refl)
opened-keeps (suc n) p words cores some = refl

-- An open that is refused changes nothing but the result area.
pub refused_open_keeps : (state shares result : List ℕ) (cores : ℕ) → ((opened_in state shares result cores).number ≡ 0 → ⊥)
    → opened_in state shares result cores ≡ only_told state shares [] result (opened_in state shares result cores).number
unfolding opened_in opening
refused_open_keeps state shares result cores =
    let n = refused (open_refusals (length shares) cores) in
    left-keeps state shares [] result (opened_by n (planner_in state) shares cores) (λ long. opened-keeps n (planner_in state) shares cores)

-- Holder changes nothing but the result area, refused or not.
pub holder_keeps : (state shares result : List ℕ) (core : ℕ) → ((holder_in state shares result core).state ≡ state) × ((holder_in state shares result core).shares ≡ shares)
unfolding holder_in
holder_keeps state shares result core =
    by_lengths (λ o. (o.state ≡ state) × (o.shares ≡ shares)) state shares [] result _ (λ short. (refl, refl)) (λ room. (refl, refl)) (λ room long. (refl, refl))

told-keeps : (n : ℕ) (h : Holding) (state shares result : List ℕ) → result_words ≤ length result → (n ≡ 0 → ⊥)
    → lent state shares [] (answered (told_words n h) result) n ≡ only_told state shares [] result n
unfolding told_words
told-keeps zero h state shares result room not_done = absurd (not_done refl)
told-keeps (suc n) h state shares result room not_done = rw (le-ltb (length result) result_words room)

-- A holder that is refused tells its number, 0 and 0.
pub refused_holder_keeps : (state shares result : List ℕ) (core : ℕ) → ((holder_in state shares result core).number ≡ 0 → ⊥)
    → holder_in state shares result core ≡ only_told state shares [] result (holder_in state shares result core).number
unfolding holder_in
refused_holder_keeps state shares result core =
    let t = told (planner_in state) shares core in
    by_lengths (λ o. (o.number ≡ 0 → ⊥) → o ≡ only_told state shares [] result o.number) state shares [] result _
    (λ short not_done. rw (lt-ltb (length result) result_words short))
    (λ room not_done. rw (le-ltb (length result) result_words room))
    (λ room long. told-keeps t.number t.holding state shares result room)

-- Holder's words tell its three cases apart: two holders of sound tables that read alike are the same.
pub holders_apart : (p q : Planner) (v w : List ℕ) (core other : ℕ) → is_sound_in p v ≡ true → is_sound_in q w ≡ true
    → holding_words (holder_of (table_of p v) core) ≡ holding_words (holder_of (table_of q w) other) → holder_of (table_of p v) core ≡ holder_of (table_of q w) other
holders_apart p q v w core other one two e = told_apart (table_of p v) (table_of q w) core other (sound_of p v one) (sound_of q w two) e

-- A word that does not fit 32 bits, in a slot's period, cost or rate: the table is not sound, refusal 1.
abbrev pub most_field : ℕ
most_field = 4294967295

rate-most : (ks : List Task) (i : ℕ) → (get_or ks i free).rate ≤ rates ks
unfolding rates free
rate-most [] i = omega arith
rate-most (k ∷ ks) zero = omega arith
rate-most (k ∷ ks) (suc i) = omega (arith, rate-most ks i)

sound-fits : (p : Planner) (w : List ℕ) (i : ℕ) → is_sound_in p w ≡ true → let k = get_or (tasks_of p.lists) i free in (k.period ≤ most_field) × (k.cost ≤ most_field) × (k.rate ≤ most_field)
unfolding task_at free table_of table_at
sound-fits p w i ok =
    let s = sound_of p w ok in
    let rate = rate-most (tasks_of p.lists) i in
    let load = s.load in
    let cores = s.cores in
    by_bool (in_use (get_or (tasks_of p.lists) i free))
    (λ used. let l = s.lawful i used in (omega arith, omega arith, omega arith))
    (λ not-used. rw (s.unused i not-used) (omega arith, omega arith, omega arith))

pub unfit_refused : (state shares segments result : List ℕ) (call : Call) → result_words ≤ length result → state_words ≤ length state → (i : ℕ)
    → let k = get_or (tasks_of (planner_in state).lists) i free in (most_field < k.period) ⊎ ((most_field < k.cost) ⊎ (most_field < k.rate))
    → stationed state shares segments result call ≡ only_told state shares segments result 1
unfolding stationed left_in lengths_first unchanged refusal
unfit_refused state shares segments result call room long i unfit =
    let p = planner_in state in
    let bad : is_sound_in p shares ≡ false =
    by_bool (is_sound_in p shares)
    (λ ok. let fits = sound-fits p shares i ok in absurd (⊎_elim (λ x. omega arith) (λ y. ⊎_elim (λ x. omega arith) (λ x. omega arith) y) unfit))
    (λ b. b) in
    rw (← (called-unsound p shares segments call bad), le-ltb (length result) result_words room, le-ltb (length state) state_words long, area_kept state long)

-- a call that is done was made on a sound planner
called-sound : (p : Planner) (words buffer : List ℕ) (call : Call) → (called p words buffer call).answer.number ≡ 0 → is_sound_in p words ≡ true
unfolding unchanged refusal
called-sound p words buffer call e =
    by_bool (is_sound_in p words) (λ ok. ok) (λ bad. let one = ap (λ l. l.answer.number) (called-unsound p words buffer call bad) in absurd (omega arith))

called_wide : (p : Planner) (words buffer : List ℕ) (call : Call) → is_sound_in p words ≡ true → length (called p words buffer call).planner.lists ≡ list_words
unfolding called held_as
called_wide p words buffer call ok =
    rw ok (planner-length (step (length words) (table_of p words) call).table (step-sound (length words) (table_of p words) call (sound_of p words ok)).slots)

module _ (state shares segments result : List ℕ) (call : Call) (yes' : (stationed state shares segments result call).number ≡ 0) where
  abbrev l : Left
  l = called (planner_in state) shares segments call

  done-is : (stationed state shares segments result call ≡ done-lent state shares segments result l) × (l.answer.number ≡ 0) × (state_words ≤ length state)
  unfolding stationed
  done-is = left-done state shares segments result l yes'

  sound-before : is_sound_in (planner_in state) shares ≡ true
  sound-before = called-sound (planner_in state) shares segments call done-is.1

  wide : length l.planner.lists ≡ list_words
  wide = called_wide (planner_in state) shares segments call sound-before

  -- The next call reads the planner that this one left.
  pub carried_on : planner_in (stationed state shares segments result call).state ≡ (called (planner_in state) shares segments call).planner
  carried_on = ap (λ o. planner_in o.state) done-is.0 ∙ comes_back l.planner (drop state_words state) wide

  -- What an accepted call leaves is sound again.
  pub stays_sound_there : is_sound_in (planner_in (stationed state shares segments result call).state) (stationed state shares segments result call).shares ≡ true
  stays_sound_there =
      let words = ap (λ o. o.shares) done-is.0 in
      rw (carried_on, words) (stays_sound (planner_in state) shares segments call sound-before)

  -- The words past the state area's 325 are as they were.
  pub past-kept : drop state_words (stationed state shares segments result call).state ≡ drop state_words state
  past-kept = ap (λ o. drop state_words o.state) done-is.0 ∙ drop_at (words_for l.planner) (drop state_words state) state_words (words_count l.planner wide)

-- an open that is done was asked for 1 to 16 cores
open_range : (words cores : ℕ) → refused (open_refusals words cores) ≡ 0 → (1 ≤ cores) × (cores ≤ 16)
unfolding open_refusals refused
open_range words cores e =
    by_bool (ltb words 4096)
    (λ short. let bad : ◌≡◌ {A = ℕ} 1 0 = rw short at e in absurd (omega arith))
    (λ room. by_lt cores 1
    (λ none. let bad : ◌≡◌ {A = ℕ} 2 0 = rw (room, lt-ltb cores 1 none) at e in absurd (omega arith))
    (λ some. by_lt 16 cores
    (λ many. let bad : ◌≡◌ {A = ℕ} 2 0 = rw (room, le-ltb cores 1 some, lt-ltb 16 cores many) at e in absurd (omega arith))
    (λ few. (some, few))))

opened-number : (n : ℕ) (p : Planner) (words : List ℕ) (cores : ℕ) → (opened_by n p words cores).answer.number ≡ 0 → n ≡ 0
unfolding opened_by unchanged refusal
opened-number zero p words cores e = refl
opened-number (suc n) p words cores e = absurd (omega arith)

opened_wide : (n : ℕ) (p : Planner) (words : List ℕ) (cores : ℕ) → n ≡ 0 → length (opened_by n p words cores).planner.lists ≡ list_words
unfolding opened_by held_as done opened
opened_wide zero p words cores e = planner-length (opened cores) no_tasks-length
opened_wide (suc n) p words cores e = absurd (omega arith)

module _ (state shares result : List ℕ) (cores : ℕ) (yes' : (opened_in state shares result cores).number ≡ 0) where
  abbrev n : ℕ
  n = refused (open_refusals (length shares) cores)

  opened_there : (opened_in state shares result cores ≡ done-lent state shares [] result (opening (planner_in state) shares cores)) × (n ≡ 0)
  unfolding opened_in opening
  opened_there =
      let both = left-done state shares [] result (opened_by n (planner_in state) shares cores) yes' in
      (both.0, opened-number n (planner_in state) shares cores both.1)

  opened-still : is_sound_in (opening (planner_in state) shares cores).planner (opening (planner_in state) shares cores).words ≡ true
  opened-still = let range = open_range (length shares) cores opened_there.1 in opens_sound (planner_in state) shares cores range.0 range.1 opened_there.1

  -- The call after an open reads the planner that open left.
  pub opened-on : planner_in (opened_in state shares result cores).state ≡ (opening (planner_in state) shares cores).planner
  unfolding opening
  opened-on =
      ap (λ o. planner_in o.state) opened_there.0
      ∙ comes_back (opened_by n (planner_in state) shares cores).planner (drop state_words state) (opened_wide n (planner_in state) shares cores opened_there.1)

  -- What an accepted open leaves is sound.
  pub opens_sound_there : is_sound_in (planner_in (opened_in state shares result cores).state) (opened_in state shares result cores).shares ≡ true
  opens_sound_there = let words = ap (λ o. o.shares) opened_there.0 in rw (opened-on, words) opened-still

-- what two outcomes have in common: every word lent, and the number answered
pub record Same (a b c d : List ℕ) (n : ℕ) (a' b' c' d' : List ℕ) (n' : ℕ) : Type 0 where
  pub state : a ≡ a'
  pub shares : b ≡ b'
  pub segments : c ≡ c'
  pub result : d ≡ d'
  pub number : n ≡ n'

-- Any two outcomes that a contract allows coincide: `o` is what the contract of any of the six calls says.
pub coincide : (o : Lent) {a b c d a' b' c' d' : List ℕ} {n n' : ℕ} → lent a b c d n ≡ o → lent a' b' c' d' n' ≡ o → Same a b c d n a' b' c' d' n'
coincide o one other =
    let e = one ∙ sym other in
    record { state = ap (λ x. x.state) e; shares = ap (λ x. x.shares) e; segments = ap (λ x. x.segments) e; result = ap (λ x. x.result) e; number = ap (λ x. x.number) e }
