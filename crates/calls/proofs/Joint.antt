-- A planner and words that hold a table are exactly the planner and the words of it: nothing is lost between the two.
-- The check's last tests say that what the table leaves out (the word of slots in use, boundaries and rows past the last) agrees with it.
use mathlib.Core.Path.{◌≡◌, refl, sym, ◌∙◌}
use mathlib.Core.Bool.{Bool, true}
use mathlib.Core.List.{List, [], ◌++◌}
use Prim.Native.Nat.{ℕ, ◌≤◌}
use native.Mathlib.Omega.{arith}
use lib.ListN.{length, drop, get_or}
use lib.Dec.{lit<}
use lib.Seq.{length-take-le, get_or-take}
use borrow.Author.Tests.{leb-true, eqb-true}
use Rattle.rules.specs.declared.State.{State}
use Rattle.rules.specs.Station.{Table, last_tick, most_cores, longest_period, row_count, share_words, rates, free, in_use, task_at}
use Rattle.rules.specs.Sound.{is_sound}
use Rattle.rules.specs.Calls.{Answer as Handed, Outcome}
use Rattle.rules.specs.Words.{words_of, written, segments_flat}
use Rattle.rules.specs.Wrap.{Segment}
use Rattle.rules.specs.Held.{Planner, planner, planner_of, state_of, table_of, table_at, is_sound_in, is_sound_at, used_of, ends_in, tasks_flat, ends_of, tasks_of, list_words}
use Rattle.rules.proofs.Held.{lists_exact}
use Rattle.rules.proofs.Floor.{by_bool}
use Rattle.rules.proofs.Sound.{every-to, sound-to}
use Rattle.plan.specs.Planned.{Planned, slices_in}
use Rattle.plan.proofs.Planned.{held as slices-held, planned-few}
use Rattle.table.proofs.Rowed.{rows_of-all}
use Rattle.calls.specs.Called.{left, held_as, Holds, Agrees}

abbrev numbers : ℕ → ℕ → ℕ → ℕ → ℕ → State
numbers cores clock start used count = record { cores = cores; clock = clock; start = start; used = used; count = count }

abbrev outcome : Handed → Table → List Segment → Outcome
outcome answer t gs = record { answer = answer; table = t; segments = gs }

-- no segments leave a buffer as it was
pub written_none : (b : List ℕ) → written [] b ≡ b
unfolding written segments_flat
written_none b = refl

module _ {p : Planner} {w : List ℕ} {t : Table} (h : Holds p w t) where
  pub same-planner : p ≡ planner_of t
  unfolding planner_of state_of
  same-planner =
      let s = p.state in
      let cores = h.cores in
      let clock = h.clock in
      let start = h.start in
      let used = h.used in
      let number = h.planned.number in
      let lists : p.lists ≡ ends_in row_count t.slices ++ tasks_flat t.tasks = sym (lists_exact p.lists h.lists) ∙ rw (h.planned.bounds, h.tasks) in
      let same : planner (numbers s.cores s.clock s.start s.used s.count) p.lists
      ≡ planner (numbers t.cores t.clock t.start (used_of t.tasks) (length t.slices)) (ends_in row_count t.slices ++ tasks_flat t.tasks) = cc in
      same

  -- and past the table what v has
  pub same-words : (v : List ℕ) → drop share_words w ≡ drop share_words v → w ≡ words_of t ++ drop share_words v
  unfolding words_of
  same-words v past = rw (← h.planned.rows, ← past) (rows_of-all row_count w)

  -- what a call leaves of words v and a buffer b, by the table that is held then and the segments written
  pub left-held : (v b b' : List ℕ) (gs : List Segment) (a : Handed) → drop share_words w ≡ drop share_words v → b' ≡ written gs b → left p w b' a ≡ held_as v b (outcome a t gs)
  unfolding held_as
  left-held v b b' gs a past shown = cc (same-planner, same-words v past)

-- the check says so
module _ (p : Planner) (w : List ℕ) where
  pub sound_there : is_sound_in p w ≡ true → is_sound (table_of p w) ≡ true
  unfolding is_sound_in is_sound_at table_of
  sound_there ok = (every-to _ ok).1.0

  pub agrees : length p.lists ≡ list_words → is_sound_in p w ≡ true → Agrees p w
  unfolding is_sound_in is_sound_at table_of table_at slices_in ends_of
  agrees wide ok =
      let all = every-to _ ok in
      let few = leb-true _ _ all.1.1.1.0 in
      let long = leb-true _ _ all.0 in
      let bounds = length-take-le row_count p.lists (omega arith) in
      record {
        long = long;
        sound = sound-to (table_of p w) all.1.0;
        holds = record {
          lists = wide;
          cores = refl;
          clock = refl;
          start = refl;
          used = eqb-true _ _ all.1.1.0;
          tasks = refl;
          planned = slices-held (ends_of p.lists) p.state.count w bounds few long (eqb-true _ _ all.1.1.1.1.0) (eqb-true _ _ all.1.1.1.1.1.0);
        };
      }

  -- and code that asked it knows
  pub checked : length p.lists ≡ list_words → {r : Bool} → r ≡ is_sound_in p w → r ≡ true → (is_sound_in p w ≡ true) × Agrees p w
  checked wide is yes' = let ok = sym is ∙ yes' in (ok, agrees wide ok)

-- what a sound table bounds
module _ {p : Planner} {w : List ℕ} (a : Agrees p w) where
  pub clock-range : p.state.clock ≤ last_tick
  unfolding table_of table_at
  clock-range = a.sound.clock

  pub cores-range : p.state.cores ≤ most_cores
  unfolding table_of table_at
  cores-range = a.sound.cores.1

  pub load-range : rates (tasks_of p.lists) ≤ 16000
  unfolding table_of table_at
  load-range = omega (arith, a.sound.load, a.sound.cores.1)

  pub period-range : (slot : ℕ) → (get_or (tasks_of p.lists) slot free).period ≤ longest_period
  unfolding task_at table_of table_at free
  period-range slot =
      by_bool (in_use (get_or (tasks_of p.lists) slot free))
      (λ used. let l = a.sound.lawful slot used in omega (arith, l.period))
      (λ none. rw (a.sound.unused slot none) (omega arith))

  -- what is held, by the planner's own lists
  pub used-held : p.state.used ≡ used_of (tasks_of p.lists)
  unfolding table_of table_at
  used-held = a.holds.used

  pub planned-held : Planned (slices_in (ends_of p.lists) p.state.count w) (ends_of p.lists) p.state.count w
  unfolding table_of table_at slices_in
  planned-held = a.holds.planned

  pub few-held : p.state.count ≤ row_count
  few-held = planned-few planned-held

-- the first boundary is the first word of the lists
pub first-end : (lists : List ℕ) → get_or lists 0 0 ≡ get_or (ends_of lists) 0 0
unfolding ends_of
first-end lists = sym (get_or-take row_count lists 0 0 (lit< tt))
