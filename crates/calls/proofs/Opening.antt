-- Open: a fresh table is held by numbers and lists of zeros, but for the cores; the two refusals by plain facts; and a planner that was
-- never opened is not sound.
use mathlib.Core.Path.{◌≡◌, refl, ap, sym}
use mathlib.Core.Bool.{false, and-false}
use mathlib.Core.List.{List, [], ◌∷◌, ◌++◌}
use Prim.Native.Nat.{ℕ, zero, suc, ◌≤◌}
use native.Mathlib.Omega.{arith}
use lib.ListN.{length, replicate, length-replicate}
use borrow.Author.Tests.{lt-ltb}
use Rattle.rules.specs.declared.State.{State}
use Rattle.rules.specs.Station.{free, in_use, share_words, row_count}
use Rattle.rules.specs.Calls.{refused, open_refusals, no_tasks, opened, done}
use Rattle.rules.specs.Sound.{every, is_sound}
use Rattle.rules.specs.Words.{Rowed, rows_in, flat}
use Rattle.rules.specs.Held.{Planner, planner, planner_of, state_of, is_sound_in, is_sound_at, table_at, flag, used_of, ends_in, list_words, task_in, tasks_in, ends_of, tasks_of}
use Rattle.rules.proofs.Floor.{by_lt}
use Rattle.calls.specs.Called.{did, Holds, blank_planner, unchanged, opening, opened_by, leaves, answer_of}
use Rattle.calls.proofs.Joint.{same-planner, left-held, written_none}
use Rattle.calls.proofs.Round.{rows_back}

-- no slot in use sets no bit
used_none : (n : ℕ) → used_of (replicate n free) ≡ 0
unfolding used_of in_use free flag
used_none zero = refl
used_none (suc n) = rw (used_none n)

ends_none : (n : ℕ) → replicate n 0 ≡ ends_in n []
unfolding ends_in
ends_none zero = refl
ends_none (suc n) = ap (λ l. 0 ∷ l) (ends_none n)

abbrev pub fresh : ℕ → State
fresh cores = record { cores = cores; clock = 0; start = 0; used = 0; count = 0 }

fresh_tasks : tasks_of (replicate list_words 0) ≡ no_tasks
unfolding tasks_of tasks_in task_in no_tasks free
fresh_tasks = refl

fresh_ends : ends_of (replicate list_words 0) ≡ ends_in row_count []
unfolding ends_of
fresh_ends = ends_none row_count

-- zeros hold a fresh table
fresh_holds : (cores : ℕ) {w v : List ℕ} → Rowed w (rows_in row_count []) v → Holds (planner (fresh cores) (replicate list_words 0)) v (opened cores)
unfolding opened no_tasks
fresh_holds cores rowed = record {
  lists = length-replicate {A = ℕ} list_words 0;
  cores = refl;
  clock = refl;
  start = refl;
  used = sym (used_none 64);
  tasks = fresh_tasks;
  planned = record { bounds = fresh_ends; number = refl; rows = rowed.rows };
}

-- and are the planner of one
pub fresh_planner : (cores : ℕ) → planner (fresh cores) (replicate list_words 0) ≡ planner_of (opened cores)
fresh_planner cores =
    let v = flat (rows_in row_count []) ++ [] in
    let rowed : Rowed v (rows_in row_count []) v = record { rows = rows_back row_count 0 [] [] tt; past = refl } in
    same-planner (fresh_holds cores rowed)

-- a planner before any open has no core
pub blank_unsound : (w : List ℕ) → is_sound_in blank_planner w ≡ false
unfolding is_sound_in is_sound_at blank_planner planner_of state_of opened is_sound every table_at
blank_unsound w = simp and-false

module _ (p : Planner) (w : List ℕ) (cores : ℕ) where
  -- by the number of its first reason
  pub open_refused : (n : ℕ) → n ≡ refused (open_refusals (length w) cores) → (n ≡ 0 → ⊥) → unchanged n p w [] ≡ opening p w cores
  unfolding opening opened_by
  open_refused zero e some = absurd (some refl)
  open_refused (suc n) e some = rw (← e)

  pub open_room : refused (open_refusals (length w) cores) ≡ 0 → share_words ≤ length w
  unfolding open_refusals refused
  open_room z = by_lt (length w) 4096 (λ short. let bad : ◌≡◌ {A = ℕ} 1 0 = rw (lt-ltb (length w) 4096 short) at z in absurd (omega arith)) (λ room. room)

  pub open_done : refused (open_refusals (length w) cores) ≡ 0 → {v : List ℕ} → Rowed w (rows_in row_count []) v
      → leaves (planner (fresh cores) (replicate list_words 0)) v [] (did cores 0) ≡ opening p w cores
  unfolding opening opened_by leaves answer_of done
  open_done z rowed = rw z (left-held (fresh_holds cores rowed) w [] [] [] (record { number = 0; value = cores; count = 0 }) rowed.past (sym (written_none [])))
