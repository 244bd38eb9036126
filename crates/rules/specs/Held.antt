-- The table as it is held: the planner's few numbers, and its lists, which are the words of the boundaries and of the tasks.
use Rattle.std.specs.Prelude.{Bool, cond, List, [], ◌∷◌, ◌++◌, ℕ, zero, suc, ◌+◌, ◌*◌, leb, eqb, length, take, drop, get_or}
use Rattle.rules.specs.declared.Task.{Task}
use Rattle.rules.specs.declared.State.{State}
use Rattle.rules.specs.Station.{Slice, Table, slot_count, row_count, share_words, in_use, sum}
use Rattle.rules.specs.Sound.{every, is_sound}
use Rattle.rules.specs.Words.{rows_of, slices_of}

unfoldable pub flag : Bool → ℕ
flag b = cond b 1 0

-- "Which are in use is one 64-bit word, one bit for each slot": slot 0 is the lowest bit
unfoldable pub used_of : List Task → ℕ
used_of [] = 0
used_of (k ∷ ks) = flag (in_use k) + 2 * used_of ks

-- n boundaries: those of the slices, then zeros
unfoldable pub ends_in : ℕ → List Slice → List ℕ
ends_in zero ss = []
ends_in (suc n) [] = 0 ∷ ends_in n []
ends_in (suc n) (s ∷ ss) = s.end ∷ ends_in n ss

-- The words of a task: period, cost, rate, deadline.
abbrev pub words_per_task : ℕ
words_per_task = 4

unfoldable pub task_words : Task → List ℕ
task_words k = k.period ∷ (k.cost ∷ (k.rate ∷ (k.deadline ∷ [])))

-- the task at the front of some words
unfoldable pub task_in : List ℕ → Task
task_in w = record { period = get_or w 0 0; cost = get_or w 1 0; rate = get_or w 2 0; deadline = get_or w 3 0 }

-- n tasks, one after the other, and their words
unfoldable pub tasks_in : ℕ → List ℕ → List Task
tasks_in zero w = []
tasks_in (suc n) w = task_in w ∷ tasks_in n (drop words_per_task w)

unfoldable pub tasks_flat : List Task → List ℕ
tasks_flat [] = []
tasks_flat (k ∷ ks) = task_words k ++ tasks_flat ks

-- The planner's lists: 64 boundaries, then the words of 64 tasks.
abbrev pub tasks_from : ℕ
tasks_from = row_count

abbrev pub list_words : ℕ
list_words = tasks_from + words_per_task * slot_count

unfoldable pub ends_of : List ℕ → List ℕ
ends_of lists = take row_count lists

unfoldable pub tasks_of : List ℕ → List Task
tasks_of lists = tasks_in slot_count (drop tasks_from lists)

-- The planner: its numbers and its lists. The struct of the crate `planner` and a state area of `station` are two ways to hold it.
pub record Planner : Type 0 where
  pub state : State
  pub lists : List ℕ

abbrev pub planner : State → List ℕ → Planner
planner state lists = record { state = state; lists = lists }

-- the table of these numbers and lists with the words lent: slice k is the boundary k with row k, as far as there are boundaries
unfoldable pub table_at : ℕ → ℕ → ℕ → List Task → ℕ → List ℕ → List ℕ → Table
table_at cores clock start tasks count ends words =
    record { cores = cores; clock = clock; start = start; tasks = tasks; slices = slices_of (take count ends) (rows_of row_count words) }

unfoldable pub table_of : Planner → List ℕ → Table
table_of p words = let s = p.state in table_at s.cores s.clock s.start (tasks_of p.lists) s.count (ends_of p.lists) words

-- the planner that holds a table
unfoldable pub state_of : Table → State
state_of t = record { cores = t.cores; clock = t.clock; start = t.start; used = used_of t.tasks; count = length t.slices }

unfoldable pub planner_of : Table → Planner
planner_of t = planner (state_of t) (ends_in row_count t.slices ++ tasks_flat t.tasks)

-- Whether what is held and lent is a sound table: there are enough words; the table is sound; and what the table leaves out agrees with
-- it: the word of the slots in use, at most 64 boundaries, no boundary past the last, and no share past the last slice.
unfoldable pub is_sound_at : ℕ → ℕ → ℕ → ℕ → List Task → ℕ → List ℕ → List ℕ → Bool
is_sound_at cores clock start used tasks count ends words =
    every (
    leb share_words (length words)
    ∷ is_sound (table_at cores clock start tasks count ends words)
    ∷ eqb used (used_of tasks)
    ∷ leb count row_count
    ∷ eqb (sum (drop count ends)) 0
    ∷ eqb (sum (drop (slot_count * count) (take share_words words))) 0
    ∷ [])

unfoldable pub is_sound_in : Planner → List ℕ → Bool
is_sound_in p words =
    let s = p.state in is_sound_at s.cores s.clock s.start s.used (tasks_of p.lists) s.count (ends_of p.lists) words
