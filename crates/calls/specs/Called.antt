-- What each call leaves of what is held and lent.
use Rattle.std.specs.Prelude.{◌≡◌, cond, List, [], ◌++◌, ℕ, zero, suc, ◌≤◌, length, drop, Result, Ok, Err}
use Rattle.rules.specs.declared.Refusal.{Refusal}
use Rattle.rules.specs.Numbers.{number_of}
use Rattle.rules.specs.Station.{Table, share_words}
use Rattle.rules.specs.Calls.{Answer as Handed, refusal, refused, refusals, open_refusals, Call, Outcome, opened, done, step}
use Rattle.rules.specs.Sound.{Sound}
use Rattle.rules.specs.Words.{words_of, written}
use Rattle.rules.specs.Held.{Planner, planner_of, table_of, is_sound_in, used_of, list_words, ends_of, tasks_of}
use Rattle.plan.specs.Planned.{Planned}
use Rattle.calls.specs.declared.Done.{Done}

-- a call that is done, with its value and the count of segments
abbrev pub did : ℕ → ℕ → Result Done Refusal
did value count = Ok (record { value = value; count = count })

-- an answer by document 01's number, value and count
unfoldable pub answer_of : Result Done Refusal → Handed
answer_of (Ok d) = record { number = 0; value = d.value; count = d.count }
answer_of (Err r) = refusal (number_of r)

-- What a call leaves: the planner, the words of the share table and of the segment buffer, and the answer.
pub record Left : Type 0 where
  pub planner : Planner
  pub words : List ℕ
  pub buffer : List ℕ
  pub answer : Handed

abbrev pub left : Planner → List ℕ → List ℕ → Handed → Left
left p words buffer answer = record { planner = p; words = words; buffer = buffer; answer = answer }

unfoldable pub leaves : Planner → List ℕ → List ℕ → Result Done Refusal → Left
leaves p words buffer answer = left p words buffer (answer_of answer)

-- everything as it was, and a refusal's number
unfoldable pub unchanged : ℕ → Planner → List ℕ → List ℕ → Left
unchanged number p words buffer = left p words buffer (refusal number)

-- an outcome of the rules, held and lent: the words past the table, and those after the segments, as they were
unfoldable pub held_as : List ℕ → List ℕ → Outcome → Left
held_as words buffer o = left (planner_of o.table) (words_of o.table ++ drop share_words words) (written o.segments buffer) o.answer

-- A call: for a sound table the rules' step; for any other, refusal 1.
unfoldable pub called : Planner → List ℕ → List ℕ → Call → Left
called p words buffer call = cond (is_sound_in p words) (held_as words buffer (step (length words) (table_of p words) call)) (unchanged 1 p words buffer)

-- the number of the first reason that refuses a call on any table, or 0
unfoldable pub number_for : Planner → List ℕ → Call → ℕ
number_for p words call = cond (is_sound_in p words) (refused (refusals (length words) (table_of p words) call)) 1

unfoldable pub opened_by : ℕ → Planner → List ℕ → ℕ → Left
opened_by zero p words cores = held_as words [] (done cores (opened cores))
opened_by (suc n) p words cores = unchanged (suc n) p words []

-- Open: asks for the words alone, and for the cores.
unfoldable pub opening : Planner → List ℕ → ℕ → Left
opening p words cores = opened_by (refused (open_refusals (length words) cores)) p words cores

-- the planner before any open
unfoldable pub blank_planner : Planner
blank_planner = planner_of (opened 0)

-- The planner p and the words w hold the table t, and nothing that it leaves out: 320 words of lists, the word of slots in use, and zeros
-- past the last boundary and the last row.
pub record Holds (p : Planner) (w : List ℕ) (t : Table) : Type 0 where
  pub lists : length p.lists ≡ list_words
  pub cores : p.state.cores ≡ t.cores
  pub clock : p.state.clock ≡ t.clock
  pub start : p.state.start ≡ t.start
  pub used : p.state.used ≡ used_of t.tasks
  pub tasks : tasks_of p.lists ≡ t.tasks
  pub planned : Planned t.slices (ends_of p.lists) p.state.count w

-- A planner and words that hold a sound table. That is what the check finds (`agrees` of proofs/Joint.antt).
pub record Agrees (p : Planner) (w : List ℕ) : Type 0 where
  pub long : share_words ≤ length w
  pub sound : Sound (table_of p w)
  pub holds : Holds p w (table_of p w)
