-- A history carried out by the planner's own contracts: what a call leaves is handed to the next.
use Rattle.std.specs.Prelude.{List, [], ◌∷◌, ◌++◌, ℕ, zero, suc, length, drop, get_or}
use Rattle.rules.specs.Wrap.{Segment}
use Rattle.rules.specs.Calls.{Answer, Outcome, Call, declare, withdraw, release, advance}
use Rattle.rules.specs.History.{Stamp, stamp}
use Rattle.rules.specs.Words.{written}
use Rattle.rules.specs.Held.{Planner}
use Rattle.calls.specs.Called.{Left, called}

-- A call as a station makes it: an advance with the segment buffer that it lends.
pub data Made : Type 0 where
  declares : ℕ → ℕ → Made
  withdraws : ℕ → Made
  releases : ℕ → Made
  advances : ℕ → List ℕ → Made

-- the call in the rules' words, and the buffer lent with it
unfoldable pub call_of : Made → Call
call_of (declares period cost) = declare period cost
call_of (withdraws slot) = withdraw slot
call_of (releases slot) = release slot
call_of (advances tick buffer) = advance tick (length buffer)

unfoldable pub buffer_of : Made → List ℕ
buffer_of (declares period cost) = []
buffer_of (withdraws slot) = []
buffer_of (releases slot) = []
buffer_of (advances tick buffer) = buffer

unfoldable pub calls_of : List Made → List Call
calls_of [] = []
calls_of (m ∷ ms) = call_of m ∷ calls_of ms

-- what one call leaves: the contract of the planner's method
unfoldable pub left_by : Planner → List ℕ → Made → Left
left_by p words m = called p words (buffer_of m) (call_of m)

-- what each call of a history leaves
unfoldable pub carried : Planner → List ℕ → List Made → List Left
carried p words [] = []
carried p words (m ∷ ms) = left_by p words m ∷ carried (left_by p words m).planner (left_by p words m).words ms

-- the planner and the words at its end
unfoldable pub last_planner : Planner → List ℕ → List Made → Planner
last_planner p words [] = p
last_planner p words (m ∷ ms) = last_planner (left_by p words m).planner (left_by p words m).words ms

unfoldable pub last_words : Planner → List ℕ → List Made → List ℕ
last_words p words [] = words
last_words p words (m ∷ ms) = last_words (left_by p words m).planner (left_by p words m).words ms

-- the answers, and the segment buffers as they are left
unfoldable pub answers_of : List Left → List Answer
answers_of [] = []
answers_of (l ∷ ls) = l.answer ∷ answers_of ls

unfoldable pub buffers_of : List Left → List (List ℕ)
buffers_of [] = []
buffers_of (l ∷ ls) = l.buffer ∷ buffers_of ls

-- the same as the rules have them
unfoldable pub answers_in : List Outcome → List Answer
answers_in [] = []
answers_in (o ∷ os) = o.answer ∷ answers_in os

unfoldable pub buffers_in : List Made → List Outcome → List (List ℕ)
buffers_in [] os = []
buffers_in (m ∷ ms) [] = []
buffers_in (m ∷ ms) (o ∷ os) = written o.segments (buffer_of m) ∷ buffers_in ms os

-- the first so many segments of a buffer, four words each
unfoldable pub segments_in : ℕ → List ℕ → List Segment
segments_in zero buffer = []
segments_in (suc n) buffer = record { core = get_or buffer 0 0; slot = get_or buffer 1 0; first = get_or buffer 2 0; after = get_or buffer 3 0 } ∷ segments_in n (drop 4 buffer)

-- the record of what ran: from each buffer as many segments as the answer counts
unfoldable pub record_in : List Left → List Segment
record_in [] = []
record_in (l ∷ ls) = segments_in l.answer.count l.buffer ++ record_in ls

-- the task and release calls, refused ones too, with the planner's clock when they were made
unfoldable pub stamped_in : Planner → List ℕ → List Made → List Stamp
stamped_in p words [] = []
stamped_in p words (m ∷ ms) = stamp p.state.clock (call_of m) ++ stamped_in (left_by p words m).planner (left_by p words m).words ms
