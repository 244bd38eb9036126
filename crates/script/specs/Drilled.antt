-- What the drill does with one line: document 01, 'The drill program', through the contracts of the planner's calls.
use Rattle.std.specs.Prelude.{◌≡◌, Option, Some, None, cond, List, [], ◌++◌, ℕ, zero, suc, ◌≤◌, ◌<◌, eqb, length, drop, get_or}
use Rattle.rules.specs.Calls.{Answer as Handed, declare, withdraw, release, advance}
use Rattle.rules.specs.Held.{Planner}
use Rattle.wrap.specs.Asked.{most_segments}
use Rattle.calls.specs.Called.{Left, called, opening}
use Rattle.planner.specs.Struct.{in_struct}
use Rattle.text.specs.declared.Command.{Command}
use Rattle.text.specs.declared.Command.TheVariants.{Open, Declare, Withdraw, Release, Advance}
use Rattle.text.specs.Grammar.{command_of, ok_text, no_text, sg_text}
use Rattle.script.specs.declared.Reply.{Reply}

-- the output of one line is at most so many bytes: an answer of 24, and 79 segments of 87
abbrev pub answer_bytes : ℕ
answer_bytes = 8192

-- The planner, the words of the share table and of the segment buffer, and the text that was printed.
pub record Drilled : Type 0 where
  pub planner : Planner
  pub words : List ℕ
  pub buffer : List ℕ
  pub text : List ℕ

-- the segment at the front of a buffer, and the first `count` segments: "one `SG core slot first after` for each segment"
unfoldable pub segment_text : List ℕ → List ℕ
segment_text buffer = sg_text (get_or buffer 0 0) (get_or buffer 1 0) (get_or buffer 2 0) (get_or buffer 3 0)

unfoldable pub segment_texts : ℕ → List ℕ → List ℕ
segment_texts zero buffer = []
segment_texts (suc count) buffer = segment_text buffer ++ segment_texts count (drop 4 buffer)

-- "It prints for each line `OK value` or `NO number`", and the segments of the buffer that the answer counts
unfoldable pub answer_text : Handed → List ℕ → List ℕ
answer_text a buffer = cond (eqb a.number 0) (ok_text a.value ++ segment_texts a.count buffer) (no_text a.number)

-- what a call leaves, with its answer printed; b is the segment buffer afterwards
unfoldable pub printed : Left → List ℕ → Drilled
printed l b = record { planner = l.planner; words = l.words; buffer = b; text = answer_text l.answer b }

-- The step of one command. Only an advance is lent the segment buffer.
unfoldable pub answered : Planner → List ℕ → List ℕ → Option Command → Drilled
answered p words buffer (Some (Open cores)) = printed (opening p words cores) buffer
answered p words buffer (Some (Declare period cost)) = printed (called p words [] (declare period cost)) buffer
answered p words buffer (Some (Withdraw slot)) = printed (called p words [] (withdraw slot)) buffer
answered p words buffer (Some (Release slot)) = printed (called p words [] (release slot)) buffer
answered p words buffer (Some (Advance tick)) = let l = called p words buffer (advance tick (length buffer)) in printed l l.buffer
-- a malformed line is no command: "it answers 14, before any other reason, and has no effect"
answered p words buffer None = record { planner = p; words = words; buffer = buffer; text = no_text 14 }

-- The step of one line.
unfoldable pub drilled : Planner → List ℕ → List ℕ → List ℕ → Drilled
drilled p words buffer line = answered p words buffer (command_of line)

-- An answer that can be printed: "Every refusal hands back its number with value 0 and count 0"; "At most 79 exist".
pub record Printable (a : Handed) : Type 0 where
  pub plain : 0 < a.number → a.value ≡ 0
  pub few : a.count ≤ most_segments

-- A text at the front of an output buffer, and after it what was there.
pub record Printed (text : List ℕ) (used : ℕ) (was is : List ℕ) : Type 0 where
  pub size : used ≡ length text
  pub short : used ≤ answer_bytes
  pub bytes : is ≡ text ++ drop used was

-- A line was answered as d says.
pub record Answers (d : Drilled) (r : Reply) (words buffer was is : List ℕ) : Type 0 where
  pub planner : in_struct r.planner ≡ d.planner
  pub shares : words ≡ d.words
  pub segments : buffer ≡ d.buffer
  pub printed : Printed d.text r.used was is
