-- A script by the rules alone: the calls that its lines say, and the lines that the rules print.
use Rattle.std.specs.Prelude.{Option, Some, List, [], ◌∷◌, ◌++◌, ℕ}
use Rattle.rules.specs.Calls.{Call, declare, withdraw, release, advance}
use Rattle.rules.specs.Checked.{Line}
use Rattle.text.specs.declared.Command.{Command}
use Rattle.text.specs.declared.Command.TheVariants.{Declare, Withdraw, Release, Advance}
use Rattle.text.specs.Answers.{line_text}
use Rattle.text.specs.Grammar.{command_of}

-- the command that says a call
unfoldable pub saying : Call → Command
saying (declare period cost) = Declare period cost
saying (withdraw slot) = Withdraw slot
saying (release slot) = Release slot
saying (advance tick room) = Advance tick

unfoldable pub sayings : List Call → List (Option Command)
sayings [] = []
sayings (c ∷ cs) = Some (saying c) ∷ sayings cs

-- the commands of some lines, and none for a malformed one
unfoldable pub commands_of : List (List ℕ) → List (Option Command)
commands_of [] = []
commands_of (line ∷ lines) = command_of line ∷ commands_of lines

-- the calls with a segment buffer of so many words
unfoldable pub lent : ℕ → Call → Call
lent room (declare period cost) = declare period cost
lent room (withdraw slot) = withdraw slot
lent room (release slot) = release slot
lent room (advance tick other) = advance tick room

unfoldable pub lent_all : ℕ → List Call → List Call
lent_all room [] = []
lent_all room (c ∷ cs) = lent room c ∷ lent_all room cs

-- the text of some lines
unfoldable pub lines_text : List Line → List ℕ
lines_text [] = []
lines_text (l ∷ ls) = line_text l ++ lines_text ls
