-- The listing of document 01, 'The drill program': its input, byte for byte, prints its output, whole.
-- The lines and commands of the input, the rules' answers to their calls and the texts of those are computed; between them stand
-- `prints_from_open` and `pieces-nothing`.
use mathlib.Core.Path.{◌≡◌, refl, ap, ◌∙◌}
use mathlib.Core.List.{List, [], ◌∷◌, ◌++◌}
use Prim.Native.Nat.{ℕ}
use native.Mathlib.Omega.{arith}
use lib.ListN.{length, drop}
use Rattle.std.specs.Prelude.{Some}
use Rattle.rules.specs.Station.{share_words}
use Rattle.rules.specs.Calls.{Call, declare, release, advance, opened, segment_words}
use Rattle.rules.specs.Checked.{lines}
use Rattle.rules.specs.History.{outcomes}
use Rattle.rules.specs.Held.{Planner}
use Rattle.rules.proofs.Checked.{rules}
use Rattle.lines.specs.Lines.{last_line, lines_from, lines_of}
use Rattle.text.specs.declared.Command.TheVariants.{Open}
use Rattle.text.specs.Answers.{line_text}
use Rattle.text.specs.Grammar.{decimal, number_text, is_digit, all_digits, leading_zero, is_number, value_from, value_of, onto, pieces, one_field, two_fields, of_pieces, command_of, field_text, short_text, ok_text, no_text, sg_text}
use Rattle.script.specs.Fed.{silent, scripted, joined, fed_pieces, finished, midst}
use Rattle.script.specs.Ruled.{saying, sayings, commands_of, lent, lent_all, lines_text}
use Rattle.script.proofs.Promises.{prints_from_open, pieces-nothing}

abbrev pub input : List ℕ
input =
    -- `CO 1`
    67 ∷ 79 ∷ 32 ∷ 49 ∷ 10
    -- `TK 10 5000`
    ∷ 84 ∷ 75 ∷ 32 ∷ 49 ∷ 48 ∷ 32 ∷ 53 ∷ 48 ∷ 48 ∷ 48 ∷ 10
    -- `TK 4 1200`
    ∷ 84 ∷ 75 ∷ 32 ∷ 52 ∷ 32 ∷ 49 ∷ 50 ∷ 48 ∷ 48 ∷ 10
    -- `RL 0`
    ∷ 82 ∷ 76 ∷ 32 ∷ 48 ∷ 10
    -- `AD 1`
    ∷ 65 ∷ 68 ∷ 32 ∷ 49 ∷ 10
    -- `RL 1`
    ∷ 82 ∷ 76 ∷ 32 ∷ 49 ∷ 10
    -- `AD 10`
    ∷ 65 ∷ 68 ∷ 32 ∷ 49 ∷ 48 ∷ 10
    -- `AD 10`
    ∷ 65 ∷ 68 ∷ 32 ∷ 49 ∷ 48 ∷ 10
    ∷ []

abbrev pub output : List ℕ
output =
    -- `OK 1`
    79 ∷ 75 ∷ 32 ∷ 49 ∷ 10
    -- `OK 0`
    ∷ 79 ∷ 75 ∷ 32 ∷ 48 ∷ 10
    -- `OK 1`
    ∷ 79 ∷ 75 ∷ 32 ∷ 49 ∷ 10
    -- `OK 10`
    ∷ 79 ∷ 75 ∷ 32 ∷ 49 ∷ 48 ∷ 10
    -- `OK 1`
    ∷ 79 ∷ 75 ∷ 32 ∷ 49 ∷ 10
    -- `SG 0 0 0 1000`
    ∷ 83 ∷ 71 ∷ 32 ∷ 48 ∷ 32 ∷ 48 ∷ 32 ∷ 48 ∷ 32 ∷ 49 ∷ 48 ∷ 48 ∷ 48 ∷ 10
    -- `OK 5`
    ∷ 79 ∷ 75 ∷ 32 ∷ 53 ∷ 10
    -- `OK 5`
    ∷ 79 ∷ 75 ∷ 32 ∷ 53 ∷ 10
    -- `SG 0 0 1000 2777`
    ∷ 83 ∷ 71 ∷ 32 ∷ 48 ∷ 32 ∷ 48 ∷ 32 ∷ 49 ∷ 48 ∷ 48 ∷ 48 ∷ 32 ∷ 50 ∷ 55 ∷ 55 ∷ 55 ∷ 10
    -- `SG 0 1 2777 3977`
    ∷ 83 ∷ 71 ∷ 32 ∷ 48 ∷ 32 ∷ 49 ∷ 32 ∷ 50 ∷ 55 ∷ 55 ∷ 55 ∷ 32 ∷ 51 ∷ 57 ∷ 55 ∷ 55 ∷ 10
    -- `OK 10`
    ∷ 79 ∷ 75 ∷ 32 ∷ 49 ∷ 48 ∷ 10
    -- `SG 0 0 5000 7223`
    ∷ 83 ∷ 71 ∷ 32 ∷ 48 ∷ 32 ∷ 48 ∷ 32 ∷ 53 ∷ 48 ∷ 48 ∷ 48 ∷ 32 ∷ 55 ∷ 50 ∷ 50 ∷ 51 ∷ 10
    ∷ []

abbrev opens : List ℕ
opens = 67 ∷ 79 ∷ 32 ∷ 49 ∷ []

abbrev calls : List Call
calls = declare 10 5000 ∷ declare 4 1200 ∷ release 0 ∷ advance 1 320 ∷ release 1 ∷ advance 10 320 ∷ advance 10 320 ∷ []

-- every definition of the text and of lines, so that the listing is computed
unfoldable texts : Unit {0}
unfolding last_line lines_from lines_of decimal number_text is_digit all_digits leading_zero is_number value_from value_of onto pieces one_field two_fields of_pieces command_of field_text short_text ok_text no_text sg_text line_text saying sayings commands_of lent lent_all lines_text
texts = tt

first-line : lines_of input ≡ opens ∷ drop 1 (lines_of input)
unfolding texts
first-line = refl

opens_says : command_of opens ≡ Some (Open 1)
unfolding texts rules
opens_says = refl

calls_said : commands_of (drop 1 (lines_of input)) ≡ sayings calls
unfolding texts rules
calls_said = refl

printed_whole : ok_text 1 ++ lines_text (lines (outcomes 4096 (opened 1) (lent_all 320 calls))) ≡ output
unfolding texts rules
printed_whole = refl

-- The listing's input prints its output, whatever was there before, with 4,096 and 320 words.
pub listing : (p : Planner) (words buffer : List ℕ) → length words ≡ share_words → length buffer ≡ segment_words → (scripted (silent p words buffer) (lines_of input)).text ≡ output
listing p words buffer long room =
    let whole = prints_from_open p words buffer opens 1 opens_says (omega arith) (omega arith) (omega arith) (omega arith) calls (drop 1 (lines_of input)) calls_said in
    ap (λ ls. (scripted (silent p words buffer) ls).text) first-line ∙ (rw (long, room) at whole) ∙ printed_whole

-- The same in whatever pieces it arrives.
pub listing_pieces : (p : Planner) (words buffer : List ℕ) → length words ≡ share_words → length buffer ≡ segment_words
    → (cut : List (List ℕ)) → joined cut ≡ input → (finished (fed_pieces (midst (silent p words buffer) []) cut)).text ≡ output
listing_pieces p words buffer long room cut same =
    ap (λ d. d.text) (pieces-nothing p words buffer cut) ∙ ap (λ s. (scripted (silent p words buffer) (lines_of s)).text) same ∙ listing p words buffer long room
