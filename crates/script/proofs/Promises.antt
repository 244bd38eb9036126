-- What holds of the drill: how its input arrives changes nothing; malformed lines, lines before the first open, and open; and every other
-- line prints what the rules print.
use mathlib.Core.Path.{◌≡◌, refl, ap, sym, ◌∙◌}
use mathlib.Core.Bool.{true, or-true}
use mathlib.Core.Logic.{◌⊎◌, inl, inr}
use mathlib.Core.List.{List, [], ◌∷◌, ◌++◌, append-nil}
use Prim.Native.Nat.{ℕ, ◌≤◌, ◌<◌}
use native.Mathlib.Omega.{arith}
use lib.Seq.{take_at}
use lib.ListN.{length, take, drop, length-append, length-drop}
use borrow.Author.Tests.{le-ltb, lt-ltb, ne_eqb}
use Rattle.std.specs.Prelude.{Option, Some, None}
use Rattle.rules.specs.Station.{share_words}
use Rattle.rules.specs.Calls.{Call, declare, withdraw, release, advance, refusal, refused, open_refusals, opened, done, segment_words}
use Rattle.rules.specs.Words.{words_of}
use Rattle.rules.specs.History.{outcomes}
use Rattle.rules.specs.Held.{Planner, table_of, planner_of, is_sound_in}
use Rattle.rules.specs.Checked.{lines}
use Rattle.rules.proofs.Kept.{opened-sound}
use Rattle.lines.specs.Lines.{lines_of}
use Rattle.planner.specs.Struct.{in_struct}
use Rattle.calls.specs.Called.{blank_planner, unchanged, held_as, called, opened_by, opening}
use Rattle.calls.proofs.Called.{called-unsound}
use Rattle.calls.proofs.Opening.{blank_unsound, open_refused as refused-open}
use Rattle.calls.proofs.Round.{same-table, words-length, still-sound}
use Rattle.text.specs.declared.Command.{Command}
use Rattle.text.specs.declared.Command.TheVariants.{Open, Declare, Withdraw, Release, Advance}
use Rattle.text.specs.Grammar.{command_of, ok_text, no_text}
use Rattle.script.specs.declared.Reply.{Reply}
use Rattle.script.specs.declared.Fed.{Fed}
use Rattle.script.specs.Drilled.{Answers, Drilled, segment_texts, answer_text, printed, answered, drilled}
use Rattle.script.specs.Fed.{scripted, midst, silent, next, fed, fed_pieces, lastly, finished, joined, Comes}
use Rattle.script.specs.Ruled.{sayings, commands_of, lent_all, lines_text}
use Rattle.script.proofs.Streams.{fed-joined, fed-lines}
use Rattle.script.proofs.Further.{come_last, come_printed}
use Rattle.script.proofs.Ruled.{state, Ready, rules_script}

-- A script that is fed in pieces and finished leaves the same planner, words and text as its lines answered one after another, in
-- whatever pieces it arrives.
pub pieces-nothing : (p : Planner) (words buffer : List ℕ) (pieces : List (List ℕ))
    → finished (fed_pieces (midst (silent p words buffer) []) pieces) ≡ scripted (silent p words buffer) (lines_of (joined pieces))
unfolding lines_of
pieces-nothing p words buffer pieces =
    ap finished (fed-joined (midst (silent p words buffer) []) pieces) ∙ fed-lines (silent p words buffer) [] (joined pieces)

-- So two ways to cut the same bytes into pieces come out the same.
pub same_bytes : (p : Planner) (words buffer : List ℕ) (one other : List (List ℕ)) → joined one ≡ joined other
    → finished (fed_pieces (midst (silent p words buffer) []) one) ≡ finished (fed_pieces (midst (silent p words buffer) []) other)
same_bytes p words buffer one other e =
    pieces-nothing p words buffer one ∙ ap (λ s. scripted (silent p words buffer) (lines_of s)) e ∙ sym (pieces-nothing p words buffer other)

-- The code: where its calls have come through the bytes xs of a script (as `feed` and `feed_lines` say), and `finish` follows, the planner, the
-- words and the bytes printed are those of the script's lines, answered one after another.
pub whole_script : (p : Planner) (words₀ buffer₀ xs : List ℕ) {r : Fed} {words buffer line was is : List ℕ} → Comes (fed (midst (silent p words₀ buffer₀) []) xs) r words buffer line was is
    → {reply : Reply} {words' buffer' other out : List ℕ} → Answers (lastly (silent (in_struct r.planner) words buffer) (fed (midst (silent p words₀ buffer₀) []) xs).kept) reply words' buffer' other out
    → scripted (silent p words₀ buffer₀) (lines_of xs) ≡ state (in_struct reply.planner) words' buffer' (take r.written is ++ take reply.used out)
unfolding lines_of
whole_script p words₀ buffer₀ xs {r} {words} {buffer} c {reply} {words'} {buffer'} {other} {out} a =
    let m = fed (midst (silent p words₀ buffer₀) []) xs in
    let d = lastly (silent (in_struct r.planner) words buffer) m.kept in
    let last : take reply.used out ≡ d.text = rw a.printed.bytes (take_at d.text (drop reply.used other) reply.used (sym a.printed.size)) in
    sym (fed-lines (silent p words₀ buffer₀) [] xs) ∙ come_last c ∙ rw (a.planner, a.shares, a.segments, come_printed c, last)

-- everything as it was, and a refusal's number
abbrev pub told_only : Planner → List ℕ → List ℕ → ℕ → Drilled
told_only p words buffer number = record { planner = p; words = words; buffer = buffer; text = no_text number }

-- A malformed line answers 14 before any other reason, whatever the state, and changes nothing.
pub malformed_first : (p : Planner) (words buffer line : List ℕ) → command_of line ≡ None → drilled p words buffer line ≡ told_only p words buffer 14
unfolding drilled answered
malformed_first p words buffer line e = rw e

-- a refusal that left everything as it was, printed
refusal-told : (n : ℕ) (p : Planner) (words b buffer : List ℕ) → (n ≡ 0 → ⊥) → printed (unchanged n p words b) buffer ≡ told_only p words buffer n
unfolding printed unchanged refusal answer_text
refusal-told n p words b buffer some = rw (ne_eqb n 0 some)

blank_told : (words b buffer : List ℕ) (call : Call) → printed (called blank_planner words b call) buffer ≡ told_only blank_planner words buffer 1
blank_told words b buffer call = ap (λ l. printed l buffer) (sym (called-unsound blank_planner words b call (blank_unsound words))) ∙ refusal-told 1 blank_planner words b buffer (λ z. omega arith)

blank_buffer : (words buffer : List ℕ) (call : Call) → (called blank_planner words buffer call).buffer ≡ buffer
unfolding unchanged
blank_buffer words buffer call = sym (ap (λ l. l.buffer) (called-unsound blank_planner words buffer call (blank_unsound words)))

blank_answered : (words buffer : List ℕ) (c : Option Command) → (c ≡ None → ⊥) → ((cores : ℕ) → c ≡ Some (Open cores) → ⊥) → answered blank_planner words buffer c ≡ told_only blank_planner words buffer 1
unfolding answered
blank_answered words buffer (Some (Open cores)) well other = absurd (other cores refl)
blank_answered words buffer (Some (Declare period cost)) well other = blank_told words [] buffer (declare period cost)
blank_answered words buffer (Some (Withdraw slot)) well other = blank_told words [] buffer (withdraw slot)
blank_answered words buffer (Some (Release slot)) well other = blank_told words [] buffer (release slot)
blank_answered words buffer (Some (Advance tick)) well other =
    let call = advance tick (length buffer) in
    ap (printed (called blank_planner words buffer call)) (blank_buffer words buffer call) ∙ blank_told words buffer buffer call
blank_answered words buffer None well other = absurd (well refl)

-- Before the first accepted `CO`, every other well-formed command answers 1 and changes nothing.
pub before_open : (words buffer line : List ℕ) → (command_of line ≡ None → ⊥) → ((cores : ℕ) → command_of line ≡ Some (Open cores) → ⊥)
    → drilled blank_planner words buffer line ≡ told_only blank_planner words buffer 1
unfolding drilled
before_open words buffer line well other = blank_answered words buffer (command_of line) well other

module _ (p : Planner) (words buffer line : List ℕ) (cores : ℕ) (says : command_of line ≡ Some (Open cores)) (room : share_words ≤ length words) where
  -- An accepted `CO` opens afresh, whatever was there: a fresh table, all 4,096 words zero.
  pub opens_afresh : 1 ≤ cores → cores ≤ 16
      → drilled p words buffer line ≡ record { planner = planner_of (opened cores); words = words_of (opened cores) ++ drop share_words words; buffer = buffer; text = ok_text cores }
  unfolding drilled answered printed opening opened_by refused open_refusals held_as done answer_text segment_texts
  opens_afresh some few = rw (says, le-ltb (length words) share_words room, le-ltb cores 1 some, le-ltb 16 cores few, append-nil (ok_text cores))

  refused_two : 2 ≡ refused (open_refusals (length words) cores) → drilled p words buffer line ≡ told_only p words buffer 2
  unfolding drilled answered
  refused_two two = rw says (ap (λ l. printed l buffer) (sym (refused-open p words cores 2 two (λ z. omega arith))) ∙ refusal-told 2 p words [] buffer (λ z. omega arith))

  -- Any other `CO` answers 2 and changes nothing.
  pub open_refused : (cores < 1) ⊎ (16 < cores) → drilled p words buffer line ≡ told_only p words buffer 2
  unfolding refused open_refusals
  open_refused (inl none) = refused_two (rw (le-ltb (length words) share_words room, lt-ltb cores 1 none))
  open_refused (inr many) = refused_two (rw (le-ltb (length words) share_words room, lt-ltb 16 cores many, or-true))

-- Lines that say calls, on a sound table, print what the rules print of those calls, with 320 words or more of segment buffer.
pub prints_the_rules : (p : Planner) (words buffer : List ℕ) → is_sound_in p words ≡ true → share_words ≤ length words → segment_words ≤ length buffer
    → (calls : List Call) (ls : List (List ℕ)) → commands_of ls ≡ sayings calls
    → (scripted (silent p words buffer) ls).text ≡ lines_text (lines (outcomes (length words) (table_of p words) (lent_all (length buffer) calls)))
prints_the_rules p words buffer ok long room calls ls says = rules_script p words buffer [] (record { ok = ok; long = long; room = room }) calls ls says

-- The same after a line that opens the table, whatever was there before it.
pub prints_from_open : (p : Planner) (words buffer line : List ℕ) (cores : ℕ) → command_of line ≡ Some (Open cores) → 1 ≤ cores → cores ≤ 16
    → share_words ≤ length words → segment_words ≤ length buffer → (calls : List Call) (ls : List (List ℕ)) → commands_of ls ≡ sayings calls
    → (scripted (silent p words buffer) (line ∷ ls)).text ≡ ok_text cores ++ lines_text (lines (outcomes (length words) (opened cores) (lent_all (length buffer) calls)))
unfolding scripted next
prints_from_open p words buffer line cores says some few long room calls ls said =
    let past = drop share_words words in
    let sound = opened-sound cores some few in
    let size : length (words_of (opened cores) ++ past) ≡ length words = simp (length-append, length-drop) (omega (arith, words-length (opened cores) sound past)) in
    let ready : Ready (planner_of (opened cores)) (words_of (opened cores) ++ past) buffer = record { ok = still-sound (opened cores) sound past; long = rw size long; room = room } in
    let rest = rules_script (planner_of (opened cores)) (words_of (opened cores) ++ past) buffer (ok_text cores) ready calls ls said in
    let first : next (silent p words buffer) line ≡ state (planner_of (opened cores)) (words_of (opened cores) ++ past) buffer (ok_text cores) = rw (opens_afresh p words buffer line cores says long some few) in
    ap (λ d. (scripted d ls).text) first ∙ (rw (size, same-table (opened cores) sound past) at rest)
