-- A well-formed line on a sound table is answered as the rules have it: the same table, segments and text.
use mathlib.Core.Path.{◌≡◌, refl, ap, sym, ◌∙◌}
use mathlib.Core.Bool.{true}
use mathlib.Core.List.{List, [], ◌∷◌, ◌++◌, append_assoc, append-nil}
use Prim.Native.Nat.{ℕ, ◌*◌, ◌≤◌}
use native.Mathlib.Omega.{arith}
use lib.Dec.{eqb}
use lib.ListN.{length, drop, length-append, length-drop}
use borrow.Author.Tests.{eqb-false}
use Rattle.std.specs.Prelude.{Some}
use Rattle.rules.specs.Station.{Table, share_words}
use Rattle.rules.specs.Wrap.{Segment}
use Rattle.rules.specs.Calls.{Call, declare, withdraw, release, advance, Outcome, refusal, done, accepted, step, segment_words}
use Rattle.rules.specs.Sound.{Sound}
use Rattle.rules.specs.History.{outcomes}
use Rattle.rules.specs.Words.{words_of, segments_flat, written}
use Rattle.rules.specs.Held.{Planner, table_of, planner_of, is_sound_in}
use Rattle.rules.specs.Checked.{Line, segment_lines, lines}
use Rattle.rules.proofs.Floor.{by_bool}
use Rattle.rules.proofs.Steps.{decided_cases}
use Rattle.rules.proofs.Kept.{step-sound}
use Rattle.wrap.specs.Asked.{most_segments}
use Rattle.calls.specs.Called.{held_as, called}
use Rattle.calls.proofs.Joint.{written_none}
use Rattle.calls.proofs.Round.{same-table, words-length, still-sound}
use Rattle.calls.proofs.Promises.{sound_of}
use Rattle.text.specs.Answers.{line_text}
use Rattle.text.specs.Grammar.{command_of, ok_text, no_text}
use Rattle.script.specs.Drilled.{Drilled, segment_text, segment_texts, answer_text, printed, answered, drilled}
use Rattle.script.specs.Fed.{next, scripted}
use Rattle.script.specs.Ruled.{saying, sayings, commands_of, lent, lent_all, lines_text}
use Rattle.script.proofs.Printable.{called_printable}

-- an outcome as the drill holds and prints it
abbrev pub drilled_as : List ℕ → List ℕ → Outcome → Drilled
drilled_as words buffer o = record { planner = planner_of o.table; words = words_of o.table ++ drop share_words words; buffer = written o.segments buffer; text = lines_text (lines (o ∷ [])) }

-- what stands in a buffer is printed
pub segments-printed : (gs : List Segment) (rest : List ℕ) → segment_texts (length gs) (segments_flat gs ++ rest) ≡ lines_text (segment_lines gs)
unfolding segment_texts segment_text segments_flat lines_text segment_lines line_text
segments-printed [] rest = refl
segments-printed (g ∷ gs) rest = rw (segments-printed gs rest)

-- an outcome counts its segments, and a refusal has none
pub record Counted (o : Outcome) : Type 0 where
  pub count : o.answer.count ≡ length o.segments
  pub none : (o.answer.number ≡ 0 → ⊥) → o.segments ≡ []

accepted_counted : (t : Table) (call : Call) → Counted (accepted t call)
unfolding accepted done
accepted_counted t (declare period cost) = record { count = refl; none = λ n. refl }
accepted_counted t (withdraw slot) = record { count = refl; none = λ n. refl }
accepted_counted t (release slot) = record { count = refl; none = λ n. refl }
accepted_counted t (advance tick room) = record { count = refl; none = λ n. absurd (n refl) }

step_counted : (words : ℕ) (t : Table) (call : Call) → Counted (step words t call)
unfolding step refusal
step_counted words t call = decided_cases Counted _ t (accepted t call) (λ e. accepted_counted t call) (λ h. record { count = refl; none = λ n. refl })

-- what is printed of an outcome, whose segments stand in the buffer
text_of : (o : Outcome) (buffer : List ℕ) → Counted o → answer_text o.answer (written o.segments buffer) ≡ lines_text (lines (o ∷ []))
unfolding answer_text written lines segment_lines lines_text line_text
text_of o buffer k =
    by_bool (eqb o.answer.number 0)
    (λ e. rw (e, k.count, append-nil (segment_lines o.segments)) (ap (λ t. ok_text o.answer.value ++ t) (segments-printed o.segments (drop (4 * length o.segments) buffer))))
    (λ e. let none = k.none (eqb-false _ _ e) in rw (e, none) (sym (append-nil (no_text o.answer.number))))

abbrev pub state : Planner → List ℕ → List ℕ → List ℕ → Drilled
state p words buffer text = record { planner = p; words = words; buffer = buffer; text = text }

-- a call that leaves the buffer alone
alone : (words buffer : List ℕ) (o : Outcome) → Counted o → o.segments ≡ [] → printed (held_as words [] o) buffer ≡ drilled_as words buffer o
unfolding printed held_as
alone words buffer o k none =
    let same : written o.segments buffer ≡ buffer = rw none (written_none buffer) in
    let text : answer_text o.answer buffer ≡ lines_text (lines (o ∷ [])) = ap (answer_text o.answer) (sym same) ∙ text_of o buffer k in
    rw (same, text)

alone_step : (words : ℕ) (t : Table) (call : Call) → (accepted t call).segments ≡ [] → (step words t call).segments ≡ []
unfolding step
alone_step words t call none = decided_cases (λ o. o.segments ≡ []) _ t (accepted t call) (λ e. none) (λ h. refl)

module _ (p : Planner) (words buffer : List ℕ) (ok : is_sound_in p words ≡ true) where
  left_is : (lent_buffer : List ℕ) (call : Call) → called p words lent_buffer call ≡ held_as words lent_buffer (step (length words) (table_of p words) call)
  unfolding called
  left_is lent_buffer call = rw ok

  plain_step : (call : Call) → (accepted (table_of p words) call).segments ≡ [] → printed (called p words [] call) buffer ≡ drilled_as words buffer (step (length words) (table_of p words) call)
  plain_step call none =
      ap (λ l. printed l buffer) (left_is [] call) ∙ alone words buffer (step (length words) (table_of p words) call) (step_counted (length words) (table_of p words) call) (alone_step (length words) (table_of p words) call none)

  advance-step : (call : Call) → printed (called p words buffer call) (called p words buffer call).buffer ≡ drilled_as words buffer (step (length words) (table_of p words) call)
  unfolding printed held_as
  advance-step call =
      let o = step (length words) (table_of p words) call in
      rw (left_is buffer call) (ap (state (planner_of o.table) (words_of o.table ++ drop share_words words) (written o.segments buffer)) (text_of o buffer (step_counted (length words) (table_of p words) call)))

  -- one command
  pub rules_step : (call : Call) → answered p words buffer (Some (saying call)) ≡ drilled_as words buffer (step (length words) (table_of p words) (lent (length buffer) call))
  unfolding answered saying lent accepted done
  rules_step (declare period cost) = plain_step (declare period cost) refl
  rules_step (withdraw slot) = plain_step (withdraw slot) refl
  rules_step (release slot) = plain_step (release slot) refl
  rules_step (advance tick room) = advance-step (advance tick (length buffer))

-- the text of lines after lines
text-append : (xs ys : List Line) → lines_text (xs ++ ys) ≡ lines_text xs ++ lines_text ys
unfolding lines_text
text-append [] ys = refl
text-append (x ∷ xs) ys = rw (text-append xs ys, append_assoc (line_text x) (lines_text xs) (lines_text ys))

lines_next : (o : Outcome) (os : List Outcome) → lines (o ∷ os) ≡ lines (o ∷ []) ++ lines os
unfolding lines
lines_next o os = simp (append-nil)

-- what an outcome leaves is a sound table again, as long as the words and the buffer are long enough
pub record Ready (p : Planner) (words buffer : List ℕ) : Type 0 where
  pub ok : is_sound_in p words ≡ true
  pub long : share_words ≤ length words
  pub room : segment_words ≤ length buffer

flat-length : (gs : List Segment) → length (segments_flat gs) ≡ 4 * length gs
unfolding segments_flat
flat-length [] = refl
flat-length (g ∷ gs) = omega (arith, flat-length gs)

written-length : (gs : List Segment) (buffer : List ℕ) → 4 * length gs ≤ length buffer → length (written gs buffer) ≡ length buffer
unfolding written
written-length gs buffer fits = simp (length-append, length-drop, flat-length gs) (omega arith)

module _ {p : Planner} {words buffer : List ℕ} (r : Ready p words buffer) (call : Call) where
  abbrev outcome : Outcome
  outcome = step (length words) (table_of p words) call

  kept-sound : Sound outcome.table
  kept-sound = step-sound (length words) (table_of p words) call (sound_of p words r.ok)

  pub next-table : table_of (planner_of outcome.table) (words_of outcome.table ++ drop share_words words) ≡ outcome.table
  next-table = same-table outcome.table kept-sound (drop share_words words)

  pub next-words : length (words_of outcome.table ++ drop share_words words) ≡ length words
  next-words = simp (length-append, length-drop) (omega (arith, words-length outcome.table kept-sound (drop share_words words), r.long))

  few : length outcome.segments ≤ most_segments
  unfolding called held_as
  few = let p' = rw r.ok at (called_printable p words buffer call).few in omega (arith, (step_counted (length words) (table_of p words) call).count)

  pub next-buffer : length (written outcome.segments buffer) ≡ length buffer
  next-buffer = written-length outcome.segments buffer (omega (arith, few, r.room))

  pub next-ready : Ready (planner_of outcome.table) (words_of outcome.table ++ drop share_words words) (written outcome.segments buffer)
  next-ready = record {
    ok = still-sound outcome.table kept-sound (drop share_words words);
    long = rw next-words r.long;
    room = rw next-buffer r.room;
  }

-- one line, and then the rest
next-line : (p : Planner) (words buffer text : List ℕ) → Ready p words buffer → (call : Call) (line : List ℕ) → command_of line ≡ Some (saying call)
    → next (state p words buffer text) line ≡ (let o = step (length words) (table_of p words) (lent (length buffer) call) in
    state (planner_of o.table) (words_of o.table ++ drop share_words words) (written o.segments buffer) (text ++ lines_text (lines (o ∷ []))))
unfolding next drilled
next-line p words buffer text r call line e = rw (e, rules_step p words buffer r.ok call)

-- A script of commands on a sound table prints what the rules print of their calls.
pub rules_script : (p : Planner) (words buffer text : List ℕ) → Ready p words buffer → (calls : List Call) (ls : List (List ℕ)) → commands_of ls ≡ sayings calls
    → (scripted (state p words buffer text) ls).text ≡ text ++ lines_text (lines (outcomes (length words) (table_of p words) (lent_all (length buffer) calls)))
unfolding scripted commands_of sayings outcomes lent_all lines lines_text
rules_script p words buffer text r [] [] e = sym (append-nil text)
rules_script p words buffer text r [] (l ∷ ls) e = let x = ap length e in absurd (omega arith)
rules_script p words buffer text r (c ∷ cs) [] e = let x = ap length e in absurd (omega arith)
rules_script p words buffer text r (c ∷ cs) (l ∷ ls) e =
    let head : command_of l ≡ Some (saying c) = cc in
    let tail : commands_of ls ≡ sayings cs = cc in
    let call = lent (length buffer) c in
    let o = step (length words) (table_of p words) call in
    let os = outcomes (length words) o.table (lent_all (length buffer) cs) in
    let rest = rules_script (planner_of o.table) (words_of o.table ++ drop share_words words) (written o.segments buffer) (text ++ lines_text (lines (o ∷ []))) (next-ready r call) cs ls tail in
    let same : (scripted (state (planner_of o.table) (words_of o.table ++ drop share_words words) (written o.segments buffer) (text ++ lines_text (lines (o ∷ [])))) ls).text
    ≡ text ++ lines_text (lines (o ∷ [])) ++ lines_text (lines os) =
    rw (next-words r call, next-table r call, next-buffer r call) at rest in
    ap (λ d. (scripted d ls).text) (next-line p words buffer text r c l head) ∙ same ∙ append_assoc text (lines_text (lines (o ∷ []))) (lines_text (lines os))
    ∙ ap (λ t. text ++ t) (sym (text-append (lines (o ∷ [])) (lines os)) ∙ ap lines_text (sym (lines_next o os)))
