-- A history carried out by the planner's own contracts is the rules' history: the same tables, answers and segments. By induction along the
-- calls: what a call leaves on a sound table is the rules' step, put into a planner and words, from which the table comes back.
use mathlib.Core.Path.{◌≡◌, refl, ap, sym, ◌∙◌}
use mathlib.Core.Bool.{true}
use mathlib.Core.List.{List, [], ◌∷◌, ◌++◌, Memᴰ}
use Prim.Native.Nat.{ℕ, ◌*◌}
use native.Mathlib.Omega.{arith}
use lib.ListN.{length, drop, length-append, length-drop}
use lib.Seq.{drop_at}
use Rattle.rules.specs.Station.{Table, share_words}
use Rattle.rules.specs.Sound.{Sound}
use Rattle.rules.specs.Wrap.{Segment}
use Rattle.rules.specs.Calls.{Call, declare, withdraw, release, advance, Outcome, refusal, refused, refusals, done, accepted, step}
use Rattle.rules.specs.History.{after, outcomes, record_of, stamp, stamped}
use Rattle.rules.specs.Words.{words_of, segments_flat, written}
use Rattle.rules.proofs.Steps.{decided_cases}
use Rattle.rules.proofs.Kept.{step-sound, never_one}
use Rattle.rules.specs.Held.{Planner, table_of, table_at, planner_of, is_sound_in, list_words}
use Rattle.rules.proofs.Held.{planner-length}
use Rattle.calls.specs.Called.{Left, held_as, called, Agrees}
use Rattle.calls.proofs.Joint.{agrees, same-planner, same-words}
use Rattle.calls.proofs.Round.{same-table, words-length, still-sound}
use Rattle.calls.proofs.Promises.{sound_of}
use Rattle.history.specs.Carried.{Made, call_of, buffer_of, calls_of, left_by, carried, last_planner, last_words, answers_of, buffers_of, answers_in, buffers_in, segments_in, record_in, stamped_in}
use Rattle.history.proofs.Replay.{same_run}

module _ (p : Planner) (words : List ℕ) (wide : length p.lists ≡ list_words) (ok : is_sound_in p words ≡ true) (m : Made) where
  -- the rules' outcome of the call
  abbrev outcome : Outcome
  outcome = step (length words) (table_of p words) (call_of m)

  left_is : left_by p words m ≡ held_as words (buffer_of m) outcome
  unfolding left_by called
  left_is = rw ok

  next-kept : Sound outcome.table
  next-kept = step-sound (length words) (table_of p words) (call_of m) (sound_of p words ok)

  next-table : table_of (left_by p words m).planner (left_by p words m).words ≡ outcome.table
  unfolding held_as
  next-table = rw left_is (same-table outcome.table next-kept (drop share_words words))

  next_ok : is_sound_in (left_by p words m).planner (left_by p words m).words ≡ true
  unfolding held_as
  next_ok = rw left_is (still-sound outcome.table next-kept (drop share_words words))

  next_wide : length (left_by p words m).planner.lists ≡ list_words
  unfolding held_as
  next_wide = rw left_is (planner-length outcome.table next-kept.slots)

  next-long : length (left_by p words m).words ≡ length words
  unfolding held_as
  next-long = rw left_is (simp (length-append, length-drop) (omega (arith, words-length outcome.table next-kept (drop share_words words), (agrees p words wide ok).long)))

  next_past : drop share_words (left_by p words m).words ≡ drop share_words words
  unfolding held_as
  next_past = rw left_is (drop_at (words_of outcome.table) (drop share_words words) share_words (words-length outcome.table next-kept (drop share_words words)))

  next-answer : (left_by p words m).answer ≡ outcome.answer
  unfolding held_as
  next-answer = rw left_is

  next-buffer : (left_by p words m).buffer ≡ written outcome.segments (buffer_of m)
  unfolding held_as
  next-buffer = rw left_is

-- The table at the end is the rules' table.
pub carried-table : (p : Planner) (words : List ℕ) (ms : List Made) → length p.lists ≡ list_words → is_sound_in p words ≡ true
    → table_of (last_planner p words ms) (last_words p words ms) ≡ after (length words) (table_of p words) (calls_of ms)
unfolding last_planner last_words after calls_of
carried-table p words [] wide ok = refl
carried-table p words (m ∷ ms) wide ok =
    carried-table (left_by p words m).planner (left_by p words m).words ms (next_wide p words wide ok m) (next_ok p words wide ok m)
    ∙ rw (next-long p words wide ok m, next-table p words wide ok m)

-- The answers are the rules' answers.
pub carried_answers : (p : Planner) (words : List ℕ) (ms : List Made) → length p.lists ≡ list_words → is_sound_in p words ≡ true
    → answers_of (carried p words ms) ≡ answers_in (outcomes (length words) (table_of p words) (calls_of ms))
unfolding carried answers_of answers_in outcomes calls_of
carried_answers p words [] wide ok = refl
carried_answers p words (m ∷ ms) wide ok =
    let rest : answers_of (carried (left_by p words m).planner (left_by p words m).words ms) ≡ answers_in (outcomes (length words) (step (length words) (table_of p words) (call_of m)).table (calls_of ms)) =
    carried_answers (left_by p words m).planner (left_by p words m).words ms (next_wide p words wide ok m) (next_ok p words wide ok m)
    ∙ rw (next-long p words wide ok m, next-table p words wide ok m) in
    rw (next-answer p words wide ok m, rest)

-- The segment buffers hold the rules' segments, and after them what they held.
pub carried-segments : (p : Planner) (words : List ℕ) (ms : List Made) → length p.lists ≡ list_words → is_sound_in p words ≡ true
    → buffers_of (carried p words ms) ≡ buffers_in ms (outcomes (length words) (table_of p words) (calls_of ms))
unfolding carried buffers_of buffers_in outcomes calls_of
carried-segments p words [] wide ok = refl
carried-segments p words (m ∷ ms) wide ok =
    let rest : buffers_of (carried (left_by p words m).planner (left_by p words m).words ms) ≡ buffers_in ms (outcomes (length words) (step (length words) (table_of p words) (call_of m)).table (calls_of ms)) =
    carried-segments (left_by p words m).planner (left_by p words m).words ms (next_wide p words wide ok m) (next_ok p words wide ok m)
    ∙ rw (next-long p words wide ok m, next-table p words wide ok m) in
    rw (next-buffer p words wide ok m, rest)

clock_of : (p : Planner) (words : List ℕ) → (table_of p words).clock ≡ p.state.clock
unfolding table_of table_at
clock_of p words = refl

pub carried-clock : (p : Planner) (words : List ℕ) (ms : List Made) → length p.lists ≡ list_words → is_sound_in p words ≡ true
    → (last_planner p words ms).state.clock ≡ (after (length words) (table_of p words) (calls_of ms)).clock
carried-clock p words ms wide ok = sym (clock_of (last_planner p words ms) (last_words p words ms)) ∙ ap (λ t. t.clock) (carried-table p words ms wide ok)

-- The calls were made at the rules' ticks.
pub carried_stamps : (p : Planner) (words : List ℕ) (ms : List Made) → length p.lists ≡ list_words → is_sound_in p words ≡ true
    → stamped_in p words ms ≡ stamped (length words) (table_of p words) (calls_of ms)
unfolding stamped_in stamped calls_of
carried_stamps p words [] wide ok = refl
carried_stamps p words (m ∷ ms) wide ok =
    let rest : stamped_in (left_by p words m).planner (left_by p words m).words ms ≡ stamped (length words) (step (length words) (table_of p words) (call_of m)).table (calls_of ms) =
    carried_stamps (left_by p words m).planner (left_by p words m).words ms (next_wide p words wide ok m) (next_ok p words wide ok m)
    ∙ rw (next-long p words wide ok m, next-table p words wide ok m) in
    ap (λ more. stamp p.state.clock (call_of m) ++ more) rest ∙ ap (λ tick. stamp tick (call_of m) ++ stamped (length words) (step (length words) (table_of p words) (call_of m)).table (calls_of ms)) (sym (clock_of p words))

-- No call is refused with 1.
pub carried_never_1 : (p : Planner) (words : List ℕ) (ms : List Made) → length p.lists ≡ list_words → is_sound_in p words ≡ true
    → (l : Left) → Memᴰ l (carried p words ms) → l.answer.number ≡ 1 → ⊥
unfolding carried
carried_never_1 p words [] wide ok l x4 one = elim x4 [ ]
carried_never_1 p words (m ∷ ms) wide ok l (Memᴰ.head is) one =
    never_one (length words) (table_of p words) (call_of m) (agrees p words wide ok).long (sound_of p words ok) (sym (ap (λ a. a.number) (ap (λ k. k.answer) is ∙ next-answer p words wide ok m)) ∙ one)
carried_never_1 p words (m ∷ ms) wide ok l (Memᴰ.tail later) one =
    carried_never_1 (left_by p words m).planner (left_by p words m).words ms (next_wide p words wide ok m) (next_ok p words wide ok m) l later one

-- segments that stand at the front of a buffer are read from it
pub segments_in_lem : (gs : List Segment) (rest : List ℕ) → segments_in (length gs) (segments_flat gs ++ rest) ≡ gs
unfolding segments_in segments_flat
segments_in_lem [] rest = refl
segments_in_lem (g ∷ gs) rest = ap (λ more. g ∷ more) (segments_in_lem gs rest)

-- an outcome's count is that of its segments
accepted-count : (t : Table) (c : Call) → (accepted t c).answer.count ≡ length (accepted t c).segments
unfolding accepted done
accepted-count t (declare period cost) = refl
accepted-count t (withdraw slot) = refl
accepted-count t (release slot) = refl
accepted-count t (advance tick room) = refl

step_count : (words : ℕ) (t : Table) (c : Call) → (step words t c).answer.count ≡ length (step words t c).segments
unfolding step refusal
step_count words t c = decided_cases (λ o. o.answer.count ≡ length o.segments) (refused (refusals words t c)) t (accepted t c) (λ none. accepted-count t c) (λ some. refl)

-- so a buffer that an advance leaves gives its segments back
pub step-segments : (words : ℕ) (t : Table) (c : Call) (buffer : List ℕ) → segments_in (step words t c).answer.count (written (step words t c).segments buffer) ≡ (step words t c).segments
unfolding written
step-segments words t c buffer = let gs = (step words t c).segments in rw (step_count words t c, segments_in_lem gs (drop (4 * length gs) buffer))

-- The record read from the buffers is the rules' record.
pub carried-record : (p : Planner) (words : List ℕ) (ms : List Made) → length p.lists ≡ list_words → is_sound_in p words ≡ true
    → record_in (carried p words ms) ≡ record_of (length words) (table_of p words) (calls_of ms)
unfolding carried record_in record_of calls_of
carried-record p words [] wide ok = refl
carried-record p words (m ∷ ms) wide ok =
    let rest : record_in (carried (left_by p words m).planner (left_by p words m).words ms) ≡ record_of (length words) (step (length words) (table_of p words) (call_of m)).table (calls_of ms) =
    carried-record (left_by p words m).planner (left_by p words m).words ms (next_wide p words wide ok m) (next_ok p words wide ok m)
    ∙ rw (next-long p words wide ok m, next-table p words wide ok m) in
    rw (next-answer p words wide ok m, next-buffer p words wide ok m, step-segments (length words) (table_of p words) (call_of m) (buffer_of m), rest)

-- The planner and the words at the end hold a sound table, and the words past it are as they were.
last_agrees : (p : Planner) (words : List ℕ) (ms : List Made) → length p.lists ≡ list_words → is_sound_in p words ≡ true → Agrees (last_planner p words ms) (last_words p words ms)
unfolding last_planner last_words
last_agrees p words [] wide ok = agrees p words wide ok
last_agrees p words (m ∷ ms) wide ok = last_agrees (left_by p words m).planner (left_by p words m).words ms (next_wide p words wide ok m) (next_ok p words wide ok m)

last_past : (p : Planner) (words : List ℕ) (ms : List Made) → length p.lists ≡ list_words → is_sound_in p words ≡ true → drop share_words (last_words p words ms) ≡ drop share_words words
unfolding last_words
last_past p words [] wide ok = refl
last_past p words (m ∷ ms) wide ok = last_past (left_by p words m).planner (left_by p words m).words ms (next_wide p words wide ok m) (next_ok p words wide ok m) ∙ next_past p words wide ok m

-- How time was cut into advances changes nothing in what runs: the same calls at the same ticks, and the same last clock, leave the same planner
-- and the same words.
pub carried-cut : (p : Planner) (words : List ℕ) (ms ns : List Made) → length p.lists ≡ list_words → is_sound_in p words ≡ true
    → stamped_in p words ms ≡ stamped_in p words ns
    → (last_planner p words ms).state.clock ≡ (last_planner p words ns).state.clock
    → (last_planner p words ms ≡ last_planner p words ns) × (last_words p words ms ≡ last_words p words ns)
carried-cut p words ms ns wide ok stamps last =
    let one = carried-table p words ms wide ok in
    let two = carried-table p words ns wide ok in
    let clock : (after (length words) (table_of p words) (calls_of ms)).clock ≡ (after (length words) (table_of p words) (calls_of ns)).clock =
    sym (carried-clock p words ms wide ok) ∙ last ∙ carried-clock p words ns wide ok in
    let same : table_of (last_planner p words ms) (last_words p words ms) ≡ table_of (last_planner p words ns) (last_words p words ns) =
    one ∙ (same_run (length words) 0 0 (table_of p words) (calls_of ms) (calls_of ns) (sound_of p words ok) (sym (carried_stamps p words ms wide ok) ∙ stamps ∙ carried_stamps p words ns wide ok) clock).1 ∙ sym two in
    let a = last_agrees p words ms wide ok in
    let b = last_agrees p words ns wide ok in (
      same-planner a.holds ∙ ap planner_of same ∙ sym (same-planner b.holds),
      same-words a.holds words (last_past p words ms wide ok) ∙ rw same (sym (same-words b.holds words (last_past p words ns wide ok))),
    )
