-- P1 to P10 and the listing come out right through the planner's own contracts, whatever planner was there and whatever words are lent. What the
-- contracts hand back is what the rules' outcomes print (`carried_answers`, `carried-segments`), and those are right (`all_right_lem`).
use mathlib.Core.Path.{◌≡◌, refl, ap, ◌∙◌}
use mathlib.Core.Bool.{Bool, true, ◌&&◌, and-eq-true_iff}
use mathlib.Core.List.{List, [], ◌∷◌}
use Prim.Native.Nat.{ℕ, ◌≤◌}
use lib.Dec.{leb}
use lib.ListN.{length, length-replicate}
use borrow.Author.Tests.{le-ltb, leb-true, eq-eqb}
use Rattle.rules.specs.Station.{Table, share_words}
use Rattle.rules.specs.Calls.{Call, declare, withdraw, release, advance, unsound, refusals, opened, step}
use Rattle.rules.specs.History.{outcomes}
use Rattle.rules.specs.Checked.{Line, OK, Example, on, cut, rate, segment_lines, lines, numbers, same, right, all_right, examples}
use Rattle.rules.proofs.Checked.{rules, all_right_lem}
use Rattle.rules.specs.Held.{Planner, table_of, is_sound_in, list_words}
use Rattle.calls.specs.Called.{Left, opening}
use Rattle.history.specs.Carried.{Made, call_of, buffer_of, calls_of, carried, answers_of, buffers_of, answers_in, buffers_in, segments_in}
use Rattle.history.specs.Examples.{made_of, mades, handed_back, handed, ran_right, all_ran}
use Rattle.history.proofs.Carried.{carried_answers, carried-segments, step-segments}
use Rattle.history.proofs.Opened.{open_answer, open_table, open_ok, open_wide, open_length}

-- a call that was made is the call
made_call : (c : Call) → call_of (made_of c) ≡ c
unfolding made_of call_of
made_call (declare period cost) = refl
made_call (withdraw slot) = refl
made_call (release slot) = refl
made_call (advance tick room) = ap (advance tick) (length-replicate room 0)

made_calls : (cs : List Call) → calls_of (mades cs) ≡ cs
unfolding mades calls_of
made_calls [] = refl
made_calls (c ∷ cs) = rw (made_call c, made_calls cs)

-- what is handed back prints as the outcomes do
lines_back : (words : ℕ) (t : Table) (ms : List Made) → handed_back (answers_in (outcomes words t (calls_of ms))) (buffers_in ms (outcomes words t (calls_of ms))) ≡ lines (outcomes words t (calls_of ms))
unfolding handed_back answers_in buffers_in outcomes calls_of lines
lines_back words t [] = refl
lines_back words t (m ∷ ms) =
    let o = step words t (call_of m) in
    rw (step-segments words t (call_of m) (buffer_of m), lines_back words o.table ms)

-- more words than the table has change no outcome
module _ (words : ℕ) (long : share_words ≤ words) where
  same-unsound : (t : Table) → unsound words t ≡ unsound share_words t
  unfolding unsound
  same-unsound t = rw (le-ltb words share_words long)

  same-refusals : (t : Table) (c : Call) → refusals words t c ≡ refusals share_words t c
  unfolding refusals
  same-refusals t (declare period cost) = rw (same-unsound t)
  same-refusals t (withdraw slot) = rw (same-unsound t)
  same-refusals t (release slot) = rw (same-unsound t)
  same-refusals t (advance tick room) = rw (same-unsound t)

  same-outcomes : (t : Table) (cs : List Call) → outcomes words t cs ≡ outcomes share_words t cs
  unfolding outcomes step
  same-outcomes t [] = refl
  same-outcomes t (c ∷ cs) = rw (same-refusals t c, same-outcomes (step share_words t c).table cs)

-- the calls of an example, on a planner and words that hold a sound table
handed-lines : (p : Planner) (words : List ℕ) (cs : List Call) → length p.lists ≡ list_words → is_sound_in p words ≡ true
    → handed (carried p words (mades cs)) ≡ lines (outcomes (length words) (table_of p words) cs)
unfolding handed
handed-lines p words cs wide ok =
    rw (carried_answers p words (mades cs) wide ok, carried-segments p words (mades cs) wide ok, lines_back (length words) (table_of p words) (mades cs), made_calls cs)

module _ (q : Planner) (words : List ℕ) (long : share_words ≤ length words) (cores : ℕ) (some : 1 ≤ cores) (few : cores ≤ 16) where
  abbrev o : Left
  o = opening q words cores

  ran-lines : (cs : List Call) → handed (o ∷ carried o.planner o.words (mades cs)) ≡ OK cores ∷ lines (outcomes share_words (opened cores) cs)
  unfolding handed answers_of buffers_of handed_back segments_in segment_lines
  ran-lines cs =
      let rest : handed (carried o.planner o.words (mades cs)) ≡ lines (outcomes share_words (opened cores) cs) =
      handed-lines o.planner o.words cs (open_wide q words long cores some few) (open_ok q words long cores some few)
      ∙ rw (open_length q words long cores some few, open_table q words long cores some few, same-outcomes (length words) long (opened cores) cs) in
      rw (open_answer q words long cores some few) (ap (λ ls. OK cores ∷ ls) rest)

  ran-right : (cs : List Call) (expected : List Line) → right (on cores cs expected) ≡ true → ran_right q words (on cores cs expected) ≡ true
  unfolding ran_right right same numbers
  ran-right cs expected is = rw (ran-lines cs) (rw (eq-eqb cores cores refl) is)

-- the cores of an example are 1 to 16
openable : Example → Bool
openable (on cores calls expected) = leb 1 cores && leb cores 16
openable (cut d D row first second) = true
openable (rate period cost r) = true

all_openable : List Example → Bool
all_openable [] = true
all_openable (e ∷ es) = openable e && all_openable es

one_ran : (q : Planner) (words : List ℕ) → share_words ≤ length words → (e : Example) → right e ≡ true → openable e ≡ true → ran_right q words e ≡ true
unfolding ran_right openable
one_ran q words long (on cores calls expected) is may =
    let range = (and-eq-true_iff (leb 1 cores) (leb cores 16)).0 may in
    ran-right q words long cores (leb-true 1 cores range.0) (leb-true cores 16 range.1) calls expected is
one_ran q words long (cut d D row first second) is may = is
one_ran q words long (rate period cost r) is may = is

all-ran : (q : Planner) (words : List ℕ) → share_words ≤ length words → (es : List Example) → all_right es ≡ true → all_openable es ≡ true → all_ran q words es ≡ true
unfolding all_right all_ran all_openable
all-ran q words long [] is may = refl
all-ran q words long (e ∷ es) is may =
    let good = (and-eq-true_iff (right e) (all_right es)).0 is in
    let opens = (and-eq-true_iff (openable e) (all_openable es)).0 may in
    (and-eq-true_iff (ran_right q words e) (all_ran q words es)).1 (one_ran q words long e good.0 opens.0, all-ran q words long es good.1 opens.1)

-- P1 to P10 and the listing, through the planner's contracts: whatever planner was there, and whatever words are lent, if only 4,096.
pub examples-ran : (q : Planner) (words : List ℕ) → share_words ≤ length words → all_ran q words examples ≡ true
unfolding rules openable all_openable
examples-ran q words long = all-ran q words long examples all_right_lem refl
