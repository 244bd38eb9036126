-- What an accepted open leaves, whatever planner was there and whatever words are lent: a planner and words that hold a table freshly opened. Hence
-- the record, the last clock and the stamps of the calls that follow are the rules' from `opened`.
use mathlib.Core.Path.{◌≡◌, ap, ◌∙◌}
use mathlib.Core.Bool.{true}
use mathlib.Core.List.{List, []}
use Prim.Native.Nat.{ℕ, ◌≤◌}
use native.Mathlib.Omega.{arith}
use lib.ListN.{length, drop, length-append, length-drop}
use borrow.Author.Tests.{le-ltb}
use Rattle.rules.specs.Station.{share_words}
use Rattle.rules.specs.Calls.{refused, open_refusals, opened, done}
use Rattle.rules.specs.History.{after, record_of, stamped}
use Rattle.rules.proofs.Kept.{opened-sound}
use Rattle.rules.specs.Held.{Planner, table_of, is_sound_in, list_words}
use Rattle.rules.proofs.Held.{planner-length}
use Rattle.calls.specs.Called.{Left, held_as, opened_by, opening}
use Rattle.calls.proofs.Round.{same-table, still-sound, words-length}
use Rattle.history.specs.Carried.{Made, calls_of, carried, last_planner, record_in, stamped_in}
use Rattle.history.proofs.Carried.{carried-record, carried-clock, carried_stamps}

module _ (q : Planner) (words : List ℕ) (long : share_words ≤ length words) (cores : ℕ) (some : 1 ≤ cores) (few : cores ≤ 16) where
  abbrev o : Left
  o = opening q words cores

  opening-is : o ≡ held_as words [] (done cores (opened cores))
  unfolding opening opened_by open_refusals refused
  opening-is = rw (le-ltb (length words) share_words long, le-ltb cores 1 some, le-ltb 16 cores few)

  pub open_answer : o.answer ≡ record { number = 0; value = cores; count = 0 }
  unfolding held_as done
  open_answer = ap (λ l. l.answer) opening-is

  pub open_table : table_of o.planner o.words ≡ opened cores
  unfolding held_as done
  open_table = rw opening-is (same-table (opened cores) (opened-sound cores some few) (drop share_words words))

  pub open_ok : is_sound_in o.planner o.words ≡ true
  unfolding held_as done
  open_ok = rw opening-is (still-sound (opened cores) (opened-sound cores some few) (drop share_words words))

  pub open_wide : length o.planner.lists ≡ list_words
  unfolding held_as done
  open_wide = rw opening-is (planner-length (opened cores) (opened-sound cores some few).slots)

  pub open_length : length o.words ≡ length words
  unfolding held_as done
  open_length = rw opening-is (simp (length-append, length-drop) (omega (arith, long, words-length (opened cores) (opened-sound cores some few) (drop share_words words))))

  abbrev p : Planner
  p = o.planner

  abbrev w : List ℕ
  w = o.words

  pub open_record : (ms : List Made) → record_in (carried p w ms) ≡ record_of (length words) (opened cores) (calls_of ms)
  open_record ms = carried-record p w ms open_wide open_ok ∙ rw (open_length, open_table)

  pub open_clock : (ms : List Made) → (last_planner p w ms).state.clock ≡ (after (length words) (opened cores) (calls_of ms)).clock
  open_clock ms = carried-clock p w ms open_wide open_ok ∙ rw (open_length, open_table)

  pub open_stamps : (ms : List Made) → stamped_in p w ms ≡ stamped (length words) (opened cores) (calls_of ms)
  open_stamps ms = carried_stamps p w ms open_wide open_ok ∙ rw (open_length, open_table)
