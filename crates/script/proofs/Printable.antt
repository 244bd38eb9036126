-- Every answer of the planner can be printed: a refusal has value 0, and at most 79 segments are counted.
-- A table has few segments since its planner and words hold a first slice that the wrap lays over the cores (`wrap-most`).
use mathlib.Core.Path.{◌≡◌, refl, ap, sym, ◌∙◌}
use mathlib.Core.List.{List, [], ◌∷◌, ◌++◌}
use Prim.Native.Nat.{ℕ, zero, suc, ◌-◌, ◌≤◌, ◌<◌}
use native.Mathlib.Omega.{arith}
use lib.ListN.{length, take, get_or}
use Rattle.std.proofs.lemmas.List.{length-take}
use Rattle.rules.specs.Station.{Slice, Table, grains, most_cores}
use Rattle.rules.specs.Sound.{Sound}
use Rattle.rules.specs.Wrap.{Window, wrap_of, clipped, window, segments_to}
use Rattle.rules.specs.Advance.{reached}
use Rattle.rules.specs.Calls.{Call, declare, withdraw, release, advance, refusal, refused, open_refusals, done, accepted, step}
use Rattle.rules.specs.Words.{words_of}
use Rattle.rules.specs.Held.{Planner, table_of, planner_of, state_of, is_sound_in, ends_of, list_words}
use Rattle.rules.proofs.Held.{planner-length}
use Rattle.rules.proofs.Floor.{by_bool, by_lt}
use Rattle.rules.proofs.Count.{wrap-most}
use Rattle.rules.proofs.Steps.{decided_cases}
use Rattle.wrap.specs.Shown.{shown}
use Rattle.wrap.specs.Asked.{most_segments}
use Rattle.calls.specs.Called.{Agrees, unchanged, held_as, called, opened_by, opening}
use Rattle.calls.proofs.Joint.{agrees}
use Rattle.calls.proofs.First.{front, segments-shown}
use Rattle.calls.proofs.Round.{same-table, still-sound}
use Rattle.calls.proofs.Promises.{sound_of}
use Rattle.script.specs.Drilled.{Printable}

no_segments : (w : Window) (start : ℕ) (ss : List Slice) → length ss ≤ 0 → length (clipped w (wrap_of start ss)) ≤ most_segments
unfolding wrap_of clipped
no_segments w start [] none = omega arith
no_segments w start (s ∷ ss) none = absurd (omega arith)

module _ (t : Table) (sound : Sound t) where
  abbrev held : Planner
  held = planner_of t

  abbrev words : List ℕ
  words = words_of t ++ []

  wide : length held.lists ≡ list_words
  wide = planner-length t sound.slots

  there : Agrees held words
  there = agrees held words wide (still-sound t sound [])

  back : table_of held words ≡ t
  back = same-table t sound []

  some-held : (to : ℕ) → 0 < held.state.count → length (segments_to t to) ≤ most_segments
  unfolding shown
  some-held to some =
      let k = front there some in
      let is : segments_to t to ≡ shown (grains held.state.start) (grains (held.state.clock - held.state.start)) (grains (to - held.state.start)) (grains (get_or (ends_of held.lists) 0 0 - held.state.start)) (take 64 words) =
      ap (λ u. segments_to u to) (sym back) ∙ segments-shown there some to in
      rw is (omega (arith, wrap-most (record { base = grains held.state.start; from = grains (held.state.clock - held.state.start); to = grains (to - held.state.start) }) k.laid.some most_cores (take 64 words) (omega arith) k.fits, length-take 64 words))

  none_held : (to : ℕ) → held.state.count ≤ 0 → length (segments_to t to) ≤ most_segments
  unfolding planner_of state_of segments_to
  none_held to none = no_segments (window t.start t.clock to) t.start t.slices none

  -- "At most 79 exist."
  pub few-segments : (to : ℕ) → length (segments_to t to) ≤ most_segments
  few-segments to = by_lt 0 held.state.count (some-held to) (none_held to)

pub refusal_printable : (n : ℕ) → Printable (refusal n)
unfolding refusal
refusal_printable n = record { plain = λ h. refl; few = omega arith }

done_printable : (value : ℕ) (t : Table) → Printable (done value t).answer
unfolding done
done_printable value t = record { plain = λ h. absurd (omega arith); few = omega arith }

accepted_printable : (t : Table) → Sound t → (call : Call) → Printable (accepted t call).answer
unfolding accepted
accepted_printable t sound (declare period cost) = done_printable _ _
accepted_printable t sound (withdraw slot) = done_printable _ _
accepted_printable t sound (release slot) = done_printable _ _
accepted_printable t sound (advance tick room) = record { plain = λ h. absurd (omega arith); few = few-segments t sound (reached tick t.slices) }

-- every answer of a call
pub called_printable : (p : Planner) (words buffer : List ℕ) (call : Call) → Printable (called p words buffer call).answer
unfolding called unchanged held_as step
called_printable p words buffer call =
    by_bool (is_sound_in p words)
    (λ ok. rw ok (decided_cases (λ o. Printable o.answer) _ (table_of p words) _ (λ e. accepted_printable (table_of p words) (sound_of p words ok) call) (λ h. refusal_printable _)))
    (λ bad. rw bad (refusal_printable 1))

opened_printable : (n : ℕ) (p : Planner) (words : List ℕ) (cores : ℕ) → Printable (opened_by n p words cores).answer
unfolding opened_by held_as unchanged
opened_printable zero p _ cores = done_printable cores _
opened_printable (suc n) p _ cores = refusal_printable (suc n)

-- and of an open
pub opening_printable : (p : Planner) (words : List ℕ) (cores : ℕ) → Printable (opening p words cores).answer
unfolding opening
opening_printable p words cores = opened_printable (refused (open_refusals (length words) cores)) p words cores
