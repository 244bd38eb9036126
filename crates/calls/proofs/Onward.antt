-- Advance: what is held at a boundary, short of it, and with none is the rules' table after the advance. Slice 0 tells the cases apart.
use mathlib.Core.Path.{◌≡◌, refl, sym, ◌∙◌}
use mathlib.Core.List.{List, [], ◌++◌}
use Prim.Native.Nat.{ℕ, ◌-◌, ◌≤◌, ◌<◌, min}
use lib.ListN.{length, drop, get_or}
use borrow.Author.Tests.{le-leb, lt-leb}
use Rattle.rules.specs.declared.State.{State}
use Rattle.rules.specs.Station.{Table, share_words}
use Rattle.rules.specs.Wrap.{segments_to, wrap_of, clipped}
use Rattle.rules.specs.Advance.{reached, ended, moved_to, at_boundary, advanced_in, advanced}
use Rattle.rules.specs.Calls.{advance, accepted}
use Rattle.rules.specs.Words.{words_of, written}
use Rattle.rules.specs.Held.{Planner, planner, planner_of, table_of, table_at, list_words, tasks_from, ends_of, tasks_of}
use Rattle.rules.proofs.Held.{ends-lent, tasks-lent}
use Rattle.slots.specs.Lists.{Tasked}
use Rattle.slots.proofs.Used.{used-ended}
use Rattle.plan.specs.Planned.{Planned, slices_in}
use Rattle.plan.proofs.Planned.{planned-long}
use Rattle.calls.specs.Called.{did, Holds, Agrees, answer_of, leaves, held_as}
use Rattle.calls.specs.Advancing.{crossed}
use Rattle.calls.proofs.Joint.{same-planner, same-words, left-held, written_none, used-held, planned-held}
use Rattle.calls.proofs.First.{first_slice, no_slices}

-- the numbers at another clock and plan start, with so many boundaries
abbrev pub moved : State → ℕ → ℕ → ℕ → State
moved s clock start count = record { cores = s.cores; clock = clock; start = start; used = s.used; count = count }

-- the table with no boundary
abbrev still : Table → ℕ → Table
still t tick = record { cores = t.cores; clock = tick; start = tick; tasks = t.tasks; slices = [] }

module _ {p : Planner} {w : List ℕ} (a : Agrees p w) where
  abbrev t : Table
  t = table_of p w

  abbrev end : ℕ
  end = get_or (ends_of p.lists) 0 0

  -- at the boundary: the first slice dropped, and jobs ended
  module _ {ends lists v : List ℕ} (got : Planned (drop 1 (slices_in (ends_of p.lists) p.state.count w)) ends (p.state.count - 1) v) (long : length lists ≡ list_words)
      (jobs : Tasked (ends ++ drop tasks_from p.lists) (ended end (tasks_of (ends ++ drop tasks_from p.lists))) lists) where
    crossed-holds : Holds (planner (moved p.state end end (p.state.count - 1)) lists) v (crossed p w)
    unfolding crossed at_boundary table_of table_at slices_in
    crossed-holds =
        let bounds = planned-long got in
        record {
          lists = long;
          cores = refl;
          clock = refl;
          start = refl;
          used = used-held a ∙ sym (used-ended end (tasks_of p.lists));
          tasks = jobs.tasks ∙ rw (tasks-lent p.lists ends bounds);
          planned = rw (jobs.ends, ends-lent p.lists ends bounds) got;
        }

    pub crossed_there : drop share_words v ≡ drop share_words w
        → (planner (moved p.state end end (p.state.count - 1)) lists ≡ planner_of (crossed p w)) × (v ≡ words_of (crossed p w) ++ drop share_words w)
    crossed_there past = (same-planner crossed-holds, same-words crossed-holds w past)

  -- short of the boundary only the clock moves
  moved_holds : (tick : ℕ) → Holds (planner (moved p.state tick p.state.start p.state.count) p.lists) w (moved_to t tick)
  unfolding moved_to table_of table_at
  moved_holds tick = let h = a.holds in record { lists = h.lists; cores = refl; clock = refl; start = refl; used = h.used; tasks = refl; planned = h.planned }

  -- what an advance leaves, from its parts
  module _ (some : 0 < p.state.count) (tick room : ℕ) (b b' : List ℕ) (n : ℕ) (shown : (n ≡ length (segments_to t (min tick end))) × (b' ≡ written (segments_to t (min tick end)) b)) where
    first-reached : reached tick t.slices ≡ min tick end
    unfolding reached
    first-reached = rw (first_slice a some)

    pub over_left : end ≤ tick → {q : Planner} {v : List ℕ} → q ≡ planner_of (crossed p w) → v ≡ words_of (crossed p w) ++ drop share_words w
        → leaves q v b' (did (min tick end) n) ≡ held_as w b (accepted t (advance tick room))
    unfolding leaves answer_of held_as accepted advanced advanced_in crossed
    over_left past {q} {v} there words =
        let now : advanced_in t tick t.slices ≡ at_boundary t end (drop 1 t.slices) = rw (first_slice a some, le-leb end tick past) in
        rw (now, first-reached, ← there, ← words, ← shown.0, ← shown.1)

    pub short-left : tick < end → leaves (planner (moved p.state tick p.state.start p.state.count) p.lists) w b' (did (min tick end) n) ≡ held_as w b (accepted t (advance tick room))
    unfolding leaves answer_of accepted advanced advanced_in
    short-left ahead =
        let now : advanced_in t tick t.slices ≡ moved_to t tick = rw (first_slice a some, lt-leb end tick ahead) in
        rw (now, first-reached, shown.0) (left-held (moved_holds tick) w b b' (segments_to t (min tick end)) (record { number = 0; value = min tick end; count = length (segments_to t (min tick end)) }) refl shown.1)

  -- with no boundary
  module _ (z : p.state.count ≡ 0) where
    pub none : t.slices ≡ []
    unfolding table_of table_at slices_in
    none = no_slices (planned-held a) z

    still-holds : (tick : ℕ) → Holds (planner (moved p.state tick tick p.state.count) p.lists) w (still t tick)
    unfolding table_of table_at
    still-holds tick = let h = a.holds in record { lists = h.lists; cores = refl; clock = refl; start = refl; used = h.used; tasks = refl; planned = rw none at h.planned }

    none_segments : (tick : ℕ) → segments_to t tick ≡ []
    unfolding segments_to wrap_of clipped
    none_segments tick = rw none

    pub rested : (tick room : ℕ) (b : List ℕ) → leaves (planner (moved p.state tick tick p.state.count) p.lists) w b (did tick 0) ≡ held_as w b (accepted t (advance tick room))
    unfolding leaves answer_of accepted advanced advanced_in reached
    rested tick room b =
        let now : advanced_in t tick t.slices ≡ still t tick = rw none in
        let here : reached tick t.slices ≡ tick = rw none in
        rw (now, here, none_segments tick) (left-held (still-holds tick) w b b [] (record { number = 0; value = tick; count = 0 }) refl (sym (written_none b)))
