-- Slice 0 as it is held: its end is the first boundary, its shares are the first 64 words, and both are what the wrap asks for.
-- By what holds the slices (`Planned`), and by the clauses of a sound table at its first slice.
use mathlib.Core.Path.{◌≡◌, refl, ap}
use mathlib.Core.List.{List, [], ◌∷◌}
use Prim.Native.Nat.{ℕ, ◌+◌, ◌-◌, ◌*◌, ◌≤◌, ◌<◌}
use native.Mathlib.Nat.{mul-le-mul_left}
use native.Mathlib.Omega.{arith}
use lib.ListN.{take, drop, get_or}
use Rattle.rules.specs.Station.{Slice, Table, grains, most_cores, longest_period, sum}
use Rattle.rules.specs.Wrap.{segments_to, window, wrap_of}
use Rattle.rules.specs.Words.{rows_of, rows_in}
use Rattle.rules.specs.Sound.{Sound, owed}
use Rattle.rules.specs.Held.{Planner, table_of, table_at, ends_in, ends_of}
use Rattle.rules.proofs.Tasks.{rates-owed, owed_down}
use Rattle.rules.proofs.Kept.{first-ahead}
use Rattle.plan.specs.Planned.{Planned, slices_in}
use Rattle.plan.proofs.Ready.{ready}
use Rattle.wrap.specs.Asked.{Laid}
use Rattle.wrap.specs.Front.{Front}
use Rattle.wrap.specs.Shown.{shown}
use Rattle.calls.specs.Called.{Agrees}
use Rattle.calls.proofs.Joint.{planned-held}

-- the first slice, from the first boundary and the first row
abbrev pub front_of : List ℕ → List ℕ → Slice
front_of ends w = record { end = get_or ends 0 0; shares = take 64 w }

slices_front : {ss : List Slice} {ends : List ℕ} {count : ℕ} {w : List ℕ} → Planned ss ends count w → 0 < count → ss ≡ front_of ends w ∷ drop 1 ss
unfolding ends_in rows_in rows_of
slices_front {ss = []} p some = absurd (omega (arith, p.number))
slices_front {ss = s ∷ ss} {ends} {count} {w} p some =
    let end : get_or ends 0 0 ≡ s.end = rw p.bounds in
    let row : take 64 w ≡ s.shares = ap (λ rs. get_or rs 0 []) p.rows in
    rw (end, row)

pub no_slices : {ss : List Slice} {ends : List ℕ} {count : ℕ} {w : List ℕ} → Planned ss ends count w → count ≡ 0 → ss ≡ []
no_slices {ss = []} p z = refl
no_slices {ss = s ∷ ss} p z = absurd (omega (arith, p.number))

slice_fits : (t : Table) (s : Slice) → Sound t → sum s.shares ≤ (s.end - t.start) * owed s.end t.tasks → sum s.shares ≤ most_cores * grains (s.end - t.start)
slice_fits t s sound fits =
    let load = sound.load in
    let cores = sound.cores.1 in
    let most : owed s.end t.tasks ≤ 16000 = omega (arith, rates-owed t.tasks, owed_down {d = 0} {e = s.end} t.tasks (omega arith)) in
    omega (arith, mul-le-mul_left (s.end - t.start) most)

module _ {p : Planner} {w : List ℕ} (a : Agrees p w) (some : 0 < p.state.count) where
  abbrev end : ℕ
  end = get_or (ends_of p.lists) 0 0

  pub first_slice : (table_of p w).slices ≡ front_of (ends_of p.lists) w ∷ drop 1 (table_of p w).slices
  unfolding table_of table_at slices_in
  first_slice = slices_front (planned-held a) some

  pub front : Front p.state.start p.state.clock end w
  unfolding table_of table_at slices_in
  front =
      let t = table_of p w in
      let sound = a.sound in
      let e = first_slice in
      let r = ready t sound in
      let ahead = rw e at (first-ahead t sound) in
      let soon = rw e at r.soon in
      let small = rw e at r.small in
      let fits = rw e at sound.fits in
      let from : p.state.start ≤ p.state.clock = sound.start in
      let after : p.state.clock < end = ahead.0 in
      let by : end ≤ p.state.start + longest_period = soon.0 in
      let laid : Laid (grains (end - p.state.start)) (take 64 w) = record { some = omega arith; most = omega arith; small = small.0 } in
      record {
        long = a.long;
        begun = from;
        range = sound.clock;
        ahead = after;
        soon = by;
        laid = laid;
        fits = slice_fits t (front_of (ends_of p.lists) w) sound fits.0;
      }

  -- the segments that an advance hands back are those that the window shows
  pub segments-shown : (to : ℕ) → segments_to (table_of p w) to
      ≡ shown (grains p.state.start) (grains (p.state.clock - p.state.start)) (grains (to - p.state.start)) (grains (end - p.state.start)) (take 64 w)
  unfolding segments_to window wrap_of shown table_of table_at
  segments-shown to = rw first_slice
