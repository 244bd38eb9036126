-- What a look at slice 0 finds can be told in grains: no segment ends after the slice.
-- The answer is the first segment that holds the core, so a bound of all segments' ends is a bound of it.
use mathlib.Core.Path.{◌≡◌}
use mathlib.Core.List.{List, [], ◌∷◌}
use Prim.Native.Nat.{ℕ, suc, ◌+◌, ◌-◌, ◌≤◌, ◌<◌}
use native.Mathlib.Omega.{arith}
use lib.ListN.{take, get_or}
use Rattle.rules.specs.Station.{grains, slot_count}
use Rattle.rules.specs.Wrap.{Segment, wrap, on_core, on_next, holds}
use Rattle.rules.specs.Advance.{Holding, held, idle_until, idle, held_in}
use Rattle.rules.proofs.Floor.{by_bool, parts}
use Rattle.wrap.specs.Front.{Front}

-- a segment that holds a core ends by a grain
abbrev Ends : ℕ → Holding → Type 0
Ends by (held slot until) = until ≤ by
Ends by (idle_until grain) = Unit {0}
Ends by idle = Unit {0}

-- a slot's segments end by the slice's end
core_by : (T slot e s : ℕ) → (on_core T slot e s).after ≤ T
unfolding on_core
core_by T slot e s = omega arith

next_by : (T : ℕ) → 0 < T → (slot e s : ℕ) → s ≤ T → (on_next T slot e s).after ≤ T
unfolding on_next
next_by T some slot e s h = omega (arith, parts e some)

module _ (base core grain : ℕ) (none : Holding) (T : ℕ) (some : 0 < T) (idles : Ends (base + T) none) where
  ends_one : (g : Segment) (gs : List Segment) → g.after ≤ T → Ends (base + T) (held_in base core grain none gs) → Ends (base + T) (held_in base core grain none (g ∷ gs))
  unfolding held_in
  ends_one g gs h rest = by_bool (holds core grain g) (λ e. rw e (omega arith)) (λ e. rw e rest)

  ends_by : (slot e : ℕ) (row : List ℕ) → ((i : ℕ) → get_or row i 0 ≤ T) → Ends (base + T) (held_in base core grain none (wrap T slot e row))
  unfolding wrap held_in
  ends_by slot e [] small = idles
  ends_by slot e (s ∷ ss) small =
      let rest = wrap T (suc slot) (e + s) ss in
      ends_one (on_core T slot e s) (on_next T slot e s ∷ rest) (core_by T slot e s) (ends_one (on_next T slot e s) rest (next_by T some slot e s (small 0)) (ends_by (suc slot) (e + s) ss (λ i. small (suc i))))

-- a look at slice 0 that finds a slot, with a segment's end
module _ {start clock end : ℕ} {w : List ℕ} (f : Front start clock end w) (core slot after : ℕ)
    (is : (base : ℕ) (none : Holding) → held slot (base + after) ≡ held_in base core (grains (clock - start)) none (wrap (grains (end - start)) 0 0 (take slot_count w))) where
  pub found_by : after ≤ grains (end - start)
  found_by =
      let T = grains (end - start) in
      let laid = f.laid in
      let all = ends_by 0 core (grains (clock - start)) idle T laid.some tt 0 0 (take slot_count w) laid.small in
      let here : 0 + after ≤ 0 + T = rw (← (is 0 idle)) at all in
      omega arith
