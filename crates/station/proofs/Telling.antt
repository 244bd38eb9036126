-- A refused holder reads as its number, 0 and 0. The words that holder writes tell its three cases apart: a slot that holds a core is
-- below 64, and slice 0 ends after grain 0.
use mathlib.Core.List.{List, [], ◌∷◌}
use mathlib.Core.Path.{◌≡◌, refl, ap}
use Prim.Native.Nat.{ℕ, zero, suc, ◌+◌, ◌-◌, ◌≤◌, ◌<◌}
use native.Mathlib.Omega.{arith}
use lib.ListN.{length}
use Rattle.rules.proofs.Floor.{by_bool}
use Rattle.rules.proofs.Numbers.{number_some}
use Rattle.rules.specs.declared.Refusal.{Refusal}
use Rattle.rules.specs.Numbers.{number_of}
use Rattle.rules.specs.Calls.{refusal}
use Rattle.rules.specs.Advance.{Holding, held, idle_until, idle, held_in, idle_in, holder_of}
use Rattle.rules.specs.Sound.{Each, Columns, Rises, Sound}
use Rattle.rules.specs.Station.{Slice, Table, grains, slot_count}
use Rattle.rules.specs.Wrap.{Segment, holds, on_core, on_next, wrap, wrap_of}
use Rattle.station.specs.Station.{holding_words, told_words}

-- a number that is not 0 is read as a refusal
of_some : (n : ℕ) → 0 < n → (h : Holding) → told_words n h ≡ refusal n
unfolding told_words
of_some zero some h = absurd (omega arith)
of_some (suc n) some h = refl

-- A refusal is read as one.
pub told_refused : (r : Refusal) (h : Holding) → told_words (number_of r) h ≡ refusal (number_of r)
told_refused r h = of_some (number_of r) (number_some r) h

abbrev Tells : Holding → Type 0
Tells (held slot until) = slot < slot_count
Tells (idle_until grain) = 0 < grain
Tells idle = Unit {0}

module _ (base core grain : ℕ) (none : Holding) (quiet : Tells none) where
  tells_one : (g : Segment) (gs : List Segment) → g.slot < slot_count → Tells (held_in base core grain none gs) → Tells (held_in base core grain none (g ∷ gs))
  unfolding held_in
  tells_one g gs inside rest = by_bool (holds core grain g) (λ e. rw e inside) (λ e. rw e rest)

  tells_wrap : (T slot e : ℕ) (row : List ℕ) → slot + length row ≤ slot_count → Tells (held_in base core grain none (wrap T slot e row))
  unfolding wrap held_in on_core on_next
  tells_wrap T slot e [] few = quiet
  tells_wrap T slot e (s ∷ ss) few =
      let rest = wrap T (suc slot) (e + s) ss in
      tells_one (on_core T slot e s) (on_next T slot e s ∷ rest) (omega arith) (tells_one (on_next T slot e s) rest (omega arith) (tells_wrap T (suc slot) (e + s) ss (omega arith)))

tells_slices : (start clock core : ℕ) (ss : List Slice) → Each Columns start ss → Each Rises start ss
    → Tells (held_in (grains start) core (grains (clock - start)) (idle_in ss) (wrap_of start ss))
unfolding held_in idle_in wrap_of
tells_slices start clock core [] wide rising = tt
tells_slices start clock core (s ∷ ss) wide rising =
    let some : 0 < grains s.end = omega (arith, rising.0) in
    tells_wrap (grains start) core (grains (clock - start)) (idle_until (grains s.end)) some (grains (s.end - start)) 0 0 s.shares (omega (arith, wide.0))

tells_sound : (t : Table) (core : ℕ) → Sound t → Tells (holder_of t core)
unfolding holder_of
tells_sound t core sound = tells_slices t.start t.clock core t.slices sound.columns sound.boundaries.rising

apart : (h k : Holding) → Tells h → Tells k → holding_words h ≡ holding_words k → h ≡ k
unfolding holding_words
apart (held s u) (held s' u') a b e = let x = ap (λ r. r.value) e in let y = ap (λ r. r.count) e in cc
apart (held s u) (idle_until g) a b e = let x = ap (λ r. r.value) e in absurd (omega arith)
apart (held s u) idle a b e = let x = ap (λ r. r.value) e in absurd (omega arith)
apart (idle_until g) (held s u) a b e = let x = ap (λ r. r.value) e in absurd (omega arith)
apart (idle_until g) (idle_until g') a b e = let y = ap (λ r. r.count) e in cc
apart (idle_until g) idle a b e = let y = ap (λ r. r.count) e in absurd (omega arith)
apart idle (held s u) a b e = let x = ap (λ r. r.value) e in absurd (omega arith)
apart idle (idle_until g) a b e = let y = ap (λ r. r.count) e in absurd (omega arith)
apart idle idle a b e = refl

-- Two sound tables whose holders read alike have the same holder.
pub told_apart : (t u : Table) (core other : ℕ) → Sound t → Sound u → holding_words (holder_of t core) ≡ holding_words (holder_of u other) → holder_of t core ≡ holder_of u other
told_apart t u core other one two e = apart (holder_of t core) (holder_of u other) (tells_sound t core one) (tells_sound u other two) e
