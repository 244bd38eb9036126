-- `lower` lays the row again along the line of what has not run: the grains run before a place are known from the place.
-- By the rules' law a row less what has run is the row along that line.
use mathlib.Core.Path.{◌≡◌}
use mathlib.Core.List.{List}
use Prim.Native.Nat.{ℕ, ◌<◌, ◌≤◌}
use lib.ListN.{length, get_or}
use Rattle.rules.specs.Slices.{relaid}
use Rattle.rules.proofs.Front.{back}
use Rattle.line.specs.declared.place.Place.{Place}
use Rattle.line.specs.Line.{on_line, run_before}
use Rattle.line.proofs.Laying.{Laying}
use Rattle.line.proofs.lower.lower.Given as goal

pub record Lowering (T x : ℕ) (whole : List ℕ) (place : Place) (was i : ℕ) (row : List ℕ) : Type 0 where
  pub within : i ≤ 64
  pub long : length row ≡ 64
  pub small : (j : ℕ) → get_or row j 0 ≤ T
  pub inside : place.at < T
  pub far : place.core ≤ i
  pub was_is : was ≡ run_before x place
  pub laid : Laying (back T x) (relaid (back T x) 0 whole) i (on_line T place) row

abbrev pub invariant-loop-share : goal.invariant-loop-share
invariant-loop-share l = Lowering l.slice l.run l.initial.row l.place l.was l.share-index l.row
