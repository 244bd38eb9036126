-- `make_room` moves rows down, the last first: when j is the last row that has not moved, the rows are those of `moved_down j`.
-- So the loop's turns are the steps of that definition, from n down to k.
use mathlib.Core.Path.{◌≡◌}
use Prim.Native.Nat.{◌≤◌}
use lib.ListN.{length}
use Rattle.rules.specs.Words.{rows_of, Rowed, moved_down}
use Rattle.table.proofs.shift.make_room.Given as goal

abbrev pub invariant-loop-j : goal.invariant-loop-j
invariant-loop-j l = (l.k ≤ l.j) × (l.j ≤ l.n) × (length l.shares ≡ length l.initial.shares) × Rowed l.initial.shares (moved_down l.j l.n (rows_of 64 l.initial.shares)) l.shares
