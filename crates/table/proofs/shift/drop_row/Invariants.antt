-- `drop_row` moves rows up, the first first: after k turns the first k rows are the rows from row 1 on, and no other has changed.
-- The last row in use is then written over with zeros.
use mathlib.Core.Path.{◌≡◌}
use Prim.Native.Nat.{◌≤◌}
use lib.ListN.{length, drop}
use Rattle.rules.specs.Words.{rows_of}
use Rattle.rows.proofs.Moves.{Mixed}
use Rattle.table.proofs.shift.drop_row.Given as goal

abbrev pub invariant-loop-k : goal.invariant-loop-k
invariant-loop-k l =
    (l.k ≤ l.last) × (length l.shares ≡ length l.initial.shares) × (drop 4096 l.shares ≡ drop 4096 l.initial.shares) × Mixed (drop 1 (rows_of 64 l.initial.shares)) (rows_of 64 l.initial.shares) l.k (rows_of 64 l.shares)
