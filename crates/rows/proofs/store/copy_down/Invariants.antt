-- `copy_down` leaves the first row twice: the first 64 words stay, and of the others the first i are theirs after i turns.
-- The two halves are followed apart, since every store is behind the seam.
use Rattle.std.proofs.Common.{◌≡◌, ◌≤◌, length, take, drop}
use Rattle.rows.proofs.Moves.{Mixed}
use Rattle.rows.proofs.store.copy_down.Given as goal

abbrev pub invariant-loop-i : goal.invariant-loop-i
invariant-loop-i l = (l.i ≤ 64) × (length l.two ≡ 128) × (take 64 l.two ≡ take 64 l.initial.two) × Mixed (take 64 l.initial.two) (drop 64 l.initial.two) l.i (drop 64 l.two)
