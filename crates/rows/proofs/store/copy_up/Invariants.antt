-- `copy_up` leaves the second row twice: after i turns the first i words are the second row's, and no word from i on has changed,
-- so the word that a turn reads, 64 places ahead, is still the one that came in.
use Rattle.std.proofs.Common.{◌≡◌, ◌≤◌, length, drop}
use Rattle.rows.proofs.Moves.{Mixed}
use Rattle.rows.proofs.store.copy_up.Given as goal

abbrev pub invariant-loop-i : goal.invariant-loop-i
invariant-loop-i l = (l.i ≤ 64) × (length l.two ≡ 128) × Mixed (drop 64 l.initial.two) l.initial.two l.i l.two
