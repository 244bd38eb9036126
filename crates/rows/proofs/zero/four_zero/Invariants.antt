-- `four_zero` joins all words: what is joined so far and the sums of what is left are zero together with the whole sums.
-- At the end nothing is left, so the word that is joined tells.
use Rattle.std.proofs.Common.{◌≡◌, ℕ, ◌+◌, ◌≤◌, List, length, drop}
use Rattle.rules.specs.Station.{sum}
use Rattle.rows.proofs.zero.four_zero.Given as goal

-- the sums of what is left, from place i on
unfoldable pub from : ℕ → List ℕ → List ℕ → List ℕ → List ℕ → ℕ
from i a b c d = sum (drop i a) + sum (drop i b) + (sum (drop i c) + sum (drop i d))

abbrev pub invariant-loop-i : goal.invariant-loop-i
invariant-loop-i l = (l.i-end ≡ length l.a) × (l.i ≤ length l.a) × (l.seen + from l.i l.a l.b l.c l.d ≡ 0 → from 0 l.a l.b l.c l.d ≡ 0) × (from 0 l.a l.b l.c l.d ≡ 0 → l.seen + from l.i l.a l.b l.c l.d ≡ 0)
