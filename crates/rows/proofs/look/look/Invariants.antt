-- `look` goes through the slots once: after i turns each number is what the first i slots give, and with the rest's all slots'.
-- The sum is kept without its multiples of 2 to the 32nd: where each share fits, 64 of them are less than that.
use Rattle.std.proofs.Common.{◌≡◌, ℕ, ◌+◌, ◌%◌, ◌≤◌, ◌&&◌, ltb, List, drop}
use Rattle.rules.specs.Station.{sum}
use Rattle.rows.specs.Row.{shares_fit, owed_in, hits_in}
use Rattle.rows.proofs.look.look.Given as goal

pub record Looking (row due rates : List ℕ) (end most over added owed hits i : ℕ) : Type 0 where
  pub within : i ≤ 64
  pub small : hits ≤ i
  pub fits-left : (ltb over 2147483648 && shares_fit end most (drop i due) (drop i row)) ≡ shares_fit end most due row
  pub sum_left : (added + sum (drop i row)) % 4294967296 ≡ sum row % 4294967296
  pub owed_small : owed + sum (drop i rates) ≤ sum rates
  pub owed-left : owed + owed_in end (drop i due) (drop i rates) ≡ owed_in end due rates
  pub hits_left : hits + hits_in end (drop i due) ≡ hits_in end due

abbrev pub invariant-loop-i : goal.invariant-loop-i
invariant-loop-i l = Looking l.row l.due l.rates l.end l.most l.over l.sum l.owed l.hits l.i
