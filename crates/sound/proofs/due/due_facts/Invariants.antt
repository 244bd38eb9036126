-- `due_facts` goes through the slots once: each number so far, with what the slots left give, is what all slots give.
-- 64 rates of 32 bits add up to less than 2 to the 38th.
use Rattle.std.proofs.Common.{◌≡◌, ℕ, ◌+◌, ◌*◌, ◌≤◌, List, length}
use Rattle.std.specs.Iterator.Adapters.{zip_first, zip_second}
use Rattle.std.specs.Slice.Iter.{iter_rest}
use Rattle.rows.specs.Row.{owed_in, hits_in}
use Rattle.sound.proofs.due.due_facts.Given as goal

pub record Counting (due rates : List ℕ) (end owed hits : ℕ) (due_left rates-left : List ℕ) : Type 0 where
  pub same_length : length due_left ≡ length rates-left
  pub owed-small : owed + 4294967295 * length due_left ≤ 274877906880
  pub hits_small : hits + length due_left ≤ 64
  pub owed-left : owed + owed_in end due_left rates-left ≡ owed_in end due rates
  pub hits_left : hits + hits_in end due_left ≡ hits_in end due

abbrev pub invariant-loop-due : goal.invariant-loop-due
invariant-loop-due l = Counting l.dues.due l.dues.rates l.end l.owed l.hits (iter_rest (zip_first l.due-iterator)) (iter_rest (zip_second l.due-iterator))
