-- `give` raises the new job's slot in each row: after k turns the first k rows are those of `given`, and no other has changed.
-- What a turn adds fits, since a share is small and a gift is.
use mathlib.Core.Path.{◌≡◌}
use mathlib.Core.List.{List}
use Prim.Native.Nat.{ℕ, ◌≤◌}
use lib.ListN.{length, drop}
use Rattle.rules.specs.Station.{row_count, share_words}
use Rattle.rules.specs.Release.{given}
use Rattle.rules.specs.Words.{rows_of, rows_in}
use Rattle.rows.proofs.Moves.{Mixed}
use Rattle.plan.specs.declared.NewJob.{NewJob}
use Rattle.plan.specs.Planned.{slices_in, begin_of}
use Rattle.plan.proofs.give.give.Given as goal

pub record Giving (job : NewJob) (start : ℕ) (ends : List ℕ) (count : ℕ) (old : List ℕ) (k lo : ℕ) (shares : List ℕ) : Type 0 where
  pub within : k ≤ count
  pub from : lo ≡ begin_of start k ends
  pub long : length shares ≡ length old
  pub past : drop share_words shares ≡ drop share_words old
  pub rows : Mixed (rows_in row_count (given job.slot job.rate job.deadline start (slices_in ends count old))) (rows_of row_count old) k (rows_of row_count shares)

abbrev pub invariant-loop-k : goal.invariant-loop-k
invariant-loop-k l = Giving l.job l.start l.ends l.count l.initial.shares l.k l.lo l.shares
