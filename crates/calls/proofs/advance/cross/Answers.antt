-- `cross` drops the first boundary with its row and ends the jobs due at it: what is held then is the table at the boundary.
use mathlib.Core.Path.{◌≡◌}
use Rattle.std.proofs.Common.{rules, length}
use Rattle.rules.specs.Held.{ends_of}
use Rattle.calls.proofs.Joint.{planned-held, first-end}
use Rattle.calls.proofs.Onward.{crossed_there}
use Rattle.calls.proofs.advance.cross.Goals as goal

pub drop_boundary-requires : goal.drop_boundary-requires
unfolding ends_of
drop_boundary-requires c =
    let a = c.requires.agrees in
    let ends : c.unwrap-ends.result.now ≡ ends_of c.args.lists.now = search rules in
    record {
      share_words_in_bounds = a.long;
      planned = rw ends (planned-held a);
      count_nonzero = c.requires.count_nonzero;
    }

pub returns : goal.returns
unfolding ends_of
returns c =
    let a = c.requires.agrees in
    let ls = c.args.lists.now in
    let dropped = c.drop_boundary in
    let jobs = c.end_jobs in
    let ends : c.unwrap-ends.result.now ≡ ends_of ls = search rules in
    let left = rw ends at dropped.ensures.left in
    let long : length jobs.new.lists ≡ 320 = search rules in
    let both = crossed_there a left long (rw (first-end ls) at jobs.ensures) dropped.ensures.shares_unchanged in
    record { lists_after = rw (first-end ls) both.0; shares_after = both.1 }
