-- `replan` does the three steps of a release, and each leaves the slices that the next one finds.
-- What is held can be told, so the promise of one step is what the next asks.
use mathlib.Core.Path.{◌∙◌}
use borrow.Author.Rules.{rules}
use Rattle.plan.proofs.Replanned.{boundary_plan, boundary_room, give_plan, replanned}
use Rattle.plan.proofs.replan.replan.Goals as goal

pub with_boundary-count-requires : goal.with_boundary-count-requires
with_boundary-count-requires c =
    let low = c.lower_first.ensures.planned in
    record {
      plan_from = boundary_plan c.requires low (search rules);
      start_lt_d = c.requires.ahead;
      room = boundary_room c.requires low;
    }

pub give-requires : goal.give-requires
give-requires c =
    record {
      plan_from = give_plan c.requires c.lower_first.ensures.planned c.with_boundary-count.ensures.planned (search rules);
      slot_lt_slot_count = c.requires.inside;
      rate_bound = c.requires.slow;
    }

pub returns : goal.returns
returns c =
    let low = c.lower_first.ensures in
    let with = c.with_boundary-count.ensures in
    let done = c.give.ensures in
    record {
      planned = replanned c.requires low.planned with.planned done.planned;
      shares_unchanged = done.shares_unchanged ∙ with.shares_unchanged ∙ low.shares_unchanged;
    }
