-- `give` raises the new job's slot in each row: after k turns the first k rows are those of `given`, and no other has changed.
-- What a turn adds fits, since a share is small and a gift is.
use mathlib.Core.Path.{◌≡◌, refl, ◌∙◌}
use Prim.Native.Nat.{◌≤◌}
use native.Mathlib.Numerals.{add-one}
use native.Mathlib.Omega.{arith}
use lib.ListN.{get_or}
use lib.Seq.{get_or-take}
use borrow.Author.Rules.{rules}
use borrow.Author.Tests.{le-leb}
use Rattle.rows.proofs.Moves.{mixed_none}
use Rattle.plan.specs.Planned.{begin_of}
use Rattle.plan.proofs.Planned.{planned-few, ready_at}
use Rattle.plan.proofs.Given.{given-fits, given_more, given-all, given_stop}
use Rattle.plan.proofs.give.give.Goals as goal

pub loop-k-init : goal.loop-k-init
unfolding begin_of
loop-k-init c = record { within = search rules; from = refl; long = search rules; past = search rules; rows = mixed_none _ _ }

pub returns-then-job-end : goal.returns-then-job-end
returns-then-job-end c =
    let at = c.args in
    let end = get_or-take at.count at.ends.now c.loop-k.k 0 (omega arith) in
    record {
      planned = given_stop at.job.slot at.job.rate at.job.deadline c.requires.plan_from.planned c.requires.plan_from.ready c.loop-k.invariant.rows (omega arith) (omega arith);
      shares_unchanged = c.loop-k.invariant.past;
    }

pub gift-requires : goal.gift-requires
gift-requires c =
    let at = c.args in
    let end = get_or-take at.count at.ends.now c.loop-k.k 0 (omega arith) in
    let here = ready_at c.requires.plan_from.planned c.requires.plan_from.ready c.loop-k.k (omega arith) in
    record {
      rate_bound = c.requires.rate_bound;
      lo_le_end = omega (arith, here.rises, c.loop-k.invariant.from);
      end_bound = omega (arith, here.from, here.soon, c.loop-k.invariant.from);
    }

pub row_add-requires : goal.row_add-requires
row_add-requires c =
    let at = c.args in
    let few : at.count ≤ 64 = planned-few c.requires.plan_from.planned in
    let fits = given-fits at.job.slot at.job.rate at.job.deadline c.requires.plan_from.planned c.requires.plan_from.ready c.loop-k.shares c.loop-k.invariant.rows (omega arith) in
    record {
      share_words_in_bounds = search rules;
      k_lt_row_count = search rules;
      slot_lt_slot_count = search rules;
      grains_bound = omega (arith, fits, c.gift.ensures.upper_bound);
    }

pub loop-k-preserved : goal.loop-k-preserved
unfolding begin_of
loop-k-preserved c =
    let at = c.args in
    let got = c.row_add.ensures in
    let end = get_or-take at.count at.ends.now c.loop-k.k 0 (omega arith) in
    let more = given_more at.job.slot at.job.rate at.job.deadline c.requires.plan_from.planned c.requires.plan_from.ready c.loop-k.shares c.loop-k.invariant.rows (omega arith) in
    record {
      within = search rules;
      from = rw (add-one, end);
      long = search rules;
      past = got.past ∙ c.loop-k.invariant.past;
      rows = rw (got.rows, c.gift.ensures.value, end, c.loop-k.invariant.from) (rw (le-leb (get_or at.ends.now c.loop-k.k 0) at.job.deadline (omega arith)) at more);
    }

pub returns : goal.returns
returns c =
    let at = c.args in
    let end : c.loop-k.k ≡ at.count = omega arith in
    record {
      planned = given-all at.job.slot at.job.rate at.job.deadline c.requires.plan_from.planned c.requires.plan_from.ready (rw end at c.loop-k.invariant.rows);
      shares_unchanged = c.loop-k.invariant.past;
    }
