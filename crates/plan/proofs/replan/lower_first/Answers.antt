-- `lower_first` lowers row 0 where there is a slice, and with none there is nothing to lower.
-- The first slice ends after the clock and within a period of the plan start, so the numbers are in range.
use mathlib.Core.Path.{◌≡◌, refl}
use native.Mathlib.Omega.{arith}
use Rattle.plan.proofs.Planned.{planned-lowered, planned_none}
use Rattle.plan.proofs.Replanned.{first}
use Rattle.plan.proofs.replan.lower_first.Goals as goal

pub returns-then-state-eq0 : goal.returns-then-state-eq0
returns-then-state-eq0 c =
    let st = c.args.state in
    let none : st.count ≡ 0 = omega arith in
    record {
      planned = rw none (planned_none st.start st.clock (rw none at c.requires.plan.planned));
      shares_unchanged = refl;
    }

pub overflow_sub-slice : goal.overflow_sub-slice
overflow_sub-slice c = omega (arith, first c.requires (omega arith))

pub overflow_mul-slice : goal.overflow_mul-slice
overflow_mul-slice c = omega (arith, first c.requires (omega arith))

pub overflow_mul-run : goal.overflow_mul-run
overflow_mul-run c = omega (arith, first c.requires (omega arith))

pub row_lower-requires : goal.row_lower-requires
row_lower-requires c =
    let f = first c.requires (omega arith) in
    record {
      share_words_in_bounds = c.requires.plan.long;
      k_lt_row_count = omega arith;
      lower = record { some = omega arith; most = omega arith; within = omega arith };
      shares_fit = f.small;
    }

pub returns : goal.returns
returns c =
    let got = c.row_lower.ensures in
    record {
      planned = planned-lowered c.args.state.start c.args.state.clock c.requires.plan.planned (omega arith) got;
      shares_unchanged = got.past;
    }
