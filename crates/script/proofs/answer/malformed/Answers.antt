-- `malformed` prints 14 and leaves the state.
use mathlib.Core.Path.{refl}
use Rattle.script.proofs.Printing.{number-printed}
use Rattle.script.proofs.answer.malformed.Goals as goal

pub returns : goal.returns
returns c =
    record {
      planner_value = refl;
      printed = number-printed 14 c.args.out.now c.write_refused-used.ensures.value c.write_refused-used.ensures.out_after;
    }
