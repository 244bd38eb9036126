-- `rate_of` divides and rounds up by the library.
use mathlib.Core.Path.{◌∙◌}
use native.Mathlib.Omega.{arith}
use Rattle.slots.proofs.Rate.{up-rate, up-small}
use Rattle.slots.proofs.task.rate_of.Goals as goal

pub returns : goal.returns
returns c =
    let at = c.args in
    record {
      value = c.div_ceil.ensures ∙ up-rate at.period at.cost (omega arith);
      upper_bound = omega (arith, c.div_ceil.ensures, up-small at.period at.cost (omega arith) (omega arith));
    }
