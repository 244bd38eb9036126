-- `put_deadline` stores one word of a slot; its other words, the other slots' and the boundaries are not touched.
use mathlib.Core.Path.{refl}
use native.Mathlib.Omega.{arith}
use Rattle.rules.specs.Station.{with_deadline}
use Rattle.rules.specs.Held.{task_in, task_words}
use Rattle.rules.proofs.Held.{stored, task_stored, ends-stored}
use Rattle.slots.proofs.task.put_deadline.Goals as goal

pub returns : goal.returns
unfolding stored with_deadline task_in task_words
returns c =
    let a = c.args in
    let ls = a.lists.now in record {
      tasks = task_stored ls (omega arith) a.slot 3 a.deadline _ (omega arith) (omega arith) refl;
      ends = ends-stored ls (omega arith) a.slot 3 a.deadline _ (omega arith) (omega arith) refl;
    }
