-- `task_in` reads the words of a slot, which are its task's.
use mathlib.Core.Path.{refl}
use native.Mathlib.Omega.{arith}
use lib.Seq.{get_or-drop}
use Rattle.rules.specs.Held.{task_in}
use Rattle.rules.proofs.Held.{task_at_lem}
use Rattle.slots.proofs.task.task_in.Goals as goal

pub returns : goal.returns
unfolding task_in
returns c =
    let at = c.args in
    rw (task_at_lem at.lists.now at.slot (omega arith)) (simp get_or-drop refl)
