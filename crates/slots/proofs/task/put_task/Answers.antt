-- `put_task` stores the words of a slot, one field after the other; the other slots' words and the boundaries are not touched.
use mathlib.Core.Path.{◌≡◌, refl, ◌∙◌}
use Prim.Native.Nat.{◌+◌, ◌*◌, ◌<◌}
use native.Mathlib.Omega.{arith}
use lib.ListN.{length, set, length-set}
use Rattle.rules.specs.Station.{slot_count}
use Rattle.rules.specs.Held.{words_per_task, task_in, task_words, tasks_from, list_words, tasks_of}
use Rattle.rules.proofs.Held.{stored, slots_length, task_stored, task_stored-on, ends-stored}
use Rattle.slots.proofs.task.put_task.Goals as goal

pub returns : goal.returns
unfolding stored task_in task_words
returns c =
    let a = c.args in
    let ls = a.lists.now in
    let i = a.slot in
    let k = a.task in
    let at = tasks_from + words_per_task * i in
    let ls1 = set ls (at + 0) k.period in
    let ls2 = set ls1 (at + 1) k.cost in
    let ls3 = set ls2 (at + 2) k.rate in
    let n : length ls ≡ list_words = omega arith in
    let n1 = length-set ls (at + 0) k.period ∙ n in
    let n2 = length-set ls1 (at + 1) k.cost ∙ n1 in
    let n3 = length-set ls2 (at + 2) k.rate ∙ n2 in
    let in' : i < slot_count = omega arith in
    let ks = tasks_of ls in
    let slots = slots_length ls in
    let t1 = task_stored ls n i 0 k.period (at + 0) in' (omega arith) refl in
    let t2 = task_stored-on ls1 n1 i 1 k.cost (at + 1) in' (omega arith) refl ks _ slots t1 in
    let t3 = task_stored-on ls2 n2 i 2 k.rate (at + 2) in' (omega arith) refl ks _ slots t2 in
    let e3 = ends-stored ls2 n2 i 2 k.rate (at + 2) in' (omega arith) refl in
    record {
      tasks = task_stored-on ls3 n3 i 3 k.deadline (at + 3) in' (omega arith) refl ks _ slots t3;
      ends = ends-stored ls3 n3 i 3 k.deadline (at + 3) in' (omega arith) refl ∙ e3
          ∙ ends-stored ls1 n1 i 1 k.cost (at + 1) in' (omega arith) refl ∙ ends-stored ls n i 0 k.period (at + 0) in' (omega arith) refl;
    }
