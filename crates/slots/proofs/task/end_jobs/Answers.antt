-- `end_jobs` ends the jobs with deadline d, slot by slot: after i turns the first i tasks are those of `ended`.
-- The deadline that a turn reads is still the one that came in.
use mathlib.Core.Bool.{cond}
use mathlib.Core.Path.{◌≡◌, refl, ap, ◌∙◌}
use native.Mathlib.Omega.{arith}
use lib.Dec.{eqb}
use lib.ListN.{length, get_or}
use borrow.Author.Tests.{eq-eqb, ne_eqb}
use Rattle.rules.specs.Advance.{ended}
use Rattle.rules.specs.Station.{free, with_deadline}
use Rattle.rules.specs.Held.{tasks_of}
use Rattle.rules.proofs.Held.{slots_length}
use Rattle.rules.proofs.Tasks.{ended_cases, ended-length}
use Rattle.rows.proofs.Moves.{mixed_none, mixed_more, mixed_ahead, mixed_all}
use Rattle.slots.proofs.task.end_jobs.Goals as goal

pub loop-slot-init : goal.loop-slot-init
loop-slot-init c = record { within = omega arith; tasks = mixed_none _ _; ends = refl }

pub loop-slot-preserved : goal.loop-slot-preserved
unfolding with_deadline
loop-slot-preserved c =
    let at = c.args in
    let i = c.loop-slot.slot in
    let d = at.d in
    let ls = c.loop-slot.lists in
    let ks = tasks_of at.lists.now in
    let slots = slots_length at.lists.now in
    let same : length (ended d ks) ≡ 64 = omega (arith, ended-length d ks) in
    let inv = c.loop-slot.invariant in
    let j = get_or ks i free in
    let put = c.put_deadline in
    let old : get_or (tasks_of ls) i free ≡ j = mixed_ahead free inv.tasks i (omega arith) (omega arith) in
    let word : c.task_in-task.result.deadline ≡ j.deadline = ap (λ t. t.deadline) (c.task_in-task.ensures ∙ old) in
    let new : with_deadline j (cond (eqb j.deadline d) 0 j.deadline) ≡ get_or (ended d ks) i free =
    ended_cases (λ t. with_deadline j (cond (eqb j.deadline d) 0 j.deadline) ≡ t) d ks i (λ q. rw eq-eqb) (λ ne. rw ne_eqb) in
    record {
      within = omega arith;
      tasks = rw (put.ensures.tasks, old, c.kept.ensures, word) (mixed_more free inv.tasks _ (omega arith) (omega arith) new);
      ends = put.ensures.ends ∙ inv.ends;
    }

pub returns : goal.returns
returns c =
    let at = c.args in
    let slots = slots_length at.lists.now in
    record {
      tasks = mixed_all c.loop-slot.invariant.tasks (omega (arith, ended-length at.d (tasks_of at.lists.now))) (omega arith);
      ends = c.loop-slot.invariant.ends;
    }
