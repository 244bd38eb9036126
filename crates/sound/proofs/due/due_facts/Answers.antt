-- `due_facts` goes through the slots once: each number so far, with what the slots left give, is what all slots give.
-- 64 rates of 32 bits add up to less than 2 to the 38th.
use Rattle.std.proofs.Common.{◌≡◌, ℕ, ◌+◌, List, [], ◌∷◌, refl, ap, sym, ◌∙◌, length, arith}
use mathlib.Core.Logic.{⊎_elim}
use Rattle.std.specs.Iterator.Adapters.{zip_first, zip_second}
use Rattle.std.specs.Slice.Iter.{iter_rest}
use Rattle.rows.specs.Row.{owed_in, hits_in}
use Rattle.sound.proofs.Dues.{owed-sum}
use Rattle.sound.proofs.due.due_facts.Goals as goal

pub loop-due-init : goal.loop-due-init
loop-due-init c =
    let due : iter_rest (zip_first c.into_iter-due-iterator.result) ≡ c.args.dues.now.due = cc in
    let rates : iter_rest (zip_second c.into_iter-due-iterator.result) ≡ c.args.dues.now.rates = rw c.into_iter-due-iterator.ensures.into_iter_gives c.zip-due-items.ensures.second.0 in
    rw (due, rates) (record { same_length = omega arith; owed-small = omega arith; hits_small = omega arith; owed-left = omega arith; hits_left = omega arith })

pub loop-due-preserved : goal.loop-due-preserved
unfolding owed_in hits_in
loop-due-preserved c =
    let at = c.args in
    let inv = c.loop-due.invariant in
    let due = c.in-Some.ensures.steps.0 in
    let rates = c.in-Some.ensures.steps.1 in
    let later = owed_in at.end (iter_rest (zip_first c.next.new.self)) (iter_rest (zip_second c.next.new.self)) in
    let after = hits_in at.end (iter_rest (zip_first c.next.new.self)) in
    let owed : owed_in at.end (iter_rest (zip_first c.loop-due.due-iterator)) (iter_rest (zip_second c.loop-due.due-iterator)) ≡ c.rate_due.result + later =
    rw (due, rates) (ap (λ rate. rate + later) (sym c.rate_due.ensures.value)) in
    let hits : hits_in at.end (iter_rest (zip_first c.loop-due.due-iterator)) ≡ c.hit-hits.result + after = rw due (ap (λ hit. hit + after) (sym c.hit-hits.ensures.value)) in
    let m = ap length due in
    let n = ap length rates in
    record {
      same_length = omega arith;
      owed-small = omega arith;
      hits_small = omega arith;
      owed-left = omega arith;
      hits_left = omega arith;
    }

none-left : (end : ℕ) (due rates : List ℕ) → length due ≡ 0 → (owed_in end due rates ≡ 0) × (hits_in end due ≡ 0)
unfolding owed_in hits_in
none-left end [] rates h = (refl, refl)
none-left end (d ∷ ds) rates h = omega arith

pub returns : goal.returns
returns c =
    let inv = c.loop-due.invariant in
    let last : length (iter_rest (zip_first c.loop-due.due-iterator)) ≡ 0 = ⊎_elim (λ e. e.1.0) (λ e. omega (arith, e.1.0)) c.in-None.ensures.steps in
    let none = none-left c.args.end _ (iter_rest (zip_second c.loop-due.due-iterator)) last in
    let at = c.args in
    let owed : c.loop-due.owed ≡ owed_in at.end at.dues.now.due at.dues.now.rates = omega arith in
    record {
      owed_value = owed;
      hits_value = omega arith;
      owed_bound = omega arith;
      all_owed = λ start. owed ∙ ap (λ end. owed_in end at.dues.now.due at.dues.now.rates) start ∙ owed-sum at.dues.now.due at.dues.now.rates (omega arith);
      hits_le_slot_count = omega arith;
    }
