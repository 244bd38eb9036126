-- `sound` asks the clauses that speak of single numbers and tasks first, and says no where one fails, as a sound table passes them all.
-- What they bound lets the rest be computed, and the law of Clauses.antt says that the rest decides.
use mathlib.Core.Path.{◌≡◌, refl, ap, sym, ◌∙◌}
use mathlib.Core.Bool.{Bool, true, false, cond}
use Rattle.std.proofs.Common.{Some, None}
use Prim.Native.Nat.{◌≤◌}
use native.Mathlib.Omega.{arith}
use lib.ListN.{length}
use Rattle.rules.specs.Held.{tasks_of, ends_of, is_sound_in}
use Rattle.rules.proofs.Held.{slots_length}
use Rattle.slots.proofs.Tests.{not_both}
use Rattle.sound.proofs.Clauses.{InRange, in_range, Asked, refused, decided}
use Rattle.sound.proofs.whole.sound.Goals as goal
use Rattle.sound.proofs.whole.sound.Goals.{Else-not-scalars, then-shares-lt-SHARE_WORDS-via-then-shares-lt-SHARE_WORDS, then-shares-lt-SHARE_WORDS-via-else-shares-lt-SHARE_WORDS+then-not-scalars}

ranged : (c : Else-not-scalars) → let s = c.args.state in InRange s.cores s.clock s.start s.count
ranged c = in_range _ _ _ _ (sym c.scalars.ensures ∙ c.if-not-scalars.false)

pub returns-then-shares-lt-SHARE_WORDS : goal.returns-then-shares-lt-SHARE_WORDS
unfolding is_sound_in
returns-then-shares-lt-SHARE_WORDS c =
    refused _ _ _ _ _ _ _ _ (λ a. elim c.then-shares-lt-SHARE_WORDS.branch [
      | then-shares-lt-SHARE_WORDS-via-then-shares-lt-SHARE_WORDS w ↦ (let enough = a.enough in omega arith)
      | then-shares-lt-SHARE_WORDS-via-else-shares-lt-SHARE_WORDS+then-not-scalars w ↦ not_both a.scalars (sym w.scalars.ensures ∙ w.if-not-scalars.true)
    ])

pub tasks_sound-requires : goal.tasks_sound-requires
tasks_sound-requires c = omega (arith, ranged (goal.at.tasks_sound-requires c).Else-not-scalars)

-- what an option says that is Some exactly where b holds
none_where : {A : Type 0} (b : Bool) (x : A) → None ≡ cond b (Some x) None → b ≡ false
none_where true x e = cc
none_where false x e = refl

some_where : {A : Type 0} (b : Bool) (x y : A) → Some y ≡ cond b (Some x) None → (b ≡ true) × (y ≡ x)
some_where true x y e = (refl, cc)
some_where false x y e = let never : ⊥ = cc in absurd never

pub returns-in_default : goal.returns-in_default
unfolding is_sound_in
returns-in_default c = refused _ _ _ _ _ _ _ _ (λ a. not_both a.each (none_where _ _ (sym c.in_default.is ∙ c.tasks_sound.ensures)))

pub plan_sound-requires : goal.plan_sound-requires
plan_sound-requires c =
    let range = ranged (goal.at.plan_sound-requires c).Else-not-scalars in
    record {
      few-cores = range.some-cores;
      few-rows = range.some-rows;
      long = omega arith;
    }

pub returns : goal.returns
unfolding is_sound_in ends_of
returns c =
    let at = c.args in
    let s = at.state in
    let ls = at.lists.now in
    let w = at.shares.now in
    let enough : 4096 ≤ length w = omega arith in
    let got = some_where _ _ _ (sym c.in-Some.is ∙ c.tasks_sound.ensures) in
    let a : Asked s.cores s.clock s.start s.used (tasks_of ls) s.count (ends_of ls) w = record {
      enough = enough;
      scalars = sym c.scalars.ensures ∙ c.if-not-scalars.false;
      each = got.0;
    } in
    let chunk = rw c.unwrap-ends.ensures at c.first_chunk.ensures.cases in
    decided s.cores s.clock s.start s.used (tasks_of ls) s.count (ends_of ls) w (slots_length ls) a (ap (λ d. d.due) got.1) (ap (λ d. d.rates) got.1) (rw chunk.same at c.plan_sound.ensures)
