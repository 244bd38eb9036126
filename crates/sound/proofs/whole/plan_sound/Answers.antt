-- `plan_sound` asks the load first, then all slices, the count of the jobs that are due at their ends, and the zeros past them.
-- Each test but the last leaves a flag, which the next joins; together they are the plan's test in another grouping.
use mathlib.Core.Path.{◌≡◌, refl, sym, ◌∙◌}
use mathlib.Core.Bool.{◌&&◌, ◌||◌, and-eq-true_iff, and_assoc, and-true}
use mathlib.Core.List.{List}
use Prim.Native.Nat.{ℕ, ◌-◌, ◌*◌}
use native.Mathlib.Omega.{arith}
use borrow.Author.Tests.{leb-true}
use lib.Dec.{leb, ltb, eqb}
use lib.ListN.{take, drop}
use Rattle.rules.specs.Station.{grains, slot_count, row_count, share_words, sum}
use Rattle.rules.specs.Sound.{every, each_slice}
use Rattle.rules.specs.Words.{rows_of, slices_of}
use Rattle.rows.specs.Row.{owed_in, hits_in}
use Rattle.sound.specs.Due.{slice_check, all_hits, plan_test}
use Rattle.sound.proofs.whole.plan_sound.Goals as goal
use Rattle.sound.proofs.whole.plan_sound.Goals.{After-load_sound}

plan-order : (cores clock start : ℕ) (due rates : List ℕ) (count : ℕ) (ends words : List ℕ)
    → let slices = slices_of (take count ends) (rows_of row_count words) in
    plan_test cores clock start due rates count ends words
    ≡ ((leb (owed_in 0 due rates) (grains cores) && (ltb (hits_in 0 due) slot_count || eqb start clock))
    && (((each_slice (slice_check start due rates) start slices && eqb (all_hits start due start slices) (slot_count - hits_in 0 due)) && eqb (sum (drop count ends)) 0)
    && eqb (sum (drop (slot_count * count) (take share_words words))) 0))
unfolding plan_test every
plan-order cores clock start due rates count ends words = simp (and_assoc, and-true)

loaded : (c : After-load_sound) → let at = c.args in
    c.load_sound.result ≡ (leb (owed_in 0 at.dues.now.due at.dues.now.rates) (grains at.state.cores) && (ltb (hits_in 0 at.dues.now.due) slot_count || eqb at.state.start at.state.clock))
loaded c = cc

-- the load bounds the rates together
pub slices_sound-slices-requires : goal.slices_sound-slices-requires
slices_sound-slices-requires c =
    let at = c.args in
    let fits = sym (loaded (goal.at.slices_sound-slices-requires c).After-load_sound) ∙ c.if-not-load_sound.false in
    let load = leb-true (owed_in 0 at.dues.now.due at.dues.now.rates) (grains at.state.cores) ((and-eq-true_iff _ _).0 fits).0 in
    omega (arith, c.due_facts-all.ensures.all_owed refl)

pub returns-then-not-load_sound : goal.returns-then-not-load_sound
returns-then-not-load_sound c =
    let at = c.args in
    let over = sym (loaded (goal.at.returns-then-not-load_sound c).After-load_sound) ∙ c.if-not-load_sound.true in
    rw (plan-order at.state.cores at.state.clock at.state.start at.dues.now.due at.dues.now.rates at.state.count at.ends.now at.shares.now, over)
