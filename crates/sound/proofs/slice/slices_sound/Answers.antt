-- `slices_sound` goes through the slices: what was found, joined with what the slices from k on say, is what all slices say.
-- Each slice adds at most 64 to the count.
use mathlib.Core.Path.{◌≡◌, refl, sym, ◌∙◌}
use Prim.Native.Nat.{◌<◌, ◌≤◌}
use native.Mathlib.Omega.{arith}
use borrow.Author.Rules.{rules}
use lib.ListN.{length}
use lib.Seq.{get_or-take}
use Rattle.sound.specs.Due.{slice_check}
use Rattle.sound.proofs.Passed.{slices_from, each_next, each_done, hits_passed, hits_all}
use Rattle.sound.proofs.slice.slices_sound.Goals as goal

pub loop-k-init : goal.loop-k-init
loop-k-init c = record { inside = search rules; small = search rules; ok_left = refl; hits_left = omega arith }

pub loop-k-preserved : goal.loop-k-preserved
loop-k-preserved c =
    let at = c.args in
    let h : c.loop-k.k < at.count = omega arith in
    let long : length at.ends.now ≡ 64 = omega arith in
    let few : at.count ≤ 64 = omega arith in
    let p = slice_check at.start at.dues.now.due at.dues.now.rates in
    let end = get_or-take at.count at.ends.now c.loop-k.k 0 h in
    record {
      inside = omega arith;
      small = omega arith;
      ok_left = rw (end, c.with_slice-found.ensures.ok_value, rw end at c.one_slice.ensures.ok_value) (each_next at.count at.ends.now at.shares.now long few p c.loop-k.found.ok c.loop-k.from c.loop-k.k h ∙ c.loop-k.invariant.ok_left);
      hits_left = rw end (omega (arith, rw end at c.one_slice.ensures.hits_value, hits_passed at.count at.ends.now at.shares.now long few at.start at.dues.now.due c.loop-k.from c.loop-k.k h));
    }

pub returns : goal.returns
unfolding slices_from
returns c =
    let at = c.args in
    let h : at.count ≤ c.loop-k.k = omega arith in
    let long : length at.ends.now ≡ 64 = omega arith in
    let few : at.count ≤ 64 = omega arith in
    let p = slice_check at.start at.dues.now.due at.dues.now.rates in record {
      ok_value = sym (each_done at.count at.ends.now at.shares.now long few p c.loop-k.found.ok c.loop-k.from c.loop-k.k h) ∙ c.loop-k.invariant.ok_left;
      hits_value = omega (arith, hits_all at.count at.ends.now at.shares.now long few at.start at.dues.now.due c.loop-k.from c.loop-k.k h);
    }
