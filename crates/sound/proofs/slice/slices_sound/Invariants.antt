-- `slices_sound` goes through the slices: what was found, joined with what the slices from k on say, is what all slices say.
-- Each slice adds at most 64 to the count.
use mathlib.Core.Path.{◌≡◌}
use mathlib.Core.Bool.{Bool, ◌&&◌}
use mathlib.Core.List.{List}
use Prim.Native.Nat.{ℕ, ◌+◌, ◌*◌, ◌≤◌}
use Rattle.rules.specs.Sound.{each_slice}
use Rattle.sound.specs.Due.{slice_check, all_hits}
use Rattle.sound.proofs.Passed.{slices_from}
use Rattle.sound.proofs.slice.slices_sound.Given as goal

pub record Passing (words due rates ends : List ℕ) (count start : ℕ) (ok : Bool) (hits lo k : ℕ) : Type 0 where
  pub inside : k ≤ count
  pub small : hits ≤ 64 * k
  pub ok_left : (ok && each_slice (slice_check start due rates) lo (slices_from k count ends words)) ≡ each_slice (slice_check start due rates) start (slices_from 0 count ends words)
  pub hits_left : hits + all_hits start due lo (slices_from k count ends words) ≡ all_hits start due start (slices_from 0 count ends words)

abbrev pub invariant-loop-k : goal.invariant-loop-k
invariant-loop-k l = Passing l.shares l.dues.due l.dues.rates l.ends l.count l.start l.found.ok l.found.hits l.from l.k
