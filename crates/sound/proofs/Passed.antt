-- Loops over slices and boundaries: what is left to look at, from boundary k on, loses one slice a turn.
-- Slice k is boundary k with row k, as long as there are boundaries.
use mathlib.Core.Path.{◌≡◌, refl}
use mathlib.Core.Bool.{Bool, true, false, ◌&&◌, and_assoc, and-true}
use mathlib.Core.List.{List, [], ◌∷◌}
use Prim.Native.Nat.{ℕ, ◌+◌, ◌≤◌, ◌<◌}
use native.Mathlib.Numerals.{add-one}
use native.Mathlib.Omega.{arith}
use lib.Dec.{eqb}
use lib.ListN.{length, take, drop, get_or, length-take, drop_of_length-le}
use lib.Seq.{drop-cons, get_or-take}
use Rattle.std.specs.List.{list_all}
use Rattle.rules.specs.Station.{Slice, row_count, sum}
use Rattle.rules.specs.Sound.{every, each_slice}
use Rattle.rules.specs.Words.{rows_of, row_at, slices_of}
use Rattle.table.proofs.Rowed.{length-rows_of}
use Rattle.sound.specs.Due.{slice_at, slice_hits, all_hits, within, row_test, slice_check}
use Rattle.slots.proofs.Tests.{sum_zero}

-- the slices from boundary k on, `count` in all
unfoldable pub slices_from : ℕ → ℕ → List ℕ → List ℕ → List Slice
slices_from k count ends words = slices_of (drop k (take count ends)) (drop k (rows_of row_count words))

module _ (count : ℕ) (ends words : List ℕ) (long : length ends ≡ 64) (few : count ≤ 64) where
  slices-next : (k : ℕ) → k < count → slices_from k count ends words ≡ slice_at (get_or ends k 0) (row_at k words) ∷ slices_from (k + 1) count ends words
  unfolding slices_from slices_of slice_at row_at
  slices-next k h =
      let ahead : k < length (take count ends) = simp length-take (omega arith) in
      let row : k < length (rows_of 64 words) = rw length-rows_of (omega arith) in
      rw (add-one, drop-cons (take count ends) k 0 ahead, drop-cons (rows_of 64 words) k [] row, get_or-take count ends k 0 h)

  slices-done : (k : ℕ) → count ≤ k → slices_from k count ends words ≡ []
  unfolding slices_from slices_of
  slices-done k h = let end : length (take count ends) ≤ k = simp length-take (omega arith) in rw (drop_of_length-le (take count ends) end)

  module _ (p : ℕ → Slice → Bool) (ok : Bool) (lo k : ℕ) where
    pub each_next : k < count
        → let e = get_or ends k 0 in
        ((ok && p lo (slice_at e (row_at k words))) && each_slice p e (slices_from (k + 1) count ends words)) ≡ (ok && each_slice p lo (slices_from k count ends words))
    unfolding each_slice slice_at
    each_next h = rw (slices-next k h) (and_assoc ok _ _)

    pub each_done : count ≤ k → (ok && each_slice p lo (slices_from k count ends words)) ≡ ok
    unfolding each_slice
    each_done h = rw (slices-done k h) (and-true ok)

  module _ (start : ℕ) (due : List ℕ) (lo k : ℕ) where
    pub hits_passed : k < count
        → let e = get_or ends k 0 in
        all_hits start due lo (slices_from k count ends words) ≡ slice_hits start due lo (slice_at e (row_at k words)) + all_hits start due e (slices_from (k + 1) count ends words)
    unfolding all_hits slice_at
    hits_passed h = rw (slices-next k h)

    pub hits_all : count ≤ k → all_hits start due lo (slices_from k count ends words) ≡ 0
    unfolding all_hits
    hits_all h = rw (slices-done k h)

-- a slice that is not within is no sound slice, and nothing is counted for it
pub not_within : (start : ℕ) (due rates : List ℕ) (lo end : ℕ) (row : List ℕ) → within start lo end ≡ false
    → (false ≡ slice_check start due rates lo (slice_at end row)) × (0 ≡ slice_hits start due lo (slice_at end row))
unfolding slice_check slice_hits slice_at
not_within start due rates lo end row h = (rw h, rw h)

-- the sum of a row counts only where each share fits
pub sum_counts : (fits : Bool) (a b long owed hits : ℕ) → (fits ≡ true → a ≡ b) → row_test fits a long owed hits ≡ row_test fits b long owed hits
unfolding row_test every
sum_counts true a b long owed hits h = rw (h refl)
sum_counts false a b long owed hits h = refl

-- a sum is zero where all words are
pub zero-all : (words : List ℕ) → list_all (λ word. eqb word 0) words ≡ eqb (sum words) 0
unfolding sum
zero-all [] = refl
zero-all (word ∷ words) = rw (zero-all words, sum_zero word (sum words))
