-- Rows that move down by one, the last first: a step of the move, what is not yet moved, and the row that stands twice at the end.
-- Each is an equation of `take`, `drop` and `++` at one place of the rows.
use mathlib.Core.Path.{◌≡◌, ap, ◌∙◌}
use mathlib.Core.List.{List, [], ◌∷◌, ◌++◌}
use Prim.Native.Nat.{ℕ, suc, ◌+◌, ◌-◌, ◌<◌, ◌≤◌}
use native.Mathlib.Numerals.{add-one}
use native.Mathlib.Omega.{arith}
use lib.ListN.{length, take, drop, get_or, set, take-append-drop, length-append, length-take, get_or-append}
use lib.Seq.{drop-cons, take-suc, set_at, append_snoc, length-take-le, get_or-take, get_or_at, get_or-set_same, get_or-set_other}
use Rattle.rules.specs.Words.{rows_of, row_at, Rowed, moved_down, cut_rows}
use Rattle.table.proofs.Rowed.{length-rows_of, rowed_then}

module _ (n : ℕ) (rs : List (List ℕ)) where
  pub down_none : moved_down n n rs ≡ rs
  unfolding moved_down
  down_none = let none : n - n ≡ 0 = omega arith in rw none (take-append-drop (suc n) rs)

  module _ (room : n < length rs) where
    -- what is not yet moved
    pub down_ahead : (k i : ℕ) → i ≤ k → k ≤ n → get_or (moved_down k n rs) i [] ≡ get_or rs i []
    unfolding moved_down
    down_ahead k i h le =
        let long : i < length (take (suc k) rs) = rw (length-take-le (suc k) rs (omega arith)) (omega arith) in
        rw (get_or-append (take (suc k) rs) (take (n - k) (drop k rs) ++ drop (suc n) rs) [] i long) (get_or-take (suc k) rs i [] (omega arith))

    -- row i is copied to the next place
    pub down_more : (i j : ℕ) → i < n → j ≡ i + 1 → set (moved_down j n rs) (i + 1) (get_or (moved_down j n rs) i []) ≡ moved_down i n rs
    unfolding moved_down
    down_more i j h is =
        let far : n - i ≡ suc (n - suc i) = omega arith in
        let next = get_or rs (suc i) [] in
        let below : List (List ℕ) = take (n - suc i) (drop (suc i) rs) ++ drop (suc n) rs in
        rw (
          down_ahead j i (omega arith) (omega arith),
          is,
          add-one i,
          take-suc rs (suc i) [] (omega arith),
          append_snoc (take (suc i) rs) next below,
          set_at (take (suc i) rs) next below (get_or rs i []) (suc i) (length-take-le (suc i) rs (omega arith)),
          far,
          drop-cons rs i [] (omega arith),
        )

    module _ (k : ℕ) (h : k < n) where
      row : List ℕ
      row = get_or rs k []

      -- row k stands twice: as if it were cut into itself and itself
      down_cut : moved_down k n rs ≡ cut_rows k n row row rs
      unfolding moved_down cut_rows row
      down_cut =
          let far : n - k ≡ suc (n - suc k) = omega arith in
          rw (far, take-suc rs k [] (omega arith), drop-cons rs k [] (omega arith)) (append_snoc (take k rs) row (row ∷ (take (n - suc k) (drop (suc k) rs) ++ drop (suc n) rs)))

      pub down_next : get_or (moved_down k n rs) (suc k) [] ≡ get_or rs k []
      unfolding cut_rows row
      down_next =
          let below : List (List ℕ) = take (n - suc k) (drop (suc k) rs) ++ drop (suc n) rs in
          let long : length (take k rs ++ (row ∷ [])) ≡ suc k = simp (length-append, length-take) (omega arith) in
          rw (down_cut, ← (append_snoc (take k rs) row (row ∷ below)), get_or_at (take k rs ++ (row ∷ [])) row below [] (suc k) long)

      -- both are written
      pub down_both : (x y : List ℕ) → set (set (moved_down k n rs) k x) (suc k) y ≡ cut_rows k n x y rs
      unfolding cut_rows row
      down_both x y =
          let below : List (List ℕ) = take (n - suc k) (drop (suc k) rs) ++ drop (suc n) rs in
          let long : length (take k rs ++ (x ∷ [])) ≡ suc k = simp (length-append, length-take) (omega arith) in
          rw (down_cut, set_at (take k rs) row (row ∷ below) x k (length-take-le k rs (omega arith)), ← (append_snoc (take k rs) x (row ∷ below)), set_at (take k rs ++ (x ∷ [])) row below y (suc k) long)
          (append_snoc (take k rs) x (y ∷ below))

-- Room is made, and then each part in its place: both find the row as it was.
module _ {w v u : List ℕ} (k n : ℕ) (f : List ℕ → List ℕ) (h : k < n) (room : n < 64) (opened : Rowed w (moved_down k n (rows_of 64 w)) v) (first : Rowed v (set (rows_of 64 v) k (f (row_at k v))) u) where
  here : row_at k v ≡ row_at k w
  unfolding row_at
  here = rw opened.rows (down_ahead n (rows_of 64 w) (omega (arith, length-rows_of 64 w)) k k (omega arith) (omega arith))

  pub cut-first : row_at k u ≡ f (row_at k w)
  unfolding row_at
  cut-first = rw (first.rows, get_or-set_same (rows_of 64 v) k (f (row_at k v)) [] (omega (arith, length-rows_of 64 v))) (ap f here)

  pub cut-next : row_at (k + 1) u ≡ row_at k w
  unfolding row_at
  cut-next = rw (first.rows, get_or-set_other (rows_of 64 v) k (k + 1) (f (row_at k v)) [] (omega arith), opened.rows, add-one k) (down_next n (rows_of 64 w) (omega (arith, length-rows_of 64 w)) k h)

  pub cut_then : {t : List ℕ} (y : List ℕ) → Rowed u (set (rows_of 64 u) (k + 1) y) t → Rowed w (cut_rows k n (f (row_at k w)) y (rows_of 64 w)) t
  unfolding row_at
  cut_then y rest = record {
    rows = rest.rows ∙ rw (first.rows, here, opened.rows, add-one k) (down_both n (rows_of 64 w) (omega (arith, length-rows_of 64 w)) k h (f (row_at k w)) y);
    past = (rowed_then (rowed_then opened first) rest).past;
  }
