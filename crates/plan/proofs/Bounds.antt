-- A boundary put in among others, or taken out from them: those behind its place are moved as a whole, and one place is written.
use mathlib.Core.Path.{◌≡◌}
use mathlib.Core.List.{List, ◌++◌, append_assoc}
use Prim.Native.Nat.{ℕ, suc, ◌+◌, ◌-◌, ◌≤◌, ◌<◌}
use native.Mathlib.Nat.{zero-add}
use native.Mathlib.Numerals.{add-one}
use native.Mathlib.Omega.{arith}
use lib.ListN.{length, length-drop, take, drop, get_or, set}
use lib.Seq.{paste, take-suc, drop-cons, set_at, length-take-le}
use Rattle.plan.specs.Planned.{put_in, taken_out}

module _ (n : ℕ) (w : List ℕ) where
  -- those from k on are moved one place on, and d is written at k
  pub put_by_move : (k d : ℕ) → k ≤ n → n < length w → set (paste w (k + 1) (drop k w) (n - k)) k d ≡ put_in k n d w
  unfolding put_in
  put_by_move k d h room =
      let far : k + 1 + (n - k) ≡ suc n = omega arith in
      let rest : List ℕ = take (n - k) (drop k w) ++ drop (suc n) w in
      rw (far, add-one, take-suc w k 0 (omega arith)) (simp append_assoc (set_at (take k w) (get_or w k 0) rest d k (length-take-le k w (omega arith))))

  -- those from place 1 on are moved one place up, and the last is written over with zero
  pub taken_by_move : 0 < n → n ≤ length w → set (paste w 0 (drop 1 w) (n - 1)) (n - 1) 0 ≡ taken_out n w
  unfolding taken_out
  taken_by_move some room =
      let last : suc (n - 1) ≡ n = omega arith in
      let here : n - 1 < length w = omega arith in
      let front : length (take (n - 1) (drop 1 w)) ≡ n - 1 = length-take-le (n - 1) (drop 1 w) (simp length-drop (omega arith)) in
      rw (zero-add, drop-cons w (n - 1) 0 here, last) (set_at (take (n - 1) (drop 1 w)) (get_or w (n - 1) 0) (drop n w) 0 (n - 1) front)
