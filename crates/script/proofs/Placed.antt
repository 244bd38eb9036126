-- A text put over a list of bytes: nothing changes nothing, and a text after a text is both.
use mathlib.Core.Path.{◌≡◌, ap, sym, ◌∙◌}
use mathlib.Core.List.{List, [], ◌++◌, append_assoc}
use Prim.Native.Nat.{ℕ, ◌+◌, ◌≤◌}
use native.Mathlib.Nat.{add-zero, zero-add, add_assoc}
use native.Mathlib.Omega.{arith}
use lib.ListN.{length, take, drop, take-append-drop, length-append, length-drop}
use lib.Seq.{length-take-le, take_at, drop_at, drop-drop}
use Rattle.text.specs.Grammar.{put_at}

pub put_none : (at : ℕ) (w : List ℕ) → put_at at [] w ≡ w
unfolding put_at
put_none at w = rw (add-zero at) (take-append-drop at w)

-- at the front
pub put_front : (t w : List ℕ) → put_at 0 t w ≡ t ++ drop (length t) w
unfolding put_at
put_front t w = rw (zero-add (length t))

module _ (at : ℕ) (a w : List ℕ) (inside : at ≤ length w) where
  head_length : length (take at w ++ a) ≡ at + length a
  head_length = simp (length-append, length-take-le at w inside)

  pub put_more : (b : List ℕ) → put_at (at + length a) b (put_at at a w) ≡ put_at at (a ++ b) w
  unfolding put_at
  put_more b =
      let end = at + length a in
      let rest : drop (end + length b) ((take at w ++ a) ++ drop end w) ≡ drop (length b) (drop end w) =
      sym (drop-drop (length b) end ((take at w ++ a) ++ drop end w)) ∙ ap (drop (length b)) (drop_at (take at w ++ a) (drop end w) end head_length) in
      let past : drop (at + length (a ++ b)) w ≡ drop (length b) (drop end w) =
      rw (length-append a b, ← (add_assoc at (length a) (length b))) (sym (drop-drop (length b) end w)) in
      rw (← (append_assoc (take at w) a (drop end w)), take_at (take at w ++ a) (drop end w) end head_length, rest, past) (simp append_assoc)

pub put_length : (at : ℕ) (t w : List ℕ) → at + length t ≤ length w → length (put_at at t w) ≡ length w
unfolding put_at
put_length at t w fits = simp (length-append, length-take-le at w (omega arith), length-drop) (omega arith)
