-- Loops that write a list in place, front to back, one store a turn: words of a row, and rows of the table, so at any type of element.
-- A record says how far the list is written; its laws begin the loop, take a turn, read what is not yet written, and end the loop.
use Rattle.std.proofs.Common.{◌≡◌, ℕ, suc, ◌+◌, ◌-◌, ◌<◌, ◌≤◌, List, ◌∷◌, ◌++◌, length, get_or, take, drop, set, sym, refl, ap, ◌∙◌, append-nil, add-sub_of_le, add-one, arith, drop_of_length-le, length-take-le, get_or-drop, take_all, drop-cons, take-suc, get_or-append-add}
use lib.Seq.{set_at, append_snoc}

-- The elements of s over those of w: the first i are s's, the others w's.
pub record Mixed {A : Type 0} (s w : List A) (i : ℕ) (now : List A) : Type 0 where
  pub is : now ≡ take i s ++ drop i w

pub mixed_none : {A : Type 0} (s w : List A) → Mixed s w 0 w
mixed_none s w = record { is = refl }

pub mixed_all : {A : Type 0} {s w now : List A} {i : ℕ} → Mixed s w i now → length s ≤ i → length w ≤ i → now ≡ s
mixed_all {s = s} {w = w} {i = i} m hs hw = m.is ∙ simp (take_all i s hs, drop_of_length-le w hw, append-nil)

-- d is what `get_or` gives past the end: 0 for words, [] for rows
module _ {A : Type 0} (d : A) where
  -- place i is written, with whatever it is
  pub mixed_set : {s w now : List A} {i : ℕ} → Mixed s w i now → (v : A) → i ≤ length s → i < length w → set now i v ≡ take i s ++ (v ∷ drop (suc i) w)
  mixed_set {s} {w} {i = i} m v hs hw = rw (m.is, drop-cons w i d hw) (set_at (take i s) (get_or w i d) (drop (suc i) w) v i (length-take-le i s hs))

  pub mixed_more : {s w now : List A} {i : ℕ} → Mixed s w i now → (v : A) → i < length s → i < length w → v ≡ get_or s i d → Mixed s w (i + 1) (set now i v)
  mixed_more {s} {w} {i = i} m v hs hw is = record {
    is = rw (mixed_set m v (omega arith) hw, is, add-one, take-suc s i d hs) (sym (append_snoc (take i s) (get_or s i d) (drop (suc i) w)));
  }

  -- what is not yet written is w's
  pub mixed_ahead : {s w now : List A} {i : ℕ} → Mixed s w i now → (n : ℕ) → i ≤ length s → i ≤ n → get_or now n d ≡ get_or w n d
  mixed_ahead {s} {w} {i = i} m n h le =
      rw (m.is, ← (add-sub_of_le le))
      (ap (λ (k : ℕ). get_or (take i s ++ drop i w) (k + (n - i)) d) (sym (length-take-le i s h)) ∙ get_or-append-add (take i s) (drop i w) (n - i) d ∙ get_or-drop i w (n - i) d)
