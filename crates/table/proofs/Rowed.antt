-- The share table by its rows: what a part that was lent and came back makes of them, and of the words past the table.
-- A part that begins 64 words on leaves the first row, so each law on rows is an induction along them.
use mathlib.Core.Path.{◌≡◌, refl, sym, ap, ◌∙◌}
use mathlib.Core.List.{List, [], ◌∷◌, ◌++◌, append_assoc}
use Prim.Native.Nat.{ℕ, zero, suc, ◌+◌, ◌-◌, ◌*◌, ◌<◌, ◌≤◌}
use native.Mathlib.Nat.{not-suc-le-zero, le_of_suc-le-suc}
use native.Mathlib.Omega.{arith}
use lib.Dec.{lit≤}
use lib.ListN.{length, take, drop, get_or, set, length-take, length-drop, length-append, take-append-drop}
use lib.Seq.{take_at, drop_at, take-add, drop-drop, length-take-le, take-take, set-get_or, get_or-set_other}
use borrow.Rule.Slice.PartMut.{put_mid, same_len_mid}
use Rattle.rules.specs.Words.{rows_of, row_at, flat, Rowed}

-- the words from n on of the first n + m
pub drop-take : (n m : ℕ) (w : List ℕ) → n ≤ length w → drop n (take (n + m) w) ≡ take m (drop n w)
drop-take n m w h = rw (take-add n m w) (drop_at (take n w) (take m (drop n w)) n (length-take-le n w h))

pub next_row : (k : ℕ) → 64 * suc k ≡ 64 + 64 * k
next_row k = omega arith

pub length-rows_of : (n : ℕ) (w : List ℕ) → length (rows_of n w) ≡ n
unfolding rows_of
length-rows_of zero w = refl
length-rows_of (suc n) w = ap suc (length-rows_of n (drop 64 w))

-- row k is the part of 64 words from 64 k on
pub rows_of_at : (n k : ℕ) (w : List ℕ) → k < n → get_or (rows_of n w) k [] ≡ take 64 (drop (64 * k) w)
unfolding rows_of
rows_of_at zero k w h = absurd (not-suc-le-zero h)
rows_of_at (suc n) zero w h = refl
rows_of_at (suc n) (suc k) w h = rw (next_row k, ← (drop-drop (64 * k) 64 w)) (rows_of_at n k (drop 64 w) (le_of_suc-le-suc h))

-- a part of one row, with its length m as the borrow checker writes it
pub row_part : (k m : ℕ) (w : List ℕ) → m ≡ 64 → k < 64 → take m (drop (64 * k) w) ≡ row_at k w
unfolding row_at
row_part k m w is h = rw is (sym (rows_of_at 64 k w h))

pub length_row : (k : ℕ) (w : List ℕ) → k < 64 → 4096 ≤ length w → length (row_at k w) ≡ 64
length_row k w h room = rw (← (row_part k 64 w refl h)) (length-take-le 64 (drop (64 * k) w) (simp length-drop (omega arith)))

-- the words w are their rows, and what lies past them
pub rows_of-all : (n : ℕ) (w : List ℕ) → w ≡ flat (rows_of n w) ++ drop (64 * n) w
unfolding rows_of flat
rows_of-all zero w = refl
rows_of-all (suc n) w =
    let later = drop 64 w in
    rw (next_row n, ← (drop-drop (64 * n) 64 w), append_assoc (take 64 w) (flat (rows_of n later)) (drop (64 * n) later), ← (rows_of-all n later)) (sym (take-append-drop 64 w))

-- so `Rowed` leaves no choice
pub rowed_is : {w v : List ℕ} {rs : List (List ℕ)} → Rowed w rs v → v ≡ flat rs ++ drop 4096 w
rowed_is {v = v} r = rw (← r.rows, ← r.past) (rows_of-all 64 v)

-- one routine after another
pub rowed_then : {w v u : List ℕ} {rs qs : List (List ℕ)} → Rowed w rs v → Rowed v qs u → Rowed w qs u
rowed_then r q = record { rows = q.rows; past = q.past ∙ r.past }

-- a part that begins 64 words on leaves the first row
later : (a m : ℕ) (w ys : List ℕ) → put_mid (64 + a) m w ys ≡ take 64 w ++ put_mid a m (drop 64 w) ys
later a m w ys = rw (take-add 64 a w, ← (drop-drop a 64 w), append_assoc)

pub first_row : (n : ℕ) (r w : List ℕ) → length r ≡ 64 → rows_of (suc n) (r ++ w) ≡ r ∷ rows_of n w
unfolding rows_of
first_row n r w h = rw (take_at r w 64 h, drop_at r w 64 h)

-- one row was lent, and came back as ys
rows_of_put : (n k : ℕ) (w ys : List ℕ) → k < n → 64 * n ≤ length w → length ys ≡ 64 → rows_of n (put_mid (64 * k) 64 w ys) ≡ set (rows_of n w) k ys
unfolding rows_of
rows_of_put zero k w ys h room is = absurd (not-suc-le-zero h)
rows_of_put (suc n) zero w ys h room is = first_row n ys (drop 64 w) is
rows_of_put (suc n) (suc k) w ys h room is =
    let left : 64 * n ≤ length (drop 64 w) = simp length-drop (omega arith) in
    rw (next_row k, later (64 * k) 64 w ys, first_row n (take 64 w) (put_mid (64 * k) 64 (drop 64 w) ys) (length-take-le 64 w (omega arith)))
    (ap (λ rs. take 64 w ∷ rs) (rows_of_put n k (drop 64 w) ys (le_of_suc-le-suc h) left is))

-- two parts lent one after the other are one part
both : (a m n : ℕ) (w x y : List ℕ) → a + m ≤ length w → length x ≡ m → put_mid a (m + n) w (x ++ y) ≡ put_mid (a + m) n (put_mid a m w x) y
both a m n w x y room is =
    let whole : length (take a w ++ x) ≡ a + m = simp (length-append, length-take) (omega arith) in
    let seam : put_mid a m w x ≡ (take a w ++ x) ++ drop m (drop a w) = sym (append_assoc (take a w) x (drop m (drop a w))) in
    rw (seam, take_at (take a w ++ x) (drop m (drop a w)) (a + m) whole, drop_at (take a w ++ x) (drop m (drop a w)) (a + m) whole, drop-drop n m (drop a w), append_assoc, append_assoc)

-- two rows were lent together, and came back as x and y
rows_of_put2 : (k : ℕ) (w x y : List ℕ) → suc k < 64 → 4096 ≤ length w → length x ≡ 64 → length y ≡ 64
    → rows_of 64 (put_mid (64 * k) 128 w (x ++ y)) ≡ set (set (rows_of 64 w) k x) (suc k) y
rows_of_put2 k w x y h room lx ly =
    let here : 64 * k + 64 ≤ length w = omega arith in
    let next : 64 * k + 64 ≡ 64 * suc k = omega arith in
    let same : length (put_mid (64 * k) 64 w x) ≡ length w = same_len_mid (64 * k) 64 w x (rw lx (sym (length-take-le 64 (drop (64 * k) w) (simp length-drop (omega arith))))) in
    rw (both (64 * k) 64 64 w x y here lx, next, rows_of_put 64 (suc k) (put_mid (64 * k) 64 w x) y h (omega arith) ly, rows_of_put 64 k w x (omega arith) room lx)

-- what lies past the table is as it was
pub past_put : (N a m : ℕ) (w ys : List ℕ) → a + m ≤ N → N ≤ length w → length ys ≡ m → drop N (put_mid a m w ys) ≡ drop N w
past_put N a m w ys h room is =
    let whole : length (take a w ++ ys) ≡ a + m = simp (length-append, length-take) (omega arith) in
    let far : a + m + (N - (a + m)) ≡ N = omega arith in
    let seam : put_mid a m w ys ≡ (take a w ++ ys) ++ drop m (drop a w) = sym (append_assoc (take a w) ys (drop m (drop a w))) in
    rw (← far, ← (drop-drop (N - (a + m)) (a + m) (put_mid a m w ys)), seam, drop_at (take a w ++ ys) (drop m (drop a w)) (a + m) whole, drop-drop m a w, drop-drop (N - (a + m)) (a + m) w)

-- two rows that are lent together, row by row
module _ (v : List ℕ) (room : 4096 ≤ length v) (k : ℕ) (h : suc k < 64) where
  pub two_first : take 64 (take 128 (drop (64 * k) v)) ≡ row_at k v
  two_first = take-take 64 128 (drop (64 * k) v) (lit≤ tt) ∙ row_part k 64 v refl (omega arith)

  pub two_second : drop 64 (take 128 (drop (64 * k) v)) ≡ row_at (suc k) v
  two_second =
      let next : 64 * k + 64 ≡ 64 * suc k = omega arith in
      drop-take 64 64 (drop (64 * k) v) (simp length-drop (omega arith)) ∙ rw (drop-drop 64 (64 * k) v, next) (row_part (suc k) 64 v refl h)

-- What a routine on a part makes of the table v, from what it promises of the part. m is the part's length as the borrow checker
-- writes it, `e - a`.
module _ (v : List ℕ) (room : 4096 ≤ length v) (k m : ℕ) (ys : List ℕ) (kept : length ys ≡ length (take m (drop (64 * k) v))) where
  lent : m ≤ 4096 - 64 * k → length ys ≡ m
  lent is = kept ∙ length-take-le m (drop (64 * k) v) (simp length-drop (omega arith))

  -- row k was lent to a routine that makes f of a row
  pub row_put : (f : List ℕ → List ℕ) → k < 64 → m ≡ 64 → ys ≡ f (take m (drop (64 * k) v)) → Rowed v (set (rows_of 64 v) k (f (row_at k v))) (put_mid (64 * k) m v ys)
  row_put f h is got =
      let made : ys ≡ f (row_at k v) = got ∙ ap f (row_part k m v is h) in
      record { rows = rw (← made, is, rows_of_put 64 k v ys h room (lent (omega arith) ∙ is)); past = past_put 4096 (64 * k) m v ys (omega arith) room (lent (omega arith)) }

  module _ (h : suc k < 64) (is : m ≡ 128) where
    -- rows k and k + 1 were lent together, and came back as x and y
    apart : (x y : List ℕ) → length x ≡ 64 → length y ≡ 64 → ys ≡ x ++ y → Rowed v (set (set (rows_of 64 v) k x) (suc k) y) (put_mid (64 * k) m v ys)
    apart x y lx ly got = record { rows = rw (got, is, rows_of_put2 k v x y h room lx ly); past = past_put 4096 (64 * k) m v ys (omega arith) room (lent (omega arith)) }

    twice : (x : List ℕ) → length x ≡ 64 → ys ≡ x ++ x → Rowed v (set (set (rows_of 64 v) k x) (suc k) x) (put_mid (64 * k) m v ys)
    twice x long got = apart x x long long got

    -- the second was copied over the first
    pub row_up : ys ≡ drop 64 (take m (drop (64 * k) v)) ++ drop 64 (take m (drop (64 * k) v)) → Rowed v (set (rows_of 64 v) k (row_at (suc k) v)) (put_mid (64 * k) m v ys)
    unfolding row_at
    row_up got =
        let x = row_at (suc k) v in
        let R = rows_of 64 v in
        let second : drop 64 (take 128 (drop (64 * k) v)) ≡ x = two_second v room k h in
        let stays : get_or (set R k x) (suc k) [] ≡ x = get_or-set_other R k (suc k) x [] (omega arith) in
        let r = twice x (length_row (suc k) v h room) (rw (is, second) at got) in
        record { rows = r.rows ∙ rw stays at (set-get_or (set R k x) (suc k) []); past = r.past }

    -- the first was copied over the second
    pub row_down : ys ≡ take 64 (take m (drop (64 * k) v)) ++ take 64 (take m (drop (64 * k) v)) → Rowed v (set (rows_of 64 v) (suc k) (row_at k v)) (put_mid (64 * k) m v ys)
    unfolding row_at
    row_down got =
        let first : take 64 (take 128 (drop (64 * k) v)) ≡ row_at k v = two_first v room k h in
        let r = twice (row_at k v) (length_row k v (omega arith) room) (rw (is, first) at got) in
        record { rows = r.rows ∙ rw (set-get_or (rows_of 64 v) k []); past = r.past }

-- A table v cut where row k begins: row k is the first 64 of the words behind the cut.
module _ (v : List ℕ) (room : 4096 ≤ length v) (k : ℕ) (front rest : List ℕ) (ahead : front ≡ take (64 * k) v) (behind : rest ≡ drop (64 * k) v) where
  pub row_lent : (row : List ℕ) → k < 64 → row ≡ take 64 rest → row ≡ row_at k v
  row_lent row h is = is ∙ rw behind (row_part k 64 v refl h)

  -- row k was lent to a routine that makes f of a row, and comes back as ys
  pub row_back : (row ys : List ℕ) (f : List ℕ → List ℕ) → k < 64 → row ≡ take 64 rest → ((r : List ℕ) → length r ≡ 64 → length (f r) ≡ 64) → ys ≡ f row
      → Rowed v (set (rows_of 64 v) k (f (row_at k v))) (front ++ (ys ++ drop 64 rest))
  row_back row ys f h is keeps got =
      let made : ys ≡ f (take 64 (drop (64 * k) v)) = rw (is, behind) at got in
      let lent : length (take 64 (drop (64 * k) v)) ≡ 64 = length-take-le 64 (drop (64 * k) v) (simp length-drop (omega arith)) in
      rw (ahead, behind) (row_put v room k 64 ys (rw (made, keeps _ lent) (sym lent)) f h refl made)

  -- row k - 1 is the last 64 of the words before the cut
  pub row_before : (row : List ℕ) (j : ℕ) → k ≡ j + 1 → k ≤ 64 → row ≡ drop (length front - 64) front → row ≡ row_at j v
  row_before row j is h last =
      let long : length front ≡ 64 * k = rw ahead (length-take-le (64 * k) v (omega arith)) in
      let here : length front - 64 ≡ 64 * j = omega arith in
      let far : 64 * k ≡ 64 * j + 64 = omega arith in
      last ∙ rw (here, ahead, far) (drop-take (64 * j) 64 v (omega arith)) ∙ row_part j 64 v refl (omega arith)

  -- the first 128 of the words behind the cut were lent, and come back as ys
  pub row_down_back : (two ys : List ℕ) → suc k < 64 → two ≡ take 128 rest → ys ≡ take 64 two ++ take 64 two → Rowed v (set (rows_of 64 v) (suc k) (row_at k v)) (front ++ (ys ++ drop 128 rest))
  row_down_back two ys h is got =
      let made : ys ≡ take 64 (take 128 (drop (64 * k) v)) ++ take 64 (take 128 (drop (64 * k) v)) = rw (is, behind) at got in
      let lent : length (take 128 (drop (64 * k) v)) ≡ 128 = length-take-le 128 (drop (64 * k) v) (simp length-drop (omega arith)) in
      rw (ahead, behind) (row_down v room k 128 ys (rw made (simp (length-append, length-take, length-drop) (omega arith))) h refl made)
