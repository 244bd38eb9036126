-- Rows of zeros: a row is zero exactly if its words add up to 0, so rows are zero exactly if all their words add up to 0.
-- Sums of parts add up, and a sum is 0 only where both its parts are.
use mathlib.Core.Logic.{◌↔◌}
use mathlib.Core.Path.{◌≡◌, refl, ap}
use mathlib.Core.List.{List, [], ◌∷◌, ◌++◌, append_assoc}
use Prim.Native.Nat.{ℕ, zero, suc, ◌+◌, ◌-◌, ◌*◌, ◌<◌, ◌≤◌, suc-le-suc}
use native.Mathlib.Nat.{not-suc-le-zero, le_of_suc-le-suc, add-sub_of_le}
use native.Mathlib.Omega.{arith}
use lib.ListN.{length, take, drop, get_or, replicate, length-take, length-drop}
use lib.Seq.{take-add, drop-drop, length-take-le}
use Rattle.std.proofs.lemmas.List.{replicate-append-replicate}
use Rattle.rules.specs.Station.{sum, zeros}
use Rattle.rules.specs.Words.{rows_of, rows_in}
use Rattle.table.proofs.Rowed.{drop-take, rows_of_at, first_row}

pub length-rows_in : (n : ℕ) → length (rows_in n []) ≡ n
unfolding rows_in
length-rows_in zero = refl
length-rows_in (suc n) = ap suc (length-rows_in n)

pub rows_in_at : (n i : ℕ) → i < n → get_or (rows_in n []) i [] ≡ zeros
unfolding rows_in
rows_in_at zero i h = absurd (not-suc-le-zero h)
rows_in_at (suc n) zero h = refl
rows_in_at (suc n) (suc i) h = rows_in_at n i (le_of_suc-le-suc h)

-- words that are all 0 are rows of zeros
pub zero_words_rows : (n : ℕ) (past : List ℕ) → rows_of n (replicate (64 * n) 0 ++ past) ≡ rows_in n []
unfolding rows_of rows_in zeros
zero_words_rows zero past = refl
zero_words_rows (suc n) past =
    let next : 64 * suc n ≡ 64 + 64 * n = omega arith in
    rw (next, ← (replicate-append-replicate {A = ℕ} 64 (64 * n) 0), append_assoc, first_row n (replicate 64 0) (replicate (64 * n) 0 ++ past) refl) (ap (λ rs. replicate 64 0 ∷ rs) (zero_words_rows n past))

sum-append : (a b : List ℕ) → sum (a ++ b) ≡ sum a + sum b
unfolding sum
sum-append [] b = omega arith
sum-append (s ∷ ss) b = omega (arith, sum-append ss b)

-- a part has as many words as lie between its ends
pub part_long : (a q e : ℕ) (words : List ℕ) → a + q ≡ e → e ≤ length words → length (take (e - a) (drop a words)) ≡ q
part_long a q e words is room = simp (length-take, length-drop) (omega arith)

-- a part from a to e, cut at b, and cut in four
part_sum : (a b e : ℕ) (words : List ℕ) → a ≤ b → b ≤ e → sum (take (e - a) (drop a words)) ≡ sum (take (b - a) (drop a words)) + sum (take (e - b) (drop b words))
part_sum a b e words first second =
    let long : e - a ≡ b - a + (e - b) = omega arith in
    let later : drop (b - a) (drop a words) ≡ drop b words = rw (drop-drop (b - a) a words, add-sub_of_le first) in
    rw (long, take-add (b - a) (e - b) (drop a words), later) (sum-append (take (b - a) (drop a words)) (take (e - b) (drop b words)))

pub four_sums : (a b c d e : ℕ) (words : List ℕ) → a ≤ b → b ≤ c → c ≤ d → d ≤ e
    → sum (take (e - a) (drop a words)) ≡ sum (take (b - a) (drop a words)) + sum (take (c - b) (drop b words)) + (sum (take (d - c) (drop c words)) + sum (take (e - d) (drop d words)))
four_sums a b c d e words h i j k =
    let one = part_sum a b e words h (omega arith) in
    let two = part_sum b c e words i (omega arith) in
    let three = part_sum c d e words j k in
    omega arith

zero_words : (words : List ℕ) → sum words ≡ 0 → words ≡ replicate (length words) 0
unfolding sum
zero_words [] h = refl
zero_words (s ∷ ss) h =
    let none : s ≡ 0 = omega arith in
    let rest : sum ss ≡ 0 = omega arith in
    rw none (ap (λ l. 0 ∷ l) (zero_words ss rest))

sum_none : (n : ℕ) → sum (replicate n 0) ≡ 0
unfolding sum
sum_none zero = refl
sum_none (suc n) = omega (arith, sum_none n)

zero_row : (row : List ℕ) → length row ≡ 64 → (sum row ≡ 0) ↔ (row ≡ zeros)
unfolding zeros
zero_row row long = (λ h. rw long at (zero_words row h), λ h. rw h (sum_none 64))

-- the first m rows of some words are zero
abbrev Zero : ℕ → List ℕ → Type 0
Zero m w = (i : ℕ) → i < m → take 64 (drop (64 * i) w) ≡ zeros

row_later : (i : ℕ) (w : List ℕ) → drop (64 * i) (drop 64 w) ≡ drop (64 * suc i) w
row_later i w = let next : 64 + 64 * i ≡ 64 * suc i = omega arith in rw (drop-drop (64 * i) 64 w, next)

zero_more : (m : ℕ) (w : List ℕ) → take 64 w ≡ zeros → Zero m (drop 64 w) → Zero (suc m) w
zero_more m w first later zero l = first
zero_more m w first later (suc i) l = rw (row_later i w) at (later i (le_of_suc-le-suc l))

first_rows : (m : ℕ) (w : List ℕ) → 64 * m ≤ length w → (sum (take (64 * m) w) ≡ 0) ↔ Zero m w
unfolding sum
first_rows zero w room = (λ h i l. absurd (not-suc-le-zero l), λ h. refl)
first_rows (suc m) w room =
    let next : 64 * suc m ≡ 64 + 64 * m = omega arith in
    let both : sum (take (64 * suc m) w) ≡ sum (take 64 w) + sum (take (64 * m) (drop 64 w)) =
    rw (next, take-add 64 (64 * m) w) (sum-append (take 64 w) (take (64 * m) (drop 64 w))) in
    let first = zero_row (take 64 w) (length-take-le 64 w (omega arith)) in
    let later = first_rows m (drop 64 w) (simp length-drop (omega arith)) in
    (λ h. zero_more m w (first.0 (omega arith)) (later.0 (omega arith)), λ z. omega (arith, both, first.1 (z 0 (omega arith)), later.1 (λ i l. rw (row_later i w) (z (suc i) (suc-le-suc l)))))

-- What `rows_zero` answers: the rows from n on are zero.
pub zero_rows : (n : ℕ) (w : List ℕ) → 4096 ≤ length w → n ≤ 64
    → (sum (drop (64 * n) (take 4096 w)) ≡ 0) ↔ ((i : ℕ) → n ≤ i → i < 64 → get_or (rows_of 64 w) i [] ≡ zeros)
zero_rows n w room h =
    (λ z i le l. rw (rows_of_at 64 i w l) (rw (far (i - n), add-sub_of_le le) at (rows.0 (rw part at z) (i - n) (omega arith))), λ z. rw part (rows.1 (λ j l. rw (far j, ← (rows_of_at 64 (n + j) w (omega arith))) (z (n + j) (omega arith) (omega arith)))))
  where
    rows : (sum (take (64 * (64 - n)) (drop (64 * n) w)) ≡ 0) ↔ Zero (64 - n) (drop (64 * n) w)
    rows = first_rows (64 - n) (drop (64 * n) w) (simp length-drop (omega arith))

    part : drop (64 * n) (take 4096 w) ≡ take (64 * (64 - n)) (drop (64 * n) w)
    part = let whole : 64 * n + 64 * (64 - n) ≡ 4096 = omega arith in rw whole at (drop-take (64 * n) (64 * (64 - n)) w (omega arith))

    far : (j : ℕ) → drop (64 * j) (drop (64 * n) w) ≡ drop (64 * (n + j)) w
    far j = let on : 64 * n + 64 * j ≡ 64 * (n + j) = omega arith in rw (drop-drop (64 * j) (64 * n) w, on)
