-- How many cores a slot holds in one grain, and in so many grains, counted on the line: the places of column x before y are what `front`
-- grows by from x to x + 1. So the grains that a slot holds, one by one, are what it has run by the wrap.
use mathlib.Core.Path.{◌≡◌, refl}
use mathlib.Core.Bool.{cond}
use mathlib.Core.List.{List, [], ◌∷◌}
use Prim.Native.Nat.{ℕ, zero, suc, ◌+◌, ◌*◌, ◌/◌, ◌%◌, ◌≤◌, ◌<◌, min}
use native.Mathlib.Nat.{zero-add, add-zero, add_assoc, add-suc, mul-le-mul_right}
use native.Mathlib.Numerals.{add-one}
use native.Mathlib.Omega.{arith}
use lib.Dec.{ltb, eqb}
use lib.ListN.{get_or, take}
use lib.Seq.{take-nil}
use borrow.Author.Tests.{lt-ltb, le-ltb, eq-eqb, ne_eqb}
use Rattle.rules.specs.Station.{sum}
use Rattle.rules.specs.Wrap.{Segment, has_run}
use Rattle.rules.specs.History.{held_at}
use Rattle.rules.proofs.Floor.{at_scale, parts, by_lt}
use Rattle.rules.proofs.Relaid.{relaid_at}
use Rattle.rules.proofs.Front.{front, front_halves}
use Rattle.rules.proofs.Wrap.{ran_front}
use Rattle.history.specs.Jobs.{held_by, cores_held, grains_in}
use Rattle.history.proofs.Line.{line_at, line_cases, line_place}

-- 1 where place p comes before y
unfoldable past : ℕ → ℕ → ℕ
past p y = cond (ltb p y) 1 0

past_yes : (p y : ℕ) → p < y → past p y ≡ 1
unfolding past
past_yes p y h = rw lt-ltb

past_no : (p y : ℕ) → y ≤ p → past p y ≡ 0
unfolding past
past_no p y h = rw le-ltb

-- 1 where the holder n is slot k
unfoldable mark : ℕ → ℕ → ℕ
mark k n = cond (eqb n (suc k)) 1 0

mark_yes : (k n : ℕ) → n ≡ suc k → mark k n ≡ 1
unfolding mark
mark_yes k n e = rw (eq-eqb n (suc k) e)

mark_no_lem : (k n : ℕ) → (n ≡ suc k → ⊥) → mark k n ≡ 0
unfolding mark
mark_no_lem k n ne = rw (ne_eqb n (suc k) ne)

-- slot i has the place where it lies between the ends of its stretch
line-mark : (p slot e i : ℕ) (row : List ℕ) → e ≤ p → mark (slot + i) (line_at p slot e row) + past p (e + sum (take i row)) ≡ past p (e + sum (take (suc i) row))
unfolding sum line_at
line-mark p slot e i [] from = simp take-nil (omega (arith, mark_no_lem (slot + i) 0 (λ q. omega arith)))
line-mark p slot e zero (s ∷ ss) from =
    line_cases (λ n. mark (slot + 0) n + past p (e + 0) ≡ past p (e + (s + 0))) p slot e s ss
    (λ l. omega (arith, mark_yes (slot + 0) (suc slot) (omega arith), past_no p (e + 0) (omega arith), past_yes p (e + (s + 0)) (omega arith)))
    (λ g. omega (
      arith,
      past_no p (e + 0) (omega arith),
      past_no p (e + (s + 0)) (omega arith),
      mark_no_lem (slot + 0) (line_at p (suc slot) (e + s) ss) (λ q. omega (arith, line_place p (suc slot) (e + s) (slot + 0) ss g q)),
    ))
line-mark p slot e (suc i) (s ∷ ss) from =
    line_cases (λ n. mark (slot + suc i) n + past p (e + (s + sum (take i ss))) ≡ past p (e + (s + sum (take (suc i) ss)))) p slot e s ss
    (λ l. omega (arith, mark_no_lem (slot + suc i) (suc slot) (λ q. omega arith), past_yes p (e + (s + sum (take i ss))) (omega arith), past_yes p (e + (s + sum (take (suc i) ss))) (omega arith)))
    (λ g. let next : slot + suc i ≡ suc slot + i = omega arith in
    rw (next, ← add_assoc e s (sum (take i ss)), ← add_assoc e s (sum (take (suc i) ss))) (line-mark p (suc slot) (e + s) i ss g))

-- the places of column x before y, on so many cores
unfoldable column : ℕ → ℕ → ℕ → ℕ → ℕ
column T x y zero = 0
column T x y (suc q) = column T x y q + past (q * T + x) y

module _ {T : ℕ} (some : 0 < T) (x : ℕ) (inside : x < T) where
  -- the cores on which column x comes before y
  unfoldable cores_to : ℕ → ℕ
  cores_to y = y / T + past x (y % T)

  past-cores : (q y : ℕ) → past (q * T + x) y ≡ past q (cores_to y)
  unfolding cores_to
  past-cores q y =
      let line = parts y some in
      by_lt x (y % T)
      (λ l. let one = past_yes x (y % T) l in
      by_lt q (y / T + 1)
      (λ h. let up : q * T ≤ y / T * T = mul-le-mul_right T (omega arith) in omega (arith, past_yes (q * T + x) y (omega arith), past_yes q (y / T + past x (y % T)) (omega arith)))
      (λ h. let up : (y / T + 1) * T ≤ q * T = mul-le-mul_right T h in omega (arith, past_no (q * T + x) y (omega arith), past_no q (y / T + past x (y % T)) (omega arith))))
      (λ g. let none = past_no x (y % T) g in
      by_lt q (y / T)
      (λ h. let up : (q + 1) * T ≤ y / T * T = mul-le-mul_right T (omega arith) in omega (arith, past_yes (q * T + x) y (omega arith), past_yes q (y / T + past x (y % T)) (omega arith)))
      (λ h. let up : y / T * T ≤ q * T = mul-le-mul_right T h in omega (arith, past_no (q * T + x) y (omega arith), past_no q (y / T + past x (y % T)) (omega arith))))

  column_cores : (y n : ℕ) → column T x y n ≡ min n (cores_to y)
  unfolding column
  column_cores y zero = omega arith
  column_cores y (suc n) =
      let step = past-cores n y in
      by_lt n (cores_to y)
      (λ l. omega (arith, column_cores y n, past_yes n (cores_to y) l))
      (λ g. omega (arith, column_cores y n, past_no n (cores_to y) g))

  cores_front : (y : ℕ) → front T x y + cores_to y ≡ front T (x + 1) y
  unfolding front cores_to
  cores_front y =
      by_lt x (y % T)
      (λ l. omega (arith, past_yes x (y % T) l))
      (λ g. omega (arith, past_no x (y % T) g))

  cores-most : (y n : ℕ) → y ≤ n * T → cores_to y ≤ n
  unfolding cores_to
  cores-most y n fits =
      let line = parts y some in
      by_lt x (y % T)
      (λ l. at_scale T (rw (past_yes x (y % T) l) (omega arith)))
      (λ g. at_scale T (rw (past_no x (y % T) g) (omega arith)))

  column_front : (y n : ℕ) → y ≤ n * T → front T x y + column T x y n ≡ front T (x + 1) y
  column_front y n fits = omega (arith, column_cores y n, cores-most y n fits, cores_front y)

-- sums of the first shares rise
take_up : (i : ℕ) (row : List ℕ) → sum (take i row) ≤ sum (take (suc i) row)
unfolding sum
take_up i [] = simp take-nil (omega arith)
take_up zero (s ∷ ss) = omega arith
take_up (suc i) (s ∷ ss) = omega (arith, take_up i ss)

take-most : (i : ℕ) (row : List ℕ) → sum (take i row) ≤ sum row
unfolding sum
take-most i [] = simp take-nil (omega arith)
take-most zero (s ∷ ss) = omega arith
take-most (suc i) (s ∷ ss) = omega (arith, take-most i ss)

-- Segments that hold, x grains into the slice, what the line says.
module _ {T : ℕ} (some : 0 < T) (row : List ℕ) (segments : List Segment) (k : ℕ) where
  abbrev pub AsLaid : ℕ → ℕ → Type 0
  AsLaid grain x = (q : ℕ) → held_at segments q grain ≡ line_at (q * T + x) 0 0 row

  cores_column : (grain x : ℕ) → AsLaid grain x → (n : ℕ) → cores_held segments k grain n + column T x (sum (take k row)) n ≡ column T x (sum (take (suc k) row)) n
  unfolding cores_held held_by column mark
  cores_column grain x laid zero = refl
  cores_column grain x laid (suc n) =
      rw (laid n) (omega (arith, cores_column grain x laid n, rw (zero-add k, zero-add (sum (take k row)), zero-add (sum (take (suc k) row))) at (line-mark (n * T + x) 0 0 k row (omega arith))))

  module _ (small : (j : ℕ) → get_or row j 0 ≤ T) (fits : sum row ≤ 16 * T) where
    -- the cores of one grain are what the slot runs in it
    cores_run : (grain x : ℕ) → x < T → AsLaid grain x → cores_held segments k grain 16 + has_run T x row k ≡ has_run T (x + 1) row k
    cores_run grain x inside laid =
        let y = sum (take k row) in
        let z = sum (take (suc k) row) in
        rw (ran_front some x (omega arith) row small k, ran_front some (x + 1) (omega arith) row small k, relaid_at (front T x) 0 k row, relaid_at (front T (x + 1)) 0 k row, zero-add y, zero-add z)
        (omega (
          arith,
          cores_column grain x laid 16,
          column_front some x inside y 16 (omega (arith, take-most k row)),
          column_front some x inside z 16 (omega (arith, take-most (suc k) row)),
          (front_halves some x (omega arith)).first y z (take_up k row),
        ))

    pub grains_run : (from x n : ℕ) → x + n ≤ T → ((j : ℕ) → j < n → AsLaid (from + j) (x + j)) → grains_in segments k from n + has_run T x row k ≡ has_run T (x + n) row k
    unfolding grains_in
    grains_run from x zero within laid = rw (add-zero x) (omega arith)
    grains_run from x (suc n) within laid =
        rw (add-suc x n, ← add-one (x + n))
        (omega (arith, grains_run from x n (omega arith) (λ j l. laid j (omega arith)), cores_run (from + n) (x + n) (omega arith) (laid n (omega arith))))
