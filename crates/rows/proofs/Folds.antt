-- Loops that read words one by one and keep a running value: what is left to read, from place i on, loses one word a turn.
-- Each law is the definition's own clause, at `drop i`.
use Rattle.std.proofs.Common.{◌≡◌, ℕ, ◌+◌, ◌*◌, ◌<◌, ◌≤◌, true, cond, ◌&&◌, eqb, leb, List, [], ◌∷◌, length, get_or, drop, mul-suc, add-one, arith, drop_of_length-le, drop-cons, le-ltb, lt-ltb, leb-true}
use mathlib.Core.Bool.{and-eq-true_iff}
use Rattle.rules.specs.Station.{sum}
use Rattle.rules.proofs.Floor.{by_lt}
use Rattle.rows.specs.Row.{share_fits, shares_fit, owed_in, hits_in}

pub sum-next : (words : List ℕ) (i : ℕ) → i < length words → sum (drop i words) ≡ get_or words i 0 + sum (drop (i + 1) words)
unfolding sum
sum-next words i h = rw (add-one, drop-cons words i 0)

pub sum_done : (words : List ℕ) (i : ℕ) → length words ≤ i → sum (drop i words) ≡ 0
unfolding sum
sum_done words i h = rw (drop_of_length-le words h)

-- whether each share fits
pub fits_next : (end most : ℕ) (due row : List ℕ) (i : ℕ) → i < length due → i < length row
    → shares_fit end most (drop i due) (drop i row) ≡ (share_fits end most (get_or due i 0) (get_or row i 0) && shares_fit end most (drop (i + 1) due) (drop (i + 1) row))
unfolding shares_fit
fits_next end most due row i d h = rw (add-one, drop-cons row i 0 h, drop-cons due i 0 d)

pub fits-done : (end most : ℕ) (due row : List ℕ) (i : ℕ) → length row ≤ i → shares_fit end most (drop i due) (drop i row) ≡ true
unfolding shares_fit
fits-done end most due row i h = rw (drop_of_length-le row h)

fit_small : (end most due share : ℕ) → share_fits end most due share ≡ true → share ≤ most
unfolding share_fits
fit_small end most due share h =
    by_lt due end
    (λ l. let is : leb share 0 ≡ true = rw (lt-ltb due end l) at h in omega (arith, leb-true share 0 is))
    (λ g. let is : leb share most ≡ true = rw (le-ltb due end g) at h in leb-true share most is)

pub fits_sum : (end most : ℕ) (due row : List ℕ) → shares_fit end most due row ≡ true → sum row ≤ most * length row
unfolding shares_fit sum
fits_sum end most [] [] h = omega arith
fits_sum end most (d ∷ ds) [] h = omega arith
fits_sum end most [] (s ∷ ss) h =
    let both = (and-eq-true_iff (share_fits end most 0 s) _).0 h in
    let small = fit_small end most 0 s both.0 in
    let rest = fits_sum end most [] ss both.1 in
    rw mul-suc (omega arith)
fits_sum end most (d ∷ ds) (s ∷ ss) h =
    let both = (and-eq-true_iff (share_fits end most d s) _).0 h in
    let small = fit_small end most d s both.0 in
    let rest = fits_sum end most ds ss both.1 in
    rw mul-suc (omega arith)

-- what is owed, and what is due at the end
pub owed-next : (end : ℕ) (due rates : List ℕ) (i : ℕ) → i < length due → i < length rates
    → owed_in end (drop i due) (drop i rates) ≡ cond (leb end (get_or due i 0)) (get_or rates i 0) 0 + owed_in end (drop (i + 1) due) (drop (i + 1) rates)
unfolding owed_in
owed-next end due rates i d r = rw (add-one, drop-cons rates i 0 r, drop-cons due i 0 d)

pub owed-done : (end : ℕ) (due rates : List ℕ) (i : ℕ) → length due ≤ i → owed_in end (drop i due) (drop i rates) ≡ 0
unfolding owed_in
owed-done end due rates i h = rw (drop_of_length-le due h)

pub hits_next : (end : ℕ) (due : List ℕ) (i : ℕ) → i < length due → hits_in end (drop i due) ≡ cond (eqb end (get_or due i 0)) 1 0 + hits_in end (drop (i + 1) due)
unfolding hits_in
hits_next end due i h = rw (add-one, drop-cons due i 0)

pub hits_done : (end : ℕ) (due : List ℕ) (i : ℕ) → length due ≤ i → hits_in end (drop i due) ≡ 0
unfolding hits_in
hits_done end due i h = rw (drop_of_length-le due h)
