-- The word of the slots in use: its lowest clear bit is the lowest free slot, its ones are the slots in use, and a task set in a slot
-- sets or clears that bit. By induction along the tasks, as the word is a digit and twice the rest.
use mathlib.Core.Path.{◌≡◌, refl, ◌∙◌}
use mathlib.Core.Bool.{Bool, true, false}
use mathlib.Core.List.{List, [], ◌∷◌}
use Prim.Native.Nat.{ℕ, zero, suc, ◌+◌, ◌-◌, ◌*◌, ◌/◌, ◌%◌, ◌^◌, ◌≤◌, ◌<◌}
use native.Mathlib.Nat.{one-mul, mod-eq_of_lt, pow-suc, not-suc-le-zero, le_of_suc-le-suc}
use native.Mathlib.Omega.{arith}
use lib.Pow.{pow-lt}
use lib.Count.{count_trailing_zeros, ones, ones_step, ones-le}
use lib.ListN.{length, get_or, set, drop, drop_of_length-le}
use lib.Seq.{drop-cons}
use native.Mathlib.Numerals.{add-one}
use lib.Dec.{eqb}
use Rattle.rules.specs.declared.Task.{Task}
use Rattle.rules.specs.Station.{free, in_use, with_deadline, rates}
use Rattle.rules.specs.Advance.{ended}
use Rattle.rules.specs.Calls.{lowest_free}
use Rattle.rules.specs.Held.{flag, used_of}
use Rattle.rules.proofs.Floor.{by_bool}

pub flag-most : (b : Bool) → flag b ≤ 1
unfolding flag
flag-most true = omega arith
flag-most false = omega arith

pub used-fits : (ks : List Task) → used_of ks < 2 ^ length ks
unfolding used_of
used-fits [] = omega arith
used-fits (k ∷ ks) = omega (arith, flag-most (in_use k), used-fits ks, pow-suc 2 (length ks))

pub flag_yes : (b : Bool) → b ≡ true → flag b ≡ 1
unfolding flag
flag_yes b e = rw e

pub flag_no : (b : Bool) → b ≡ false → flag b ≡ 0
unfolding flag
flag_no b e = rw e

-- the zeros at the low end of the complement
pub lowest_bit : (ks : List Task) → count_trailing_zeros (length ks) (2 ^ length ks - 1 - used_of ks) ≡ lowest_free ks
unfolding count_trailing_zeros used_of lowest_free
lowest_bit [] = refl
lowest_bit (k ∷ ks) =
    let pow = pow-suc 2 (length ks) in
    let fits = used-fits ks in
    let most = flag-most (in_use k) in
    let half : (2 ^ suc (length ks) - 1 - (flag (in_use k) + 2 * used_of ks)) / 2 ≡ 2 ^ length ks - 1 - used_of ks = omega arith in
    let rest = lowest_bit ks in
    by_bool (in_use k)
    (λ e. let low : (2 ^ suc (length ks) - 1 - (flag (in_use k) + 2 * used_of ks)) % 2 ≡ 0 = omega (arith, flag_yes (in_use k) e) in rw (low, half, rest, e))
    (λ e. let low : (2 ^ suc (length ks) - 1 - (flag (in_use k) + 2 * used_of ks)) % 2 ≡ 1 = omega (arith, flag_no (in_use k) e) in rw (low, e))

ones_used : (k : Task) (ks : List Task) → ones (used_of (k ∷ ks)) ≡ flag (in_use k) + ones (used_of ks)
unfolding used_of
ones_used k ks =
    let most = flag-most (in_use k) in
    let low : (flag (in_use k) + 2 * used_of ks) % 2 ≡ flag (in_use k) = omega arith in
    let half : (flag (in_use k) + 2 * used_of ks) / 2 ≡ used_of ks = omega arith in
    ones_step (flag (in_use k) + 2 * used_of ks) ∙ rw (low, half)

-- as many bits are set as slots are in use, so all are where no slot is free
pub all-used : (ks : List Task) → lowest_free ks ≡ length ks → ones (used_of ks) ≡ length ks
unfolding lowest_free
all-used [] h = omega (arith, ones-le 0 (used_of []) (used-fits []))
all-used (k ∷ ks) h =
    by_bool (in_use k)
    (λ e. let h' : suc (lowest_free ks) ≡ suc (length ks) = rw e at h in omega (arith, ones_used k ks, flag_yes (in_use k) e, all-used ks (omega arith)))
    (λ e. let h' : 0 ≡ suc (length ks) = rw e at h in omega arith)

pub used_all : (ks : List Task) → ones (used_of ks) ≡ length ks → lowest_free ks ≡ length ks
unfolding lowest_free
used_all [] h = refl
used_all (k ∷ ks) h =
    let most = ones-le (length ks) (used_of ks) (used-fits ks) in
    let both = ones_used k ks in
    by_bool (in_use k)
    (λ e. rw e (omega (arith, flag_yes (in_use k) e, used_all ks (omega (arith, flag_yes (in_use k) e)))))
    (λ e. omega (arith, flag_no (in_use k) e))

-- a task set in a slot
pub used-set : (ks : List Task) (i : ℕ) (k : Task) → i < length ks → used_of (set ks i k) + flag (in_use (get_or ks i free)) * 2 ^ i ≡ used_of ks + flag (in_use k) * 2 ^ i
unfolding used_of
used-set [] i k h = absurd (not-suc-le-zero h)
used-set (j ∷ js) zero k h = omega arith
used-set (j ∷ js) (suc i) k h = rw (pow-suc 2 i) (omega (arith, used-set js i k (le_of_suc-le-suc h)))

-- jobs that end keep their slots
pub used-ended : (d : ℕ) (ks : List Task) → used_of (ended d ks) ≡ used_of ks
unfolding used_of ended in_use with_deadline
used-ended d [] = refl
used-ended d (k ∷ ks) = rw (used-ended d ks) (by_bool (eqb k.deadline d) (λ e. rw e) (λ e. rw e))

-- a shifted 1, as the code has it
pub shifted_one : (k i : ℕ) → i < k → 1 * 2 ^ i % 2 ^ k ≡ 2 ^ i
shifted_one k i h = rw (one-mul, mod-eq_of_lt (pow-lt h))

-- the rates of the tasks from i on
pub rates-next : (ks : List Task) (i : ℕ) → i < length ks → rates (drop i ks) ≡ (get_or ks i free).rate + rates (drop (i + 1) ks)
unfolding rates
rates-next ks i h = rw (add-one, drop-cons ks i free h)

pub rates-done : (ks : List Task) (i : ℕ) → length ks ≤ i → rates (drop i ks) ≡ 0
unfolding rates
rates-done ks i h = rw (drop_of_length-le ks h)
