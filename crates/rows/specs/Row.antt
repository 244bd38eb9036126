-- What a sound table asks of a row: 64 shares, beside each slot's deadline in ticks after the plan start, or 0 where no job is
-- pending, and each slot's rate.
use Rattle.std.specs.Prelude.{◌≡◌, ℕ, ◌+◌, ◌≤◌, Bool, true, cond, ◌&&◌, List, [], ◌∷◌, ◌==◌, nat_le, nat_lt}
use Rattle.rules.specs.Station.{slot_count, grains, longest_period, sum}
use Rattle.rows.specs.declared.look.RowFacts.{RowFacts}

-- the highest bit of a word of 32 bits: words below it do not have it
abbrev pub mark : ℕ
mark = 2147483648

-- "each share is at most 1,000 times its slice's length", here `most`, and "zero .. where its slice ends after that job's deadline"
unfoldable pub share_fits : ℕ → ℕ → ℕ → ℕ → Bool
share_fits end most due share = nat_le share (cond (nat_lt due end) 0 most)

unfoldable pub shares_fit : ℕ → ℕ → List ℕ → List ℕ → Bool
shares_fit end most due [] = true
shares_fit end most [] (s ∷ ss) = share_fits end most 0 s && shares_fit end most [] ss
shares_fit end most (d ∷ ds) (s ∷ ss) = share_fits end most d s && shares_fit end most ds ss

-- the rates of the jobs that are due at the end or after it
unfoldable pub owed_in : ℕ → List ℕ → List ℕ → ℕ
owed_in end [] rates = 0
owed_in end (d ∷ ds) [] = 0
owed_in end (d ∷ ds) (r ∷ rs) = cond (nat_le end d) r 0 + owed_in end ds rs

-- how many jobs are due at the end
unfoldable pub hits_in : ℕ → List ℕ → ℕ
hits_in end [] = 0
hits_in end (d ∷ ds) = cond (end == d) 1 0 + hits_in end ds

-- What a look asks: rates whose sum fits a word, and a slice no longer than a period.
pub record Rated (rates : List ℕ) (most : ℕ) : Type 0 where
  pub small : sum rates ≤ 4294967295
  pub short : most ≤ grains longest_period

-- What it hands back. A row that does not fit has no sum: it may have wrapped.
pub record Facts (end most : ℕ) (due rates row : List ℕ) (r : RowFacts) : Type 0 where
  pub fit : r.fits ≡ shares_fit end most due row
  pub sum_is : r.fits ≡ true → r.sum ≡ sum row
  pub owed-is : r.owed ≡ owed_in end due rates
  pub hits_are : r.hits ≡ hits_in end due
  pub small : r.owed ≤ 4294967295
  pub few : r.hits ≤ slot_count
