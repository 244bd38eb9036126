-- Slices as they are held: their boundaries in 64 words with their number, and their rows in the share table.
use Rattle.std.specs.Prelude.{◌≡◌, List, ◌∷◌, ◌++◌, ℕ, zero, suc, ◌+◌, ◌-◌, ◌≤◌, ltb, length, take, drop, get_or, count_by}
use Rattle.rules.specs.Station.{Slice, longest_period, row_count}
use Rattle.rules.specs.Sound.{Each, Rises, Small}
use Rattle.rules.specs.Held.{ends_in}
use Rattle.rules.specs.Words.{rows_of, rows_in, slices_of}

-- the slices that are held
unfoldable pub slices_in : List ℕ → ℕ → List ℕ → List Slice
slices_in ends count words = slices_of (take count ends) (rows_of row_count words)

-- the boundaries, their number and the words hold exactly the slices ss: zeros past the last boundary, zeros past the last row
pub record Planned (ss : List Slice) (ends : List ℕ) (count : ℕ) (words : List ℕ) : Type 0 where
  pub bounds : ends ≡ ends_in row_count ss
  pub number : count ≡ length ss
  pub rows : rows_of row_count words ≡ rows_in row_count ss

-- what the routines ask of the slices ss that begin at lo: no more than rows, rising ends within a period of lo, small shares
pub record Ready (lo : ℕ) (ss : List Slice) : Type 0 where
  pub few : length ss ≤ row_count
  pub rising : Each Rises lo ss
  pub soon : Each (λ l s. s.end ≤ lo + longest_period) lo ss
  pub small : Each Small lo ss

-- how many of some boundaries are before d
unfoldable pub before : ℕ → List ℕ → ℕ
before d ends = count_by (λ end. ltb end d) ends

-- d put in at place k among count boundaries
unfoldable pub put_in : ℕ → ℕ → ℕ → List ℕ → List ℕ
put_in k count d ends = take k ends ++ (d ∷ (take (count - k) (drop k ends) ++ drop (suc count) ends))

-- the first of count boundaries taken out
unfoldable pub taken_out : ℕ → List ℕ → List ℕ
taken_out count ends = take (count - 1) (drop 1 ends) ++ (0 ∷ drop count ends)

-- where the slice at place k begins: at the boundary before it, or at start
unfoldable pub begin_of : ℕ → ℕ → List ℕ → ℕ
begin_of start zero ends = start
begin_of start (suc k) ends = get_or ends k 0
