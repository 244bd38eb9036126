-- One row of the table, by its words.
use Rattle.std.specs.Prelude.{List, ℕ, set}
use Rattle.rules.specs.Station.{row_count}
use Rattle.rules.specs.Words.{rows_of, Rowed}

-- the words w become v: row k is `row`, and the others are as they were
abbrev pub RowSet : List ℕ → ℕ → List ℕ → List ℕ → Type 0
RowSet w k row v = Rowed w (set (rows_of row_count w) k row) v
