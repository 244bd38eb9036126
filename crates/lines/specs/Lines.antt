-- The lines of a stream of bytes: document 01, 'The drill program'.
use Rattle.std.specs.Prelude.{◌≡◌, cond, List, [], ◌∷◌, ◌++◌, ℕ, suc, ◌+◌, ◌-◌, ◌≤◌, min, eqb, ltb, length, take}
use Rattle.std.proofs.Math.Seq.{paste}
use Rattle.lines.specs.declared.Filled.{Filled}

-- the byte that ends a line, and no other does
abbrev pub newline : ℕ
newline = 10

-- "a line over 64 bytes is malformed", so no more of a line is stored
abbrev pub line_bytes : ℕ
line_bytes = 64

-- "A last line without its newline counts": what stands after the last newline, where that is not empty
unfoldable pub last_line : List ℕ → List (List ℕ)
last_line [] = []
last_line (k ∷ ks) = (k ∷ ks) ∷ []

-- the lines of a stream, of whose first line some bytes are there already
unfoldable pub lines_from : List ℕ → List ℕ → List (List ℕ)
lines_from kept [] = last_line kept
lines_from kept (b ∷ bs) = cond (eqb b newline) (kept ∷ lines_from [] bs) (lines_from (kept ++ (b ∷ [])) bs)

-- the lines of a stream
unfoldable pub lines_of : List ℕ → List (List ℕ)
lines_of stream = lines_from [] stream

-- how many bytes of a piece stand before its first newline, or in all of it
unfoldable pub line_end : List ℕ → ℕ
line_end [] = 0
line_end (b ∷ bs) = cond (eqb b newline) 0 (suc (line_end bs))

-- those bytes
unfoldable pub head_of : List ℕ → List ℕ
head_of piece = take (line_end piece) piece

-- how many bytes of a piece go with its first line: the newline too, where there is one
unfoldable pub taken : List ℕ → ℕ
taken piece = min (suc (line_end piece)) (length piece)

-- What is stored of an unfinished line: its first 64 bytes, and its length up to 65.
pub record Keeps (line : List ℕ) (len : ℕ) (kept : List ℕ) : Type 0 where
  pub room : line_bytes ≤ length line
  pub long : len ≡ min (length kept) (suc line_bytes)
  pub stored : take (min len line_bytes) line ≡ take line_bytes kept

-- The bytes of a piece up to its first newline go behind the first len bytes of a line, as far as 64 have room.
pub record Fills (line : List ℕ) (len : ℕ) (piece : List ℕ) (r : Filled) (after : List ℕ) : Type 0 where
  pub length-is : r.len ≡ min (len + line_end piece) (suc line_bytes)
  pub used : r.used ≡ taken piece
  pub ended : r.ended ≡ ltb (line_end piece) (length piece)
  pub bytes : after ≡ paste line (min len line_bytes) piece (min (line_end piece) (line_bytes - min len line_bytes))
