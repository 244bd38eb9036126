-- What is stored of a line stays its first 64 bytes and its length, as a piece is taken into it.
use mathlib.Core.Path.{◌≡◌, refl, ap, sym, ◌∙◌}
use mathlib.Core.List.{List, [], ◌++◌, append-nil}
use Prim.Native.Nat.{ℕ, suc, ◌+◌, ◌-◌, ◌≤◌, ◌<◌, min}
use native.Mathlib.Nat.{min-eq_left, min-eq_right, add-sub_of_le, le_of_lt}
use native.Mathlib.Omega.{arith}
use lib.Dec.{ltb}
use lib.ListN.{length, take, length-append, length-take}
use lib.Seq.{take_all, take-take, take-append-le, take-append-add, take-paste, length-paste, length-take-le}
use borrow.Author.Tests.{ltb-true, ltb-false}
use Rattle.lines.specs.declared.Filled.{Filled}
use Rattle.lines.specs.Lines.{line_end, head_of, line_bytes, Keeps, Fills}
use Rattle.lines.proofs.Ends.{by_bool, end-within}

-- nothing is kept of a line that has not begun
pub keeps_none : (line : List ℕ) → line_bytes ≤ length line → Keeps line 0 []
keeps_none line room = record { room = room; long = refl; stored = refl }

-- a part's part
take_both : (a b : ℕ) (l : List ℕ) → take a (take b l) ≡ take (min b a) l
take_both a b l =
    by_bool (ltb a b)
    (λ e. let below = ltb-true a b e in rw (take-take a b l (le_of_lt below), min-eq_right (le_of_lt below)))
    (λ e. let above = ltb-false a b e in let short : length (take b l) ≤ a = simp length-take (omega arith) in rw (take_all a (take b l) short, min-eq_left above))

head_length : (piece : List ℕ) → length (head_of piece) ≡ line_end piece
unfolding head_of
head_length piece = length-take-le (line_end piece) piece (end-within piece)

module _ {line : List ℕ} {len : ℕ} {kept : List ℕ} (k : Keeps line len kept) where
  -- the first 64 bytes, where the line has them already
  full : (more : List ℕ) → line_bytes ≤ length kept → take line_bytes (kept ++ more) ≡ take (min len line_bytes) line
  full more past = take-append-le line_bytes kept more past ∙ sym k.stored

  -- and where it has not
  begun : (more : List ℕ) → length kept < line_bytes → take line_bytes (kept ++ more) ≡ take (min len line_bytes) line ++ take (line_bytes - min len line_bytes) more
  begun more short =
      let at : min len line_bytes ≡ length kept = omega (arith, k.long) in
      let whole : take (min len line_bytes) line ≡ kept = k.stored ∙ take_all line_bytes kept (le_of_lt short) in
      rw (whole, at) (ap (λ n. take n (kept ++ more)) (sym (add-sub_of_le (le_of_lt short))) ∙ take-append-add kept more (line_bytes - length kept))

  both : (more : List ℕ) → take line_bytes (kept ++ more) ≡ take (min len line_bytes) line ++ take (line_bytes - min len line_bytes) more
  both more =
      by_bool (ltb (length kept) line_bytes)
      (λ e. begun more (ltb-true _ _ e))
      (λ e. let past : line_bytes ≤ length kept = ltb-false _ _ e in let at : min len line_bytes ≡ line_bytes = omega (arith, k.long) in rw (full more past, at) (sym (append-nil (take line_bytes line))))

  long_filled : {piece : List ℕ} {r : Filled} {after : List ℕ} → Fills line len piece r after → r.len ≡ min (length (kept ++ head_of piece)) (suc line_bytes)
  long_filled f = simp (length-append, head_length) (omega (arith, f.length-is, k.long))

  -- what was kept and a piece's first bytes are kept
  pub keeps_filled : {piece : List ℕ} {r : Filled} {after : List ℕ} → Fills line len piece r after → Keeps after r.len (kept ++ head_of piece)
  unfolding head_of
  keeps_filled {piece} {r} {after} f =
      let at = min len line_bytes in
      let n = min (line_end piece) (line_bytes - at) in
      let inside : n ≤ length piece = omega (arith, end-within piece) in
      let fits : at + n ≤ length line = omega (arith, k.room) in
      let begins : at ≤ length line = omega (arith, k.room) in
      let count : min r.len line_bytes ≡ at + n = omega (arith, f.length-is) in
      record {
        room = rw (f.bytes, length-paste line at piece n fits inside) k.room;
        long = long_filled f;
        stored = rw (count, f.bytes, take-paste line at piece n begins inside, both (head_of piece), take_both (line_bytes - at) (line_end piece) piece);
      }

-- a line of at most 64 bytes is stored whole
pub kept_whole : {line : List ℕ} {len : ℕ} {kept : List ℕ} → Keeps line len kept → len ≤ line_bytes → take len line ≡ kept
kept_whole {line} {len} {kept} k short =
    let all : length kept ≤ line_bytes = omega (arith, k.long) in
    let at : min len line_bytes ≡ len = min-eq_left short in
    (rw at at k.stored) ∙ take_all line_bytes kept all

-- and of a longer one it is known that it is longer
pub kept-long : {line : List ℕ} {len : ℕ} {kept : List ℕ} → Keeps line len kept → line_bytes < len → line_bytes < length kept
kept-long k past = omega (arith, k.long)

-- a line is empty where nothing is kept
pub kept_empty : {line : List ℕ} {len : ℕ} {kept : List ℕ} → Keeps line len kept → len ≡ 0 → length kept ≡ 0
kept_empty k none = omega (arith, k.long)

pub kept-some : {line : List ℕ} {len : ℕ} {kept : List ℕ} → Keeps line len kept → (len ≡ 0 → ⊥) → 0 < length kept
kept-some k some = omega (arith, k.long)
