-- `show` shows slice 0 from the clock to a tick: its row is the first 64 words, and its window lies within the slice.
-- What the wrap asks of the row is what `Front` says of the words.
use native.Mathlib.Omega.{arith}
use Rattle.wrap.proofs.show.show.Goals as goal

pub segments-requires : goal.segments-requires
segments-requires c =
    let row = (rw c.unwrap-row.ensures at c.first_chunk.ensures.cases).same in
    record {
      laid = rw row c.requires.front.laid;
      shown = omega arith;
      segment_words_in_bounds = omega arith;
      row_bound = rw row c.requires.front.fits;
    }
