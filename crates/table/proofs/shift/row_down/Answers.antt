-- `row_down` copies one of two rows over the other: both are lent as one part.
-- The law `row_down_back` says what such a part makes of the table.
use Rattle.std.proofs.Common.{add-one, arith}
use Rattle.table.proofs.Rowed.{row_down_back}
use Rattle.table.proofs.shift.row_down.Goals as goal

pub returns : goal.returns
returns c =
    let at = c.args in
    let cut = c.split_at_mut-from in
    let part = rw c.unwrap.ensures at c.first_chunk_mut.ensures.cases in
    rw (add-one at.k) (row_down_back at.shares.now c.requires.share_words_in_bounds at.k cut.result.0.now cut.result.1.now cut.ensures.front cut.ensures.back c.unwrap.result.now c.copy_down.new.two (omega arith) part.same c.copy_down.ensures)
