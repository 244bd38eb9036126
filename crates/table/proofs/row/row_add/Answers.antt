-- `row_add` raises one share of row k: what the sum needs to fit is asked of the row, and the part is the row.
-- The rest is the law `row_back`.
use Rattle.std.proofs.Common.{◌+◌, get_or, set, length-set, ◌∙◌}
use Rattle.table.proofs.Rowed.{row_lent, row_back}
use Rattle.table.proofs.row.row_add.Goals as goal

pub add-requires-clause-grains_bound : goal.add-requires-clause-grains_bound
add-requires-clause-grains_bound c =
    let at = c.args in
    let cut = c.split_at_mut-from in
    let part = rw c.unwrap.ensures at c.first_chunk_mut.ensures.cases in
    rw (row_lent at.shares.now c.requires.share_words_in_bounds at.k cut.result.0.now cut.result.1.now cut.ensures.front cut.ensures.back c.unwrap.result.now c.requires.k_lt_row_count part.same) c.requires.grains_bound

pub returns : goal.returns
returns c =
    let at = c.args in
    let cut = c.split_at_mut-from in
    let part = rw c.unwrap.ensures at c.first_chunk_mut.ensures.cases in
    row_back at.shares.now c.requires.share_words_in_bounds at.k cut.result.0.now cut.result.1.now cut.ensures.front cut.ensures.back c.unwrap.result.now c.add.new.row (λ row. set row at.slot (get_or row at.slot 0 + at.grains)) c.requires.k_lt_row_count part.same (λ r h. length-set r at.slot _ ∙ h) c.add.ensures
