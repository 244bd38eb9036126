-- `row_lower` lowers row k: the bound on its shares is asked of the row, and the part is the row.
-- The rest is the law `row_back`.
use Rattle.std.proofs.Common.{◌∙◌}
use Rattle.rules.specs.Release.{lower_row}
use Rattle.rules.proofs.Lessened.{less-length}
use Rattle.table.proofs.Rowed.{row_lent, row_back}
use Rattle.table.proofs.row.row_lower.Goals as goal

pub lower-requires-clause-shares_fit : goal.lower-requires-clause-shares_fit
lower-requires-clause-shares_fit c =
    let at = c.args in
    let cut = c.split_at_mut-from in
    let part = rw c.unwrap.ensures at c.first_chunk_mut.ensures.cases in
    rw (row_lent at.shares.now c.requires.share_words_in_bounds at.k cut.result.0.now cut.result.1.now cut.ensures.front cut.ensures.back c.unwrap.result.now c.requires.k_lt_row_count part.same) c.requires.shares_fit

pub returns : goal.returns
unfolding lower_row
returns c =
    let at = c.args in
    let cut = c.split_at_mut-from in
    let part = rw c.unwrap.ensures at c.first_chunk_mut.ensures.cases in
    row_back at.shares.now c.requires.share_words_in_bounds at.k cut.result.0.now cut.result.1.now cut.ensures.front cut.ensures.back c.unwrap.result.now c.lower.new.row (lower_row at.slice at.run) c.requires.k_lt_row_count part.same (λ r h. less-length _ 0 r ∙ h) c.lower.ensures
