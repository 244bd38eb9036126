-- `row_clear` makes row k zero: a row that was lent comes back as zeros.
-- Any routine on one row becomes one on the table by the law `row_back`.
use Rattle.std.proofs.Common.{refl}
use Rattle.rules.specs.Station.{zeros}
use Rattle.table.proofs.Rowed.{row_back}
use Rattle.table.proofs.row.row_clear.Goals as goal

pub returns : goal.returns
unfolding zeros
returns c =
    let at = c.args in
    let cut = c.split_at_mut-from in
    let part = rw c.unwrap.ensures at c.first_chunk_mut.ensures.cases in
    row_back at.shares.now c.requires.share_words_in_bounds at.k cut.result.0.now cut.result.1.now cut.ensures.front cut.ensures.back c.unwrap.result.now c.clear.new.row (λ _. zeros) c.requires.k_lt_row_count part.same (λ _ _. refl) c.clear.ensures
