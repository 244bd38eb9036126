-- `row_first` makes the first part of a cut of row k, in its place.
-- By the law `row_back`.
use Rattle.std.proofs.Common.{◌∙◌}
use Rattle.rules.specs.Slices.{first_part, first_to}
use Rattle.rules.proofs.Relaid.{relaid-length}
use Rattle.table.proofs.Rowed.{row_back}
use Rattle.table.proofs.cut.row_first.Goals as goal

pub returns : goal.returns
unfolding first_part
returns c =
    let at = c.args in
    let cut = c.split_at_mut-from in
    let part = rw c.unwrap.ensures at c.first_chunk_mut.ensures.cases in
    row_back at.shares.now c.requires.share_words_in_bounds at.k cut.result.0.now cut.result.1.now cut.ensures.front cut.ensures.back c.unwrap.result.now c.cut_first.new.row (first_part at.part at.span) c.requires.k_lt_row_count part.same (λ r h. relaid-length (first_to at.part at.span) 0 r ∙ h) c.cut_first.ensures
