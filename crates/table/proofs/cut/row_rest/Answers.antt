-- `row_rest` cuts the table where row k + 1 begins: row k lies before the cut, and is taken from the row behind it.
-- By the laws `row_before` and `row_back`.
use Rattle.std.proofs.Common.{ℕ, List, ◌+◌, get_or, arith, refl, ◌∙◌}
use Rattle.rules.specs.Slices.{less}
use Rattle.rules.specs.Words.{row_at}
use Rattle.rules.proofs.Lessened.{less-length}
use Rattle.table.proofs.Rowed.{row_lent, row_before, row_back}
use Rattle.table.proofs.cut.row_rest.Goals as goal

pub cut_rest-requires : goal.cut_rest-requires
cut_rest-requires c =
    let at = c.args in
    let v = at.shares.now in
    let room = c.requires.share_words_in_bounds in
    let cut = c.split_at_mut-to in
    let before = rw c.unwrap.ensures at c.last_chunk.ensures.cases in
    let behind = rw c.unwrap-2.ensures at c.first_chunk_mut.ensures.cases in
    let first = row_before v room (at.k + 1) cut.result.0.now cut.result.1.now cut.ensures.front cut.ensures.back c.unwrap.result.now at.k refl (omega arith) before.1.same in
    let whole = row_lent v room (at.k + 1) cut.result.0.now cut.result.1.now cut.ensures.front cut.ensures.back c.unwrap-2.result.now c.requires.k_bound behind.same in
    λ i l. rw (first, whole) (c.requires.first_below_second i)

pub returns : goal.returns
returns c =
    let at = c.args in
    let v = at.shares.now in
    let room = c.requires.share_words_in_bounds in
    let cut = c.split_at_mut-to in
    let before = rw c.unwrap.ensures at c.last_chunk.ensures.cases in
    let behind = rw c.unwrap-2.ensures at c.first_chunk_mut.ensures.cases in
    let first = row_before v room (at.k + 1) cut.result.0.now cut.result.1.now cut.ensures.front cut.ensures.back c.unwrap.result.now at.k refl (omega arith) before.1.same in
    let taken : List ℕ → List ℕ = less (λ i. get_or (row_at at.k v) i 0) 0 in
    row_back v room (at.k + 1) cut.result.0.now cut.result.1.now cut.ensures.front cut.ensures.back c.unwrap-2.result.now c.cut_rest.new.rest taken c.requires.k_bound behind.same (λ r h. less-length _ 0 r ∙ h) (rw first at c.cut_rest.ensures)
