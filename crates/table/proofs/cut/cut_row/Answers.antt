-- `cut_row` cuts row k in two: once there is room the row stands twice, in places k and k + 1, and each part is made in its place.
-- No share of the first part is more than the row's, so it can be taken from the row, and what is left is the rest.
use native.Mathlib.Omega.{arith}
use borrow.Author.Rules.{rules}
use Rattle.rules.specs.Slices.{first_part, second_part}
use Rattle.rules.specs.Words.{row_at}
use Rattle.rules.proofs.Cut.{cut_whole}
use Rattle.table.proofs.Shifted.{cut-first, cut-next, cut_then}
use Rattle.table.proofs.cut.cut_row.Goals as goal

pub row_rest-requires : goal.row_rest-requires
row_rest-requires c =
    let at = c.args in
    let r = row_at at.k at.shares.now in
    let room = c.make_room in
    let first = c.row_first in
    let f = first_part at.part at.span in
    let here = cut-first at.k at.n f (omega arith) (omega arith) room.ensures first.ensures in
    let next = cut-next at.k at.n f (omega arith) (omega arith) room.ensures first.ensures in
    record {
      share_words_in_bounds = search rules;
      k_bound = omega arith;
      first_below_second = λ i. rw (here, next) (omega (arith, cut_whole at.part at.span (omega arith) (omega arith) r i));
    }

pub returns : goal.returns
unfolding second_part
returns c =
    let at = c.args in
    let r = row_at at.k at.shares.now in
    let room = c.make_room in
    let first = c.row_first in
    let f = first_part at.part at.span in
    let here = cut-first at.k at.n f (omega arith) (omega arith) room.ensures first.ensures in
    let next = cut-next at.k at.n f (omega arith) (omega arith) room.ensures first.ensures in
    cut_then at.k at.n f (omega arith) (omega arith) room.ensures first.ensures (second_part at.part at.span r) (rw (here, next) at c.row_rest.ensures)
