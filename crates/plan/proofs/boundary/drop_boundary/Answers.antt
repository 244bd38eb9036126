-- `drop_boundary` drops the first slice: its boundary is taken out, and its row with it.
-- By the law `planned-drop`.
use borrow.Author.Rules.{rules}
use Rattle.plan.proofs.Planned.{planned-few, planned-drop}
use Rattle.plan.proofs.boundary.drop_boundary.Goals as goal

pub drop_row-requires : goal.drop_row-requires
drop_row-requires c = record {
  share_words_in_bounds = search rules;
  n_nonzero = search rules;
  n_le_row_count = planned-few c.requires.planned;
}

pub take_out-requires : goal.take_out-requires
take_out-requires c = let p = c.requires.planned in record {
  count_nonzero = search rules;
  count_le_row_count = planned-few p;
}

pub returns : goal.returns
returns c =
    let got = c.drop_row.ensures in
    record {
      left = rw c.take_out.ensures (planned-drop c.requires.planned c.requires.count_nonzero (planned-few c.requires.planned) got);
      shares_unchanged = got.past;
    }
