-- `cut_first` lays the row again along the first part's line: the share stored is how much further the part reaches.
-- That is never less than nothing, nor more than the share, so it fits its word.
use native.Mathlib.Omega.{arith}
use borrow.Author.Rules.{rules}
use Rattle.rules.specs.Slices.{first_part}
use Rattle.line.proofs.Laying.{laying_more, laying_all}
use Rattle.line.proofs.Cutting.{cutting_none, cut_turn}
use Rattle.line.proofs.cut.cut_first.Goals as goal

pub loop-share-init : goal.loop-share-init
loop-share-init c = cutting_none _ _ _ (omega arith)

pub overflow_sub-share : goal.overflow_sub-share
overflow_sub-share c =
    omega (arith, cut_turn c.requires c.loop-share.e c.from-grains.result)

pub overflow_cast-share : goal.overflow_cast-share
overflow_cast-share c =
    omega (arith, cut_turn c.requires c.loop-share.e c.from-grains.result)

pub loop-share-preserved : goal.loop-share-preserved
loop-share-preserved c =
    record {
      within = search rules;
      long = search rules;
      far = search rules;
      was_is = search rules;
      laid = laying_more c.loop-share.invariant.laid _ _ (omega arith) c.from-grains.ensures (cc);
    }

pub returns : goal.returns
unfolding first_part
returns c = laying_all c.loop-share.invariant.laid (omega arith)
