-- `cut_first` lays the row again along the first part's line: the share stored is how much further the part reaches.
-- That is never less than nothing, nor more than the share, so it fits its word.
use Rattle.line.proofs.Cutting.{Cutting}
use Rattle.line.proofs.cut.cut_first.Given as goal

abbrev pub invariant-loop-share : goal.invariant-loop-share
invariant-loop-share l = Cutting l.part l.span l.initial.row l.e l.was l.share-index l.row
