-- `write_refused`: a line of the mark NO and a number.
use Rattle.text.specs.Grammar.{no_text}
use Rattle.text.proofs.write.write_refused.Goals as goal

pub returns : goal.returns
unfolding no_text
returns c = c.write_short.ensures
