-- `write_done`: a line of the mark OK and a number.
use Rattle.text.specs.Grammar.{ok_text}
use Rattle.text.proofs.write.write_done.Goals as goal

pub returns : goal.returns
unfolding ok_text
returns c = c.write_short.ensures
