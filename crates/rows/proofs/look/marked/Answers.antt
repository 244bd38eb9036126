-- `marked` is a bitwise or: it has the highest bit exactly where one of the two words has.
-- That is the law of Marks.antt.
use Rattle.rows.proofs.Marks.{or_marked}
use Rattle.rows.proofs.look.marked.Goals as goal

pub returns : goal.returns
returns c = or_marked c.args.over c.args.more
