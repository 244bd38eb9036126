-- `lawful` joins its tests one after the other, and is false where one of the first four is.
-- A law of Rate.antt says that they are the clauses' tests.
use Rattle.std.proofs.Common.{arith}
use Rattle.slots.proofs.Rate.{lawful_is}
use Rattle.slots.proofs.test.lawful.Goals as goal
use Rattle.slots.proofs.test.lawful.Goals.{then-task-ge1-2, else-task-ge1-2}

pub returns-else-task-le-GRAINS-clause-value : goal.returns-else-task-le-GRAINS-clause-value
returns-else-task-le-GRAINS-clause-value c = elim c.if-task-ge1-2.branch [ then-task-ge1-2 w ↦ grind (arith, lawful_is) | else-task-ge1-2 w ↦ grind (arith, lawful_is) ]
