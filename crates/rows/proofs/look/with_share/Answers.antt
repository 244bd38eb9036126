-- `with_share` marks a share that is more than its bound.
-- The bound is at most the slice's grains.
use Rattle.std.proofs.Common.{arith, le-ltb, lt-ltb}
use Rattle.rules.proofs.Floor.{by_lt}
use Rattle.rows.specs.Row.{share_fits}
use Rattle.rows.proofs.look.with_share.Goals as goal

pub excess-requires : goal.excess-requires
excess-requires c =
    let at = c.args in
    by_lt at.due at.end
    (λ l. rw (c.bound-at_most.ensures, lt-ltb at.due at.end l) (omega arith))
    (λ g. rw (c.bound-at_most.ensures, le-ltb at.due at.end g) (omega arith))

pub returns : goal.returns
unfolding share_fits
returns c = rw (c.marked.ensures, c.excess.ensures, c.bound-at_most.ensures)
