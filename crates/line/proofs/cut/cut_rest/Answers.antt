-- `cut_rest` takes the row of the first part from the whole row, share by share: after i turns the first i shares are the rest's.
-- No share of the first part is more than the whole share, so nothing goes below zero.
use Rattle.std.proofs.Common.{◌≡◌, ℕ, get_or, sym, ◌∙◌, arith, zero-add}
use Rattle.rules.proofs.Lessened.{less-length, less_at}
use Rattle.rows.proofs.Moves.{mixed_none, mixed_more, mixed_ahead, mixed_all}
use Rattle.line.proofs.cut.cut_rest.Goals as goal

pub loop-i-init : goal.loop-i-init
loop-i-init c = mixed_none _ _

pub overflow_sub-share : goal.overflow_sub-share
overflow_sub-share c =
    let rest = c.args.rest.now in
    let i = c.loop-i.i in
    let long = less-length (λ j. get_or c.args.first.now j 0) 0 rest in
    omega (arith, c.requires i (omega arith), mixed_ahead 0 c.loop-i.invariant i (omega arith) (omega arith))

pub loop-i-preserved : goal.loop-i-preserved
loop-i-preserved c =
    let rest = c.args.rest.now in
    let i = c.loop-i.i in
    let by : ℕ → ℕ = λ j. get_or c.args.first.now j 0 in
    let long = less-length by 0 rest in
    let ahead : get_or c.loop-i.rest i 0 ≡ get_or rest i 0 = mixed_ahead 0 c.loop-i.invariant i (omega arith) (omega arith) in
    mixed_more 0 c.loop-i.invariant _ (omega arith) (omega arith) (rw ahead (sym (less_at by 0 rest i (omega arith) ∙ rw zero-add)))

pub returns : goal.returns
returns c =
    let long = less-length (λ j. get_or c.args.first.now j 0) 0 c.args.rest.now in
    mixed_all c.loop-i.invariant (omega arith) (omega arith)
