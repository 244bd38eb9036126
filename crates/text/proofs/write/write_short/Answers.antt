-- `write_short`: what stands from the line's beginning on is the whole text, and `put` writes it.
use native.Mathlib.Omega.{arith}
use Rattle.text.proofs.Behind.{to_end}
use Rattle.text.proofs.write.write_short.Goals as goal

pub returns : goal.returns
returns c =
    let made = c.short_line-from in
    let is = to_end made.new.line made.result 24 (omega arith) made.ensures.line_after in
    rw is at c.put.ensures
