-- `put_before`: what `put` leaves, seen from the place where the text begins.
use native.Mathlib.Omega.{arith}
use Rattle.text.proofs.Behind.{before_text}
use Rattle.text.proofs.write.put_before.Goals as goal

pub returns : goal.returns
returns c =
    let at = c.args in
    before_text at.text.now at.out.now c.put.new.out at.end (omega arith) (omega arith) c.put.ensures.out_after
