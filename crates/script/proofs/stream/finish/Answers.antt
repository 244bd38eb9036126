-- `finish` answers what is kept, where that is not empty.
use native.Mathlib.Omega.{arith}
use Rattle.lines.proofs.Kept.{kept_empty, kept-some}
use Rattle.script.proofs.Feeding.{last_none, last_some}
use Rattle.script.proofs.stream.finish.Goals as goal

pub returns-then-nothing_kept : goal.returns-then-nothing_kept
returns-then-nothing_kept c =
    record {
      used_le_answer_bytes = omega arith;
      says = λ kept k. last_none c.args.p c.args.shares.now c.args.segments.now c.args.out.now kept (kept_empty k c.if-nothing_kept.true);
    }

pub returns : goal.returns
returns c =
    let a = c.answer_kept.ensures in
    record {
      used_le_answer_bytes = a.used_le_answer_bytes;
      says = λ kept k. last_some c.args.p c.args.shares.now c.args.segments.now kept (kept-some k c.if-nothing_kept.false) (a.says kept k);
    }
