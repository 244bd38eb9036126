-- `feed` takes the bytes up to the first newline as they are taken one by one (`comes_part`, `comes_ended`).
use mathlib.Core.List.{◌++◌}
use native.Mathlib.Omega.{arith}
use Rattle.lines.specs.Lines.{head_of}
use Rattle.lines.proofs.Kept.{keeps_filled}
use Rattle.script.proofs.Feeding.{comes_part, comes_ended}
use Rattle.script.proofs.stream.feed.Goals as goal

pub returns-then-not-ended : goal.returns-then-not-ended
returns-then-not-ended c =
    let f = c.fill-len.ensures in
    record {
      kept_bound = omega (arith, f.length-is);
      used_value = f.used;
      written_le_answer_bytes = omega arith;
      says = λ kept k. comes_part f k c.args.p c.args.shares.now c.args.segments.now c.if-not-ended.true c.args.out.now;
    }

pub returns : goal.returns
returns c =
    let f = c.fill-len.ensures in
    let a = c.answer_kept-reply.ensures in
    let over = c.if-not-ended.false in
    record {
      kept_bound = omega arith;
      used_value = f.used;
      written_le_answer_bytes = a.used_le_answer_bytes;
      says = λ kept k. comes_ended f k c.args.p c.args.shares.now c.args.segments.now over (a.says (kept ++ head_of c.args.piece.now) (keeps_filled k f));
    }
