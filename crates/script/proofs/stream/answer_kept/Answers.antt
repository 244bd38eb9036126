-- `answer_kept` answers a line that is stored whole; one of more than 64 bytes is malformed whatever it says.
use mathlib.Core.Path.{refl, ap, sym}
use native.Mathlib.Omega.{arith}
use lib.Seq.{length-take-le}
use Rattle.lines.proofs.Kept.{kept_whole, kept-long}
use Rattle.planner.specs.Struct.{in_struct}
use Rattle.text.proofs.Promises.{long_malformed}
use Rattle.script.specs.Drilled.{drilled, answered}
use Rattle.script.proofs.stream.answer_kept.Goals as goal

pub returns-then-len-gt-LINE_BYTES : goal.returns-then-len-gt-LINE_BYTES
unfolding drilled answered
returns-then-len-gt-LINE_BYTES c =
    let m = c.malformed.ensures in
    record {
      used_le_answer_bytes = m.printed.short;
      says = λ kept k. rw (long_malformed kept (kept-long k (omega (arith, c.if-len-gt-LINE_BYTES.true)))) (record { planner = ap (λ p. in_struct p) m.planner_value; shares = refl; segments = refl; printed = m.printed });
    }

pub slice_bounds-answer_line-end : goal.slice_bounds-answer_line-end
slice_bounds-answer_line-end c =
    sym (length-take-le c.args.len c.args.line.now (omega (arith, c.requires.line_bytes_in_bounds)))

pub returns : goal.returns
returns c =
    let a = c.answer_line.ensures in
    record {
      used_le_answer_bytes = a.printed.short;
      says = λ kept k. rw (kept_whole k (omega (arith, c.if-len-gt-LINE_BYTES.false))) at a;
    }
