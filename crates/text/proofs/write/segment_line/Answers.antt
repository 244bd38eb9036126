-- `segment_line`: newline, four fields and mark, each in front of what stands there.
use mathlib.Core.Path.{◌≡◌}
use mathlib.Core.List.{[]}
use native.Mathlib.Omega.{arith}
use lib.ListN.{drop, drop_of_length-le}
use Rattle.text.specs.Grammar.{sg_text}
use Rattle.text.proofs.Behind.{before_on}
use Rattle.text.proofs.write.segment_line.Goals as goal

pub returns : goal.returns
unfolding sg_text
returns c =
    let line = c.args.line.now in
    let none : drop 87 line ≡ [] = drop_of_length-le line {i = 87} (omega arith) in
    let end = before_on c.put_before-end.ensures none in
    let after = before_on c.field-d.ensures end in
    let first = before_on c.field-c.ensures after in
    let slot = before_on c.field-b.ensures first in
    let core = before_on c.field-a.ensures slot in
    record {
      upper_bound = omega arith;
      line_after = before_on c.put_before.ensures core;
    }
