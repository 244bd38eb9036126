-- `short_line`: newline, field and mark, each in front of what stands there.
use mathlib.Core.Path.{◌≡◌}
use mathlib.Core.List.{[]}
use native.Mathlib.Omega.{arith}
use lib.ListN.{drop, drop_of_length-le}
use Rattle.text.specs.Grammar.{short_text}
use Rattle.text.proofs.Behind.{before_on}
use Rattle.text.proofs.write.short_line.Goals as goal

pub returns : goal.returns
unfolding short_text
returns c =
    let line = c.args.line.now in
    let none : drop 24 line ≡ [] = drop_of_length-le line {i = 24} (omega arith) in
    let end = before_on c.put_before-end.ensures none in
    let number = before_on c.field-a.ensures end in
    record {
      upper_bound = omega arith;
      line_after = before_on c.put_before.ensures number;
    }
