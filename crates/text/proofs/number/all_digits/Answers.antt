-- `all_digits`: the chain asks of each byte whether it is a digit.
use Rattle.std.proofs.Common.{rules, ◌∙◌}
use Rattle.std.proofs.lemmas.Iterator.{YieldsList-from_slice}
use Rattle.std.proofs.lemmas.Iterator.Search.{all_from_yields_List}
use borrow.Author.Tests.{tests}
use Rattle.text.specs.Grammar.{is_digit}
use Rattle.text.proofs.Values.{digits_all}
use Rattle.text.proofs.number.all_digits.Goals as goal

pub returns : goal.returns
unfolding is_digit
returns c =
    let piece = c.args.piece.now in
    all_from_yields_List is_digit _ _ c.all.result c.all.ensures.ran (YieldsList-from_slice piece cc) (λ x b q k. search (rules, tests)) ∙ digits_all piece
