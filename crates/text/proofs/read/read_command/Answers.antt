-- `read_command` takes the line's pieces one at a time: a line with one piece or with more than three is malformed, and so is one that
-- is too long.
use Rattle.std.proofs.Common.{rules, ◌≡◌, ◌∙◌, sym, ap, [], ◌∷◌}
use borrow.Author.Tests.{tests}
use native.Mathlib.Omega.{arith}
use Rattle.text.specs.Grammar.{pieces}
use Rattle.text.proofs.Pieces.{split_first, item_some, item_none, item_more, item_last, long-line, short-line, alone, four}
use Rattle.text.proofs.read.read_command.Goals as goal

pub returns-then-line-gt-LONGEST_LINE : goal.returns-then-line-gt-LONGEST_LINE
returns-then-line-gt-LONGEST_LINE c = sym (long-line c.args.line.now c.if-line-gt-LONGEST_LINE.true)

pub returns-in_err-number : goal.returns-in_err-number
returns-in_err-number c =
    let line = c.args.line.now in
    let m = c.in_ok-mark.mark in
    let one = split_first c.split-pieces.result c.next.new.self m _ line c.in_ok-mark.ensures.steps c.split-pieces.ensures.rest c.split-pieces.ensures.done c.split-pieces.ensures.closure (λ b r q k. search (rules, tests)) in
    let two = item_none c.next-2.new.self one.2 (c.in_err-number.ensures {u = tt {0}}).steps in
    let is : pieces line ≡ m.now ∷ [] = one.1 ∙ ap (λ ps. m.now ∷ ps) two in
    c.from_residual-in_err-number.ensures ∙ sym (short-line line (omega arith) ∙ rw is (alone _))

pub returns-in_default : goal.returns-in_default
returns-in_default c =
    let line = c.args.line.now in
    let m = c.in_ok-mark.mark in
    let n = c.in_ok-number.number in
    let one = split_first c.split-pieces.result c.next.new.self m _ line c.in_ok-mark.ensures.steps c.split-pieces.ensures.rest c.split-pieces.ensures.done c.split-pieces.ensures.closure (λ b r q k. search (rules, tests)) in
    let two = item_some c.next-2.new.self n one.2 c.in_ok-number.ensures.steps in
    let three = item_none c.next-3.new.self two.2 c.in_default.ensures.steps in
    let is : pieces line ≡ m.now ∷ (n.now ∷ []) = one.1 ∙ ap (λ ps. m.now ∷ ps) (two.1 ∙ ap (λ ps. n.now ∷ ps) three) in
    c.read_one.ensures ∙ sym (short-line line (omega arith) ∙ rw is)

pub returns-then-more : goal.returns-then-more
returns-then-more c =
    let line = c.args.line.now in
    let m = c.in_ok-mark.mark in
    let n = c.in_ok-number.number in
    let k = c.in-Some.other in
    let one = split_first c.split-pieces.result c.next.new.self m _ line c.in_ok-mark.ensures.steps c.split-pieces.ensures.rest c.split-pieces.ensures.done c.split-pieces.ensures.closure (λ b r q k. search (rules, tests)) in
    let two = item_some c.next-2.new.self n one.2 c.in_ok-number.ensures.steps in
    let three = item_some c.next-3.new.self k two.2 c.in-Some.ensures.steps in
    let more = item_more c.next-4.new.self c.next-4.result three.2 c.next-4.ensures.steps (sym c.is_some-more.ensures ∙ c.if-more.true) in
    let is : pieces line ≡ m.now ∷ (n.now ∷ (k.now ∷ three.0)) = one.1 ∙ ap (λ ps. m.now ∷ ps) (two.1 ∙ ap (λ ps. n.now ∷ ps) three.1) in
    sym (short-line line (omega arith) ∙ rw is (four _ _ _ _ more))

pub returns-else-more : goal.returns-else-more
returns-else-more c =
    let line = c.args.line.now in
    let m = c.in_ok-mark.mark in
    let n = c.in_ok-number.number in
    let k = c.in-Some.other in
    let one = split_first c.split-pieces.result c.next.new.self m _ line c.in_ok-mark.ensures.steps c.split-pieces.ensures.rest c.split-pieces.ensures.done c.split-pieces.ensures.closure (λ b r q k. search (rules, tests)) in
    let two = item_some c.next-2.new.self n one.2 c.in_ok-number.ensures.steps in
    let three = item_some c.next-3.new.self k two.2 c.in-Some.ensures.steps in
    let last = item_last c.next-4.new.self c.next-4.result three.2 c.next-4.ensures.steps (sym c.is_some-more.ensures ∙ c.if-more.false) in
    let is : pieces line ≡ m.now ∷ (n.now ∷ (k.now ∷ [])) = one.1 ∙ ap (λ ps. m.now ∷ ps) (two.1 ∙ ap (λ ps. n.now ∷ ps) (three.1 ∙ ap (λ ps. k.now ∷ ps) last)) in
    c.read_two.ensures ∙ sym (short-line line (omega arith) ∙ rw is)
