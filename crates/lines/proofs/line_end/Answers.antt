-- `line_end` is the place of the first newline, and the length of a piece that has none. Assumes nothing.
use Rattle.std.proofs.Common.{rules, ◌≡◌, ◌∙◌, sym, refl}
use Rattle.std.proofs.lemmas.Iterator.{IsFirst-from_position, YieldsList-from_slice, index_from_first}
use borrow.Author.Tests.{tests}
use Rattle.lines.specs.Lines.{line_end, newline}
use Rattle.lines.proofs.Ends.{end_here, end-next}
use Rattle.lines.proofs.line_end.Goals as goal

pub returns-clause-value : goal.returns-clause-value
unfolding line_end
returns-clause-value c =
    let piece = c.args.piece.now in
    let slice = YieldsList-from_slice piece cc in
    let first = IsFirst-from_position _ _ _ (λ b. b ≡ newline) (λ b. b ≡ newline → ⊥) c.position.ensures.ran slice (λ x q k. search (rules, tests)) (λ x q k. search (rules, tests)) in
    c.unwrap_or.ensures ∙ sym (index_from_first line_end (λ b. b ≡ newline) (λ b. b ≡ newline → ⊥) refl end_here end-next piece c.position.result first)
