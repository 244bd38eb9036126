-- `ends_zero` looks at each boundary past the last: all are zero exactly where their sum is.
use Rattle.std.proofs.Common.{rules, tests, ◌≡◌, drop, nat_eq, ◌∙◌, arith, length-drop}
use Rattle.std.proofs.lemmas.Iterator.{YieldsList-from_slice}
use Rattle.std.proofs.lemmas.Iterator.Search.{all_from_yields_List}
use lib.Seq.{take_all}
use Rattle.std.specs.Slice.Iter.{iter_rest}
use Rattle.sound.proofs.Passed.{zero-all}
use Rattle.sound.proofs.slice.ends_zero.Goals as goal

pub returns : goal.returns
returns c =
    let rest : iter_rest c.iter.result ≡ drop c.args.count c.args.ends.now = c.iter.ensures.rest ∙ take_all _ _ (simp length-drop (omega arith)) in
    all_from_yields_List (λ end. nat_eq end 0) _ _ _ c.all.ensures.ran (YieldsList-from_slice _ rest) (λ x b q k. search (rules, tests)) ∙ zero-all _
