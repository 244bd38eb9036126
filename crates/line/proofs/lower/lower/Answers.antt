-- `lower` lays the row again along the line of what has not run: the grains run before a place are known from the place.
-- By the rules' law a row less what has run is the row along that line.
use mathlib.Core.Path.{sym, ◌∙◌}
use Prim.Native.Nat.{◌≤◌}
use native.Mathlib.Nat.{sub-le, le_trans}
use native.Mathlib.Omega.{arith}
use borrow.Author.Rules.{rules}
use Rattle.rules.proofs.Front.{back}
use Rattle.rules.proofs.Wrap.{lower_relaid}
use Rattle.line.specs.Line.{on_line}
use Rattle.line.proofs.Laying.{laying_none, laying_more, laying_all, small-set, Turn}
use Rattle.line.proofs.Line.{line-start, run_start, walk}
use Rattle.line.proofs.lower.lower.Goals as goal
use Rattle.line.proofs.lower.lower.Goals.{After-run_before-to}

-- what a turn has run: from the place that it finds to the next
walked : (c : After-run_before-to)
    → let k = c in
    Turn (back k.args.slice k.args.run) (on_line k.args.slice k.loop-share.place) c.from-grains.result
    k.loop-share.was c.run_before-to.result
walked c =
    let k = c in
    let next = c.beyond-place in
    rw (k.loop-share.invariant.was_is, c.run_before-to.ensures) (walk k.requires.lower k.loop-share.place next.result k.loop-share.invariant.inside next.ensures.inside next.ensures.is)

pub loop-share-init : goal.loop-share-init
loop-share-init c =
    record {
      within = search rules;
      long = search rules;
      small = c.requires.shares_fit;
      inside = omega arith;
      far = search rules;
      was_is = sym (run_start c.args.run);
      laid = rw (line-start c.args.slice) (laying_none _ _);
    }

pub beyond-place-requires : goal.beyond-place-requires
beyond-place-requires c = omega (arith, c.loop-share.invariant.small c.loop-share.share-index)

pub overflow_sub-share : goal.overflow_sub-share
overflow_sub-share c = omega (arith, walked (goal.at.overflow_sub-share c).After-run_before-to)

pub overflow_sub-share-in-loop-share : goal.overflow_sub-share-in-loop-share
overflow_sub-share-in-loop-share c = omega (arith, walked (goal.at.overflow_sub-share-in-loop-share c).After-run_before-to)

pub loop-share-preserved : goal.loop-share-preserved
loop-share-preserved c =
    let share = c.from-grains in
    let next = c.beyond-place in
    let small : share.result ≤ c.args.slice = omega (arith, c.loop-share.invariant.small c.loop-share.share-index) in
    record {
      within = search rules;
      long = search rules;
      small = small-set c.loop-share.row c.loop-share.share-index _ c.loop-share.invariant.small (le_trans (sub-le share.result _) small);
      inside = next.ensures.inside;
      far = omega arith;
      was_is = c.run_before-to.ensures;
      laid = rw next.ensures.is (laying_more c.loop-share.invariant.laid _ _ (omega arith) share.ensures (cc (walked (goal.at.loop-share-preserved c).After-run_before-to).rest));
    }

pub returns : goal.returns
returns c =
    laying_all c.loop-share.invariant.laid (omega arith) ∙ sym (lower_relaid c.requires.lower.some c.args.run c.requires.lower.within c.args.row.now c.requires.shares_fit)
