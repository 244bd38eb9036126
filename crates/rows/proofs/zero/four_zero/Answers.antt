-- `four_zero` joins all words: what is joined so far and the sums of what is left are zero together with the whole sums.
-- At the end nothing is left, so the word that is joined tells.
use Rattle.std.proofs.Common.{◌+◌, arith, rules, eq-eqb, ne_eqb}
use Rattle.rules.specs.Station.{sum}
use Rattle.rules.proofs.Floor.{by_lt}
use Rattle.rows.proofs.Folds.{sum-next, sum_done}
use Rattle.rows.proofs.zero.four_zero.Invariants.{from}
use Rattle.rows.proofs.zero.four_zero.Goals as goal

pub loop-i-init : goal.loop-i-init
loop-i-init c = (search rules, search rules, (λ e. omega arith), (λ e. omega arith))

pub loop-i-preserved : goal.loop-i-preserved
unfolding from
loop-i-preserved c =
    let at = c.args in
    let i = c.loop-i.i in
    let one = sum-next at.a.now i (omega arith) in
    let two = sum-next at.b.now i (omega arith) in
    let three = sum-next at.c.now i (omega arith) in
    let four = sum-next at.d.now i (omega arith) in
    let both = c.joined-seen.ensures in
    let each = c.joined_four.ensures in (
      search rules,
      search rules,
      (λ e. let seen = both.parts_zero (omega arith) in c.loop-i.invariant.2 (omega (arith, each.parts_zero (omega arith)))),
      (λ e. let was = c.loop-i.invariant.3 e in let none = each.zero (omega arith) in omega (arith, both.zero (omega arith))),
    )

pub returns : goal.returns
unfolding from
returns c =
    let at = c.args in
    let i = c.loop-i.i in
    let all = sum at.a.now + sum at.b.now + (sum at.c.now + sum at.d.now) in
    let one = sum_done at.a.now i (omega arith) in
    let two = sum_done at.b.now i (omega arith) in
    let three = sum_done at.c.now i (omega arith) in
    let four = sum_done at.d.now i (omega arith) in
    by_lt 0 c.loop-i.seen
    (λ some. by_lt 0 all
    (λ more. rw (ne_eqb c.loop-i.seen 0 (λ e. omega arith), ne_eqb all 0 (λ e. omega arith)))
    (λ none. let zero = c.loop-i.invariant.3 (omega arith) in let off : ⊥ = omega arith in absurd off))
    (λ none. rw (eq-eqb c.loop-i.seen 0 (omega arith), eq-eqb all 0 (c.loop-i.invariant.2 (omega arith))))
