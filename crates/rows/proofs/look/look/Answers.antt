-- `look` goes through the slots once: after i turns each number is what the first i slots give, and with the rest's all slots'.
-- The sum is kept without its multiples of 2 to the 32nd: where each share fits, 64 of them are less than that.
use Rattle.std.proofs.Common.{◌≡◌, ◌+◌, ◌*◌, ◌<◌, ◌≤◌, ltb, length, get_or, drop, sym, refl, ◌∙◌, arith, rules}
use mathlib.Core.Bool.{and_assoc, and-true}
use Rattle.rules.specs.Station.{sum}
use Rattle.rows.specs.Row.{share_fits, shares_fit}
use Rattle.rows.proofs.Folds.{sum-next, sum_done, fits_next, fits-done, fits_sum, owed-next, owed-done, hits_next, hits_done}
use Rattle.rows.proofs.look.look.Goals as goal

pub loop-i-init : goal.loop-i-init
loop-i-init c = record { within = search rules; small = search rules; fits-left = refl; sum_left = omega arith; owed_small = omega arith; owed-left = omega arith; hits_left = omega arith }

pub overflow_add-owed : goal.overflow_add-owed
overflow_add-owed c =
    let at = c.args in
    omega (arith, sum-next at.rates.now c.loop-i.i (omega arith))

pub loop-i-preserved : goal.loop-i-preserved
loop-i-preserved c =
    let at = c.args in
    let row = at.row.now in
    let due = at.due.now in
    let rates = at.rates.now in
    let i = c.loop-i.i in
    let row-long : i < length row = omega arith in
    let due_long : i < length due = omega arith in
    let rates-long : i < length rates = omega arith in
    let share = sum-next row i row-long in
    let rate = sum-next rates i rates-long in
    let owed = owed-next at.end due rates i due_long rates-long in
    let hits = hits_next at.end due i due_long in
    record {
      within = omega arith;
      small = omega arith;
      fits-left = rw c.with_share-over.ensures
          (and_assoc (ltb c.loop-i.over 2147483648) (share_fits at.end at.most (get_or due i 0) (get_or row i 0)) (shares_fit at.end at.most (drop (i + 1) due) (drop (i + 1) row))
          ∙ rw (← (fits_next at.end at.most due row i due_long row-long)) c.loop-i.invariant.fits-left);
      sum_left = omega (arith, share);
      owed_small = omega (arith, rate);
      owed-left = omega (arith, owed);
      hits_left = omega (arith, hits);
    }

pub returns : goal.returns
returns c =
    let at = c.args in
    let row = at.row.now in
    let due = at.due.now in
    let i = c.loop-i.i in
    let row-end : length row ≤ i = omega arith in
    let due-end : length due ≤ i = omega arith in
    let wide : length row ≡ 64 = omega arith in
    let fits : ltb c.loop-i.over 2147483648 ≡ shares_fit at.end at.most due row =
    sym (and-true _) ∙ rw (fits-done at.end at.most due row i row-end) at c.loop-i.invariant.fits-left in
    record {
      fit = fits;
      sum_is = λ e. let all : sum row ≤ at.most * 64 = rw wide at (fits_sum at.end at.most due row (sym fits ∙ e)) in
          omega (arith, sum_done row i row-end);
      owed-is = omega (arith, owed-done at.end due at.rates.now i due-end);
      hits_are = omega (arith, hits_done at.end due i due-end);
      small = omega arith;
      few = omega arith;
    }
