-- `one_slice` answers at once for a slice that is not within the longest period, and looks at its row otherwise.
-- What the pass gives is what the slice's test asks: the sum counts only where each share fits.
use mathlib.Core.Path.{◌≡◌}
use mathlib.Core.Logic.{⊎_elim}
use mathlib.Core.Bool.{true, false}
use Prim.Native.Nat.{◌-◌}
use native.Mathlib.Omega.{arith}
use borrow.Author.Tests.{lt-ltb, le-ltb, le-leb, lt-leb, ltb-false}
use borrow.Author.Rules.{rules}
use Rattle.rules.specs.Station.{sum}
use Rattle.rules.specs.Words.{row_at}
use Rattle.sound.specs.Due.{within, slice_check, slice_hits, slice_at}
use Rattle.sound.proofs.Passed.{not_within, sum_counts}
use Rattle.sound.proofs.slice.one_slice.Goals as goal
use Rattle.sound.proofs.slice.one_slice.Goals.{Else-long-gt-LONGEST_PERIOD, Joined-then-long-eq0}

outside : (c : Joined-then-long-eq0) → let at = c.args in within at.span.start at.span.from at.span.end ≡ false
unfolding within
outside c =
    let at = c.args in
    ⊎_elim
    (λ none. rw (le-ltb at.span.from at.span.end (omega arith)))
    (λ v. ⊎_elim
    (λ late. rw (lt-ltb at.span.from at.span.end (omega arith), lt-leb (at.span.end - at.span.start) 60000 (omega arith)))
    (λ long. rw (lt-ltb at.span.from at.span.end (omega arith), le-leb (at.span.end - at.span.start) 60000 (omega arith), lt-leb (at.span.end - at.span.from) 60000 (omega arith)))
    v)
    c.then-long-eq0.either

inside : (c : Else-long-gt-LONGEST_PERIOD) → let at = c.args in within at.span.start at.span.from at.span.end ≡ true
unfolding within
inside c =
    let at = c.args in
    rw (lt-ltb at.span.from at.span.end (omega arith), le-leb (at.span.end - at.span.start) 60000 (omega (arith, ltb-false)), le-leb (at.span.end - at.span.from) 60000 (omega (arith, ltb-false)))

pub returns-then-long-eq0 : goal.returns-then-long-eq0
returns-then-long-eq0 c =
    let at = c.args in
    let none = not_within at.span.start at.dues.now.due at.dues.now.rates at.span.from at.span.end (row_at at.k at.shares.now) (outside (goal.at.returns-then-long-eq0 c).Joined-then-long-eq0) in
    record {
      ok_value = none.0;
      hits_value = none.1;
      hits_le_slot_count = omega arith;
    }

pub overflow_mul-most : goal.overflow_mul-most
overflow_mul-most c = omega (arith, ltb-false)

pub overflow_cast-most : goal.overflow_cast-most
overflow_cast-most c = omega (arith, ltb-false)

pub overflow_cast-at : goal.overflow_cast-at
overflow_cast-at c = omega (arith, ltb-false)

pub row_look-row-requires : goal.row_look-row-requires
row_look-row-requires c = omega (arith, ltb-false)

pub row_fits-requires : goal.row_fits-requires
row_fits-requires c = omega (arith, ltb-false)

pub returns : goal.returns
unfolding slice_check slice_hits slice_at
returns c =
    let at = c.args in
    let row = c.row_look-row.result in
    let got = c.row_look-row.ensures in
    let ok = inside (goal.at.returns c).Else-long-gt-LONGEST_PERIOD in
    let same = sum_counts row.fits row.sum (sum (row_at at.k at.shares.now)) (at.span.end - at.span.from) row.owed row.hits got.sum_is in
    record {
      ok_value = rw ok (cc);
      hits_value = rw ok (cc);
      hits_le_slot_count = search rules;
    }
