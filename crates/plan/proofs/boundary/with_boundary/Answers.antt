-- `with_boundary` makes d a boundary: past the last slice, where one is already, or inside a slice that is cut.
-- The place tells the three apart, and each is a law of `Placed`.
use mathlib.Core.Path.{refl, ap}
use native.Mathlib.Omega.{arith}
use lib.ListN.{drop}
use borrow.Author.Rules.{rules}
use Rattle.plan.specs.Planned.{slices_in}
use Rattle.plan.proofs.Planned.{planned-few}
use Rattle.plan.proofs.Placed.{Place, with_there, with_room, with_new, inside, cut_asked, with_cut}
use Rattle.plan.proofs.boundary.with_boundary.Goals as goal
use Rattle.plan.proofs.boundary.with_boundary.Goals.{After-place-at, then-at-count+else-end-d, else-at-count}

pub place-at-requires : goal.place-at-requires
place-at-requires c = planned-few c.requires.plan_from.planned

-- what is known when the place has been found
here : (k : After-place-at) → let s = k.args in Place (slices_in s.ends.now s.count s.shares.now) s.ends.now s.count s.shares.now s.start s.d k.place-at.result
here k = record { planned = k.requires.plan_from.planned; ready = k.requires.plan_from.ready; ahead = k.requires.start_lt_d; is = k.place-at.ensures.value; room = k.requires.room }

pub bounds-ends-at : goal.bounds-ends-at
bounds-ends-at c = omega (arith, planned-few c.requires.plan_from.planned)

pub returns-then-end-d : goal.returns-then-end-d
returns-then-end-d c = record {
  planned = with_there (here (goal.at.returns-then-end-d c).After-place-at) (omega arith) (omega arith);
  shares_unchanged = refl;
}

pub begin-lo-requires : goal.begin-lo-requires
begin-lo-requires c = omega (arith, planned-few c.requires.plan_from.planned)

pub overflow_sub-d : goal.overflow_sub-d
overflow_sub-d c = omega (arith, inside (here (goal.at.overflow_sub-d c).After-place-at) (λ l e. omega arith) (omega arith), c.begin-lo.ensures)

pub overflow_sub-end : goal.overflow_sub-end
overflow_sub-end c = omega (arith, inside (here (goal.at.overflow_sub-end c).After-place-at) (λ l e. omega arith) (omega arith), c.begin-lo.ensures)

pub cut_row-requires : goal.cut_row-requires
cut_row-requires c =
    let q = here (goal.at.cut_row-requires c).After-place-at in
    record {
      share_words_in_bounds = search rules;
      k_lt_n = search rules;
      n_lt_row_count = with_room q (λ l e. omega arith);
      cut = rw c.begin-lo.ensures (cut_asked q (λ l e. omega arith) (omega arith));
    }

pub put_in-requires : goal.put_in-requires
put_in-requires c =
    let q = here (goal.at.put_in-requires c).After-place-at in
    record {
      k_le_count = search rules;
      count_lt_row_count = elim c.if-at-count.branch [
        | then-at-count+else-end-d w ↦ with_room q (λ l e. omega arith)
        | else-at-count w ↦ with_room q (λ l e. omega arith)
      ];
    }

pub returns : goal.returns
returns c =
    let q = here (goal.at.returns c).After-place-at in
    elim c.if-at-count.branch [
      | then-at-count+else-end-d w ↦ record {
        planned = rw (c.put_in.ensures, w.shares-is) (with_cut q (λ l e. omega arith) (omega arith) (rw w.begin-lo.ensures at w.cut_row.ensures));
        shares_unchanged = rw w.shares-is w.cut_row.ensures.past;
      }
      | else-at-count w ↦ record {
        planned = rw (c.put_in.ensures, w.shares-is) (with_new q (λ l e. omega arith) (omega arith));
        shares_unchanged = ap (drop 4096) w.shares-is;
      }
    ]
