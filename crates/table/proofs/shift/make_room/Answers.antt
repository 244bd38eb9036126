-- `make_room` moves rows down, the last first: when j is the last row that has not moved, the rows are those of `moved_down j`.
-- So the loop's turns are the steps of that definition, from n down to k.
use mathlib.Core.Path.{◌≡◌, refl, sym, ◌∙◌}
use Prim.Native.Nat.{◌-◌}
use native.Mathlib.Omega.{arith}
use lib.ListN.{length}
use borrow.Author.Rules.{rules}
use Rattle.rules.specs.Words.{rows_of, row_at}
use Rattle.table.proofs.Rowed.{length-rows_of}
use Rattle.table.proofs.Shifted.{down_none, down_more}
use Rattle.table.proofs.shift.make_room.Goals as goal

pub loop-j-init : goal.loop-j-init
loop-j-init c = (search rules, search rules, search rules, record { rows = sym (down_none _ _); past = refl })

pub loop-j-preserved : goal.loop-j-preserved
unfolding row_at
loop-j-preserved c =
    let at = c.args in
    let R = rows_of 64 at.shares.now in
    let rows : length R ≡ 64 = length-rows_of 64 _ in
    let was = c.loop-j.invariant.3 in
    let got = c.row_down.ensures in (
      search rules,
      search rules,
      search rules,
      record { rows = got.rows ∙ rw was.rows (down_more at.n R (omega arith) (c.loop-j.j - 1) c.loop-j.j (omega arith) (omega arith)); past = got.past ∙ was.past },
    )

pub returns : goal.returns
returns c =
    let end : c.loop-j.j ≡ c.args.k = omega arith in
    rw end at c.loop-j.invariant.3
