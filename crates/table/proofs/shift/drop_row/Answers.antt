-- `drop_row` moves rows up, the first first: after k turns the first k rows are the rows from row 1 on, and no other has changed.
-- The last row in use is then written over with zeros.
use mathlib.Core.Path.{◌≡◌, sym, ap, ◌∙◌}
use mathlib.Core.List.{[]}
use Prim.Native.Nat.{◌+◌, ◌-◌, suc}
use native.Mathlib.Omega.{arith}
use native.Mathlib.Nat.{add_comm}
use lib.ListN.{length, drop, get_or, length-drop}
use lib.Seq.{get_or-drop}
use borrow.Author.Rules.{rules}
use Rattle.rules.specs.Station.{zeros}
use Rattle.rules.specs.Words.{rows_of, row_at, moved_up}
use Rattle.rows.proofs.Moves.{mixed_none, mixed_more, mixed_ahead, mixed_set}
use Rattle.table.proofs.Rowed.{length-rows_of}
use Rattle.table.proofs.shift.drop_row.Goals as goal

pub loop-k-init : goal.loop-k-init
loop-k-init c = (search rules, search rules, search rules, mixed_none _ _)

pub loop-k-preserved : goal.loop-k-preserved
unfolding row_at
loop-k-preserved c =
    let i = c.loop-k.k in
    let m = c.loop-k.invariant.3 in
    let got = c.row_up.ensures in
    let R = rows_of 64 c.args.shares.now in
    let rows : length R ≡ 64 = length-rows_of 64 _ in
    let later : length (drop 1 R) ≡ 63 = simp length-drop (omega arith) in
    let next : get_or (drop 1 R) i [] ≡ get_or R (i + 1) [] = get_or-drop 1 R i [] ∙ ap (λ n. get_or R n []) (add_comm 1 i) in (
      search rules,
      search rules,
      got.past ∙ c.loop-k.invariant.2,
      rw got.rows (mixed_more [] m _ (omega arith) (omega arith) (mixed_ahead [] m (i + 1) (omega arith) (omega arith) ∙ sym next)),
    )

pub returns : goal.returns
unfolding moved_up
returns c =
    let n = c.args.n in
    let got = c.row_clear.ensures in
    let R = rows_of 64 c.args.shares.now in
    let rows : length R ≡ 64 = length-rows_of 64 _ in
    let later : length (drop 1 R) ≡ 63 = simp length-drop (omega arith) in
    let end : c.loop-k.k ≡ n - 1 = omega arith in
    let last : suc (n - 1) ≡ n = omega arith in
    record { rows = got.rows ∙ rw last at (mixed_set [] (rw end at c.loop-k.invariant.3) zeros (omega arith) (omega arith)); past = got.past ∙ c.loop-k.invariant.2 }
