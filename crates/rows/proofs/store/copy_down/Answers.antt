-- `copy_down` leaves the first row twice: the first 64 words stay, and of the others the first i are theirs after i turns.
-- The two halves are followed apart, since every store is behind the seam.
use Rattle.std.proofs.Common.{◌≡◌, ◌+◌, length, get_or, take, drop, sym, ap, ◌∙◌, arith, length-drop, take-append-drop, length-take-le, get_or-take, rules}
use lib.Seq.{take-set-le, drop-set-add}
use Rattle.rows.proofs.Moves.{mixed_none, mixed_more, mixed_all}
use Rattle.rows.proofs.store.copy_down.Goals as goal

pub loop-i-init : goal.loop-i-init
loop-i-init c = search (rules, mixed_none)

pub loop-i-preserved : goal.loop-i-preserved
loop-i-preserved c =
    let w = c.args.two.now in
    let i = c.loop-i.i in
    let two = c.loop-i.two in
    let first : length (take 64 w) ≡ 64 = length-take-le 64 w (omega arith) in
    let second : length (drop 64 w) ≡ 64 = simp length-drop (omega arith) in (
      search rules,
      search rules,
      rw (take-set-le 64 two (64 + i) _ (omega arith)) c.loop-i.invariant.2,
      rw (drop-set-add 64 two i _) (mixed_more 0 c.loop-i.invariant.3 _ (omega arith) (omega arith) (sym (get_or-take 64 two i 0 (omega arith)) ∙ ap (λ l. get_or l i 0) c.loop-i.invariant.2)),
    )

pub returns : goal.returns
returns c =
    let w = c.args.two.now in
    let first : length (take 64 w) ≡ 64 = length-take-le 64 w (omega arith) in
    let second : length (drop 64 w) ≡ 64 = simp length-drop (omega arith) in
    let copied : drop 64 c.loop-i.two ≡ take 64 w = mixed_all c.loop-i.invariant.3 (omega arith) (omega arith) in
    rw (c.loop-i.invariant.2, copied) at (sym (take-append-drop 64 c.loop-i.two))
