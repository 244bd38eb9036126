-- `copy_up` leaves the second row twice: after i turns the first i words are the second row's, and no word from i on has changed,
-- so the word that a turn reads, 64 places ahead, is still the one that came in.
use Rattle.std.proofs.Common.{◌≡◌, ◌+◌, length, drop, sym, ◌∙◌, arith, length-drop, get_or-drop, take_all, rules}
use Rattle.rows.proofs.Moves.{mixed_none, mixed_more, mixed_ahead}
use Rattle.rows.proofs.store.copy_up.Goals as goal

pub loop-i-init : goal.loop-i-init
loop-i-init c = search (rules, mixed_none)

pub loop-i-preserved : goal.loop-i-preserved
loop-i-preserved c =
    let m = c.loop-i.invariant.2 in
    let w = c.args.two.now in
    let half : length (drop 64 w) ≡ 64 = simp length-drop (omega arith) in (
      search rules,
      search rules,
      mixed_more 0 m _ (omega arith) (omega arith) (mixed_ahead 0 m (64 + c.loop-i.i) (omega arith) (omega arith) ∙ sym (get_or-drop 64 w c.loop-i.i 0)),
    )

pub returns : goal.returns
returns c =
    let w = c.args.two.now in
    let end : c.loop-i.i ≡ 64 = omega arith in
    let half : length (drop 64 w) ≡ 64 = simp length-drop (omega arith) in
    c.loop-i.invariant.2.is ∙ rw (end, take_all 64 (drop 64 w) (omega arith))
