-- `reached` asks `reach` where there is a share; a share of nothing leaves the line where it stands.
use mathlib.Core.Path.{◌≡◌}
use native.Mathlib.Nat.{add-zero}
use native.Mathlib.Omega.{arith}
use Rattle.line.proofs.cut.reached.Goals as goal

pub returns-then-share-eq0 : goal.returns-then-share-eq0
returns-then-share-eq0 c =
    let none : c.args.share ≡ 0 = omega arith in
    rw (none, add-zero) c.requires.was_reached
