-- `killaruna_open` leaves what `opened_in` says: its call leaves that of the planner in the area.
use mathlib.Core.Path.{refl}
use Rattle.std.proofs.Common.{rules}
use Rattle.calls.specs.Called.{opening}
use Rattle.station.specs.Station.{opened_in}
use Rattle.station.proofs.Stationed.{framed-is}
use Rattle.station.proofs.killaruna_open.Goals as goal

pub returns : goal.returns
unfolding opened_in
returns c =
    let at = c.args in
    framed-is (λ p. opening p at.shares.now at.cores) c.on_area.ensures (λ same. (search rules, refl)) (λ lent left answer call. let made = call.met in search rules)
