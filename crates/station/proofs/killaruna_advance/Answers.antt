-- `killaruna_advance` leaves what `stationed` says: its call leaves that of the planner in the area.
use Rattle.std.proofs.Common.{rules, length}
use Rattle.rules.specs.Calls.{advance}
use Rattle.calls.specs.Called.{called}
use Rattle.station.specs.Station.{stationed}
use Rattle.station.proofs.Stationed.{framed-is}
use Rattle.station.proofs.killaruna_advance.Goals as goal

pub returns : goal.returns
unfolding stationed
returns c =
    let at = c.args in
    framed-is (λ p. called p at.shares.now at.segments.now (advance at.tick (length at.segments.now))) c.on_area.ensures (λ same. (search rules, search rules)) (λ lent left answer call. let made = call.met in search rules)
