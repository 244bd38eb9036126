-- `killaruna_declare` leaves what `stationed` says: its call leaves that of the planner in the area.
use mathlib.Core.List.{[]}
use mathlib.Core.Path.{refl}
use Rattle.std.proofs.Common.{rules}
use Rattle.rules.specs.Calls.{declare}
use Rattle.calls.specs.Called.{called}
use Rattle.station.specs.Station.{stationed}
use Rattle.station.proofs.Stationed.{framed-is}
use Rattle.station.proofs.killaruna_declare.Goals as goal

pub returns : goal.returns
unfolding stationed
returns c =
    let at = c.args in
    framed-is (λ p. called p at.shares.now [] (declare at.period at.cost)) c.on_area.ensures (λ same. (refl, refl)) (λ lent left answer call. let made = call.met in search rules)
