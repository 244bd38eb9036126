-- `killaruna_release` leaves what `stationed` says: its call leaves that of the planner in the area.
use mathlib.Core.List.{[]}
use mathlib.Core.Path.{refl}
use Rattle.std.proofs.Common.{rules}
use Rattle.rules.specs.Calls.{release}
use Rattle.calls.specs.Called.{called}
use Rattle.station.specs.Station.{stationed}
use Rattle.station.proofs.Stationed.{framed-is}
use Rattle.station.proofs.killaruna_release.Goals as goal

pub returns : goal.returns
unfolding stationed
returns c =
    let at = c.args in
    framed-is (λ p. called p at.shares.now [] (release at.slot)) c.on_area.ensures (λ same. (search rules, refl)) (λ lent left answer call. let made = call.met in search rules)
