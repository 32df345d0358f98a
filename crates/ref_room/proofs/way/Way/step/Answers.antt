use Rattle.std.proofs.Common.{sym, ◌∙◌, ap}
use Rattle.ref_room.specs.declared.way.Leg.TheVariants.{Over}
use Rattle.ref_room.specs.Way.{Walked}
use Rattle.ref_room.proofs.WayData.{before_last}
use Rattle.ref_room.proofs.WaySteps.{over_free}
use Rattle.ref_room.proofs.way.Way.step.Goals as goal

pub returns-in-Over-clause-after : goal.returns-in-Over-clause-after
returns-in-Over-clause-after g c = λ v told. (v, told, c.requires v told)

pub returns-in-Over-clause-tells : goal.returns-in-Over-clause-tells
returns-in-Over-clause-tells g c = λ v told.
    let t = c.args.self.now in
    let needs = c.requires v told in
    over_free t v needs (before_last t.leg Over t.reached t.name needs.place (ap (λ (t : Walked). t.leg) (sym c.self.view_is) ∙ c.in-Over.is))
