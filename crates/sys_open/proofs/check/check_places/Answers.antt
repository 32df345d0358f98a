use Rattle.std.proofs.Common.{◌∙◌, refl, subst, Ok}
use Rattle.layout_rules.specs.Checks.{Asks, AsksFixed, AsksInside, Kinds}
use Rattle.sys_open.specs.Walk.{IsLeastWrong}
use Rattle.sys_open.proofs.Firsts.{damage_least, kinds_least, lesser_least}
use Rattle.sys_open.proofs.check.check_places.Goals as goal

pub returns-in-Some-clause-told : goal.returns-in-Some-clause-told
returns-in-Some-clause-told g c = λ v told.
    let fixed = damage_least (Unit {0}) (AsksFixed v.now) c.check_kinds.result (Ok c.in_ok-fixed.fixed) c.in_ok-fixed.ensures (c.check_kinds.ensures.told v told) in
    let inside = c.in_ok-inside.ensures.told v (c.check_kinds.ensures.quiet.view ∙ told) in
    (refl, subst (IsLeastWrong (Asks Kinds v.now)) c.in-Some.is (kinds_least v.now c.lesser.result (lesser_least (AsksFixed v.now) (AsksInside v.now) c.in_ok-fixed.fixed c.in_ok-inside.inside c.lesser.result c.lesser.ensures fixed inside)))
