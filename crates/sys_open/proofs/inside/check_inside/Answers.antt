use Rattle.std.proofs.Common.{◌∙◌, Ok}
use Rattle.layout_rules.specs.declared.many.Many.TheVariants.{Kernels, Stateroots, Objects, Marks}
use Rattle.layout_rules.specs.Checks.{AsksIn}
use Rattle.sys_open.proofs.Firsts.{Both, damage_least, inside_least, lesser_least}
use Rattle.sys_open.proofs.inside.check_inside.Goals as goal

pub returns-clause-told : goal.returns-clause-told
returns-clause-told g c = λ v told.
    let second = c.check_many.ensures.quiet.view ∙ told in
    let third = c.check_many-2.ensures.quiet.view ∙ second in
    let fourth = c.check_many-3.ensures.quiet.view ∙ third in
    let kernels = damage_least (Unit {0}) (AsksIn Kernels v.now) c.check_many.result (Ok c.in_ok-kernels.kernels) c.in_ok-kernels.ensures (c.check_many.ensures.told v told) in
    let stateroots = damage_least (Unit {0}) (AsksIn Stateroots v.now) c.check_many-2.result (Ok c.in_ok-stateroots.stateroots) c.in_ok-stateroots.ensures (c.check_many-2.ensures.told v second) in
    let objects = damage_least (Unit {0}) (AsksIn Objects v.now) c.check_many-3.result (Ok c.in_ok-objects.objects) c.in_ok-objects.ensures (c.check_many-3.ensures.told v third) in
    let marks = damage_least (Unit {0}) (AsksIn Marks v.now) c.check_many-4.result (Ok c.in_ok-marks.marks) c.in_ok-marks.ensures (c.check_many-4.ensures.told v fourth) in
    let roots = lesser_least (AsksIn Kernels v.now) (AsksIn Stateroots v.now) c.in_ok-kernels.kernels c.in_ok-stateroots.stateroots c.lesser-roots.result c.lesser-roots.ensures kernels stateroots in
    let repository = lesser_least (AsksIn Objects v.now) (AsksIn Marks v.now) c.in_ok-objects.objects c.in_ok-marks.marks c.lesser-repository.result c.lesser-repository.ensures objects marks in
    inside_least v.now c.lesser.result (lesser_least (Both (AsksIn Kernels v.now) (AsksIn Stateroots v.now)) (Both (AsksIn Objects v.now) (AsksIn Marks v.now)) c.lesser-roots.result c.lesser-repository.result c.lesser.result c.lesser.ensures roots repository)
