use Rattle.std.proofs.Common.{◌∙◌, refl, subst, Ok}
use Rattle.layout_rules.specs.Checks.{Asks, Staging}
use Rattle.sys_open.specs.Damages.{Clearable}
use Rattle.sys_open.specs.Walk.{IsLeastWrong}
use Rattle.sys_open.proofs.Firsts.{damage_least}
use Rattle.sys_open.proofs.Within.{clearable_least}
use Rattle.sys_open.proofs.removal.check_removal.Goals as goal

pub returns-in-Some-clause-told : goal.returns-in-Some-clause-told
returns-in-Some-clause-told g c = λ v limits rows told are whole left stays.
    let staged = damage_least (Unit {0}) (Asks Staging v.now) c.check_stages.result (Ok c.in_ok-staged.staged) c.in_ok-staged.ensures (c.check_stages.ensures.told v told) in
    let looked = c.check_stages.ensures.quiet.view ∙ told in
    let least = clearable_least v.now (g.met.F.Fs.tree c.args.fs.now v told) limits rows are whole c.args.left_overs.now c.args.staying.now left stays c.in_ok-staged.staged c.in_ok-left.left c.in_ok-stays.stays c.lesser-found.result c.lesser.result
    c.lesser-found.ensures c.lesser.ensures staged (c.in_ok-left.ensures.told v looked) (c.in_ok-stays.ensures.told v (c.reach_all.ensures.quiet.view ∙ looked)) in
    (refl, subst (IsLeastWrong (Clearable v.now)) c.in-Some.is least)

pub returns-in-None-clause-told : goal.returns-in-None-clause-told
returns-in-None-clause-told g c = λ v limits rows told are whole left stays.
    let staged = damage_least (Unit {0}) (Asks Staging v.now) c.check_stages.result (Ok c.in_ok-staged.staged) c.in_ok-staged.ensures (c.check_stages.ensures.told v told) in
    let looked = c.check_stages.ensures.quiet.view ∙ told in
    let least = clearable_least v.now (g.met.F.Fs.tree c.args.fs.now v told) limits rows are whole c.args.left_overs.now c.args.staying.now left stays c.in_ok-staged.staged c.in_ok-left.left c.in_ok-stays.stays c.lesser-found.result c.lesser.result
    c.lesser-found.ensures c.lesser.ensures staged (c.in_ok-left.ensures.told v looked) (c.in_ok-stays.ensures.told v (c.reach_all.ensures.quiet.view ∙ looked)) in
    subst (IsLeastWrong (Clearable v.now)) c.in-None.is least
