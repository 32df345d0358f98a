use Rattle.std.proofs.Common.{arith, refl, sym, ◌∙◌, ap, subst}
use Rattle.deploy_task.specs.declared.phase.Phase.{Phase}
use Rattle.deploy_task.specs.declared.phase.Phase.TheVariants.{Source}
use Rattle.deploy_task.specs.Listed.{IsFirstOf, NoneOf}
use Rattle.deploy_task.specs.Deploying.{Deploying, HasPlace, in_phase}
use Rattle.deploy_task.specs.Steps.{Needs}
use Rattle.deploy_task.proofs.Telling.{choose_none, choose_source, stepped_as, steps_none, steps_source, told_as}
use Rattle.deploy_task.proofs.task.DeployTask.choose.Goals as goal

pub returns-in-None-clause-told : goal.returns-in-None-clause-told
returns-in-None-clause-told c = λ v needs.
    let t : Deploying = record { plan = c.self.inside.deploy; id = c.self.inside.id; kept = c.self.inside.kept.items; phase = c.self.inside.phase } in
    let is = ap (λ (x : Deploying). x.phase) c.self.view_is ∙ c.requires in
    let place : HasPlace t = omega (arith, c.len.ensures, c.if-len-ge8.false) in
    told_as t _ _ _ c.self.view_is (ap (λ (ph : Phase). in_phase ph t) (sym c.go_on.ensures)) v _ _ (choose_none t is v (subst (λ x. Needs x v) (sym c.self.view_is) needs) place _ refl)

pub returns-in-None-clause-stepped : goal.returns-in-None-clause-stepped
returns-in-None-clause-stepped c =
    let t : Deploying = record { plan = c.self.inside.deploy; id = c.self.inside.id; kept = c.self.inside.kept.items; phase = c.self.inside.phase } in
    let is = ap (λ (x : Deploying). x.phase) c.self.view_is ∙ c.requires in
    let place : HasPlace t = omega (arith, c.len.ensures, c.if-len-ge8.false) in
    let none = subst (λ items. NoneOf items t.plan.os) c.deref.ensures.value c.in-None.ensures in
    stepped_as t _ _ _ _ c.self.view_is (ap (λ (ph : Phase). in_phase ph t) (sym c.go_on.ensures)) (steps_none t is place none)

pub returns-in-Some-clause-told : goal.returns-in-Some-clause-told
returns-in-Some-clause-told c = λ v needs.
    let t : Deploying = record { plan = c.self.inside.deploy; id = c.self.inside.id; kept = c.self.inside.kept.items; phase = c.self.inside.phase } in
    let is = ap (λ (x : Deploying). x.phase) c.self.view_is ∙ c.requires in
    let place : HasPlace t = omega (arith, c.len.ensures, c.if-len-ge8.false) in
    let first = subst (λ items. IsFirstOf items t.plan.os c.in-Some.source.now) c.deref.ensures.value c.in-Some.ensures in
    told_as t _ _ _ c.self.view_is (ap (λ (ph : Phase). in_phase ph t) (ap Source (sym c.new-walk.ensures) ∙ sym c.go_on-in-Some.ensures)) v _ _
    (choose_source t is v (subst (λ x. Needs x v) (sym c.self.view_is) needs) place c.in-Some.source.now first _ refl)

pub returns-in-Some-clause-stepped : goal.returns-in-Some-clause-stepped
returns-in-Some-clause-stepped c =
    let t : Deploying = record { plan = c.self.inside.deploy; id = c.self.inside.id; kept = c.self.inside.kept.items; phase = c.self.inside.phase } in
    let is = ap (λ (x : Deploying). x.phase) c.self.view_is ∙ c.requires in
    let place : HasPlace t = omega (arith, c.len.ensures, c.if-len-ge8.false) in
    let first = subst (λ items. IsFirstOf items t.plan.os c.in-Some.source.now) c.deref.ensures.value c.in-Some.ensures in
    stepped_as t _ _ _ _ c.self.view_is (ap (λ (ph : Phase). in_phase ph t) (ap Source (sym c.new-walk.ensures) ∙ sym c.go_on-in-Some.ensures)) (steps_source t is place c.in-Some.source.now first)
