use Rattle.std.proofs.Common.{sym, ◌∙◌, ap, subst}
use Rattle.deployment_build.specs.Work.{Building}
use Rattle.deployment_build.specs.Steps.{Needs}
use Rattle.deployment_build.proofs.Working.{etc_keeps}
use Rattle.deployment_build.proofs.Telling.{etc_got, etc_in}
use Rattle.deployment_build.proofs.task.DeploymentBuild.copy_etc.Goals as goal

pub step-requires : goal.step-requires
step-requires g c = λ v told.
    let needs = subst (λ t. Needs t v) (sym c.self.view_is) (c.requires.needs v told) in
    let is = ap (λ (t : Building). t.phase) c.self.view_is ∙ c.requires.phase in
    (etc_in _ is v needs).part

pub invariant_of-self-2 : goal.invariant_of-self-2
invariant_of-self-2 g c =
    let is = ap (λ (t : Building). t.phase) c.self.view_is ∙ c.requires.phase in
    etc_keeps _ c.self.invariant is c.step.new.self _ _ c.in_ok-inner.was c.step.ensures.stepped _ c.goes-self-inside.ensures

pub returns-clause-told : goal.returns-clause-told
returns-clause-told g c = λ v told.
    let needs = subst (λ t. Needs t v) (sym c.self.view_is) (c.requires.needs v told) in
    let is = ap (λ (t : Building). t.phase) c.self.view_is ∙ c.requires.phase in
    etc_got _ _ c.self.view_is is v needs c.step.new.self _ _ c.in_ok-inner.was c.step.ensures.stepped _ c.goes-self-inside.ensures c.goes_turn.result c.goes_turn.ensures _ (c.step.ensures.told v told)
