use Rattle.std.proofs.Common.{sym, ◌∙◌, ap, subst}
use Rattle.deployment_build.specs.Work.{Building}
use Rattle.deployment_build.specs.Steps.{Needs}
use Rattle.deployment_build.proofs.Working.{kernel_keeps}
use Rattle.deployment_build.proofs.Telling.{kernel_got, kernel_in}
use Rattle.deployment_build.proofs.task.DeploymentBuild.put_kernel.Goals as goal

pub step-requires : goal.step-requires
step-requires g c = λ v told.
    let needs = subst (λ t. Needs t v) (sym c.self.view_is) (c.requires.needs v told) in
    let is = ap (λ (t : Building). t.phase) c.self.view_is ∙ c.requires.phase in
    (kernel_in _ is v needs).part

pub invariant_of-self-2 : goal.invariant_of-self-2
invariant_of-self-2 g c =
    let is = ap (λ (t : Building). t.phase) c.self.view_is ∙ c.requires.phase in
    kernel_keeps _ c.self.invariant is c.step.new.self _ _ c.in_ok-inner.was c.step.ensures.stepped _ c.puts-self-inside.ensures

pub returns-clause-told : goal.returns-clause-told
returns-clause-told g c = λ v told.
    let needs = subst (λ t. Needs t v) (sym c.self.view_is) (c.requires.needs v told) in
    let is = ap (λ (t : Building). t.phase) c.self.view_is ∙ c.requires.phase in
    kernel_got _ _ c.self.view_is is v needs c.step.new.self _ _ c.in_ok-inner.was c.step.ensures.stepped _ c.puts-self-inside.ensures c.puts_turn.result c.puts_turn.ensures _ (c.step.ensures.told v told)
