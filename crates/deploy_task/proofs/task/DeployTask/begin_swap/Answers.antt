use Rattle.std.proofs.Common.{refl, sym, ◌∙◌, ap, subst}
use Rattle.deploy_task.specs.Deploying.{Deploying, new_items}
use Rattle.deploy_task.specs.Steps.{Needs}
use Rattle.deploy_task.proofs.SwapPart.{begun_stepped, begun_told, list_as}
use Rattle.deploy_task.proofs.Telling.{told_as}
use Rattle.deploy_task.proofs.task.DeployTask.begin_swap.Goals as goal

pub new-swap-requires : goal.new-swap-requires
new-swap-requires c =
    let list = c.in_ok-items.ensures ∙ ap (new_items c.self.inside.deploy c.self.inside.id) c.deref.ensures.value in
    list_as _ (ap (λ (t : Deploying). t.phase) c.self.view_is ∙ c.requires) c.in_ok-items.items.items list c.self.invariant

pub returns-clause-stepped : goal.returns-clause-stepped
returns-clause-stepped c =
    let list = c.in_ok-items.ensures ∙ ap (new_items c.self.inside.deploy c.self.inside.id) c.deref.ensures.value in
    begun_stepped _ (ap (λ (t : Deploying). t.phase) c.self.view_is ∙ c.requires) c.in_ok-items.items.items list c.new-swap.result c.new-swap.ensures c.go_on.new.phase c.go_on.ensures _ c.self.view_is

pub returns-clause-told : goal.returns-clause-told
returns-clause-told c = λ v needs.
    let list = c.in_ok-items.ensures ∙ ap (new_items c.self.inside.deploy c.self.inside.id) c.deref.ensures.value in
    told_as _ _ _ _ c.self.view_is refl v _ _
    (begun_told _ (ap (λ (t : Deploying). t.phase) c.self.view_is ∙ c.requires) c.in_ok-items.items.items list c.new-swap.result c.new-swap.ensures c.go_on.new.phase c.go_on.ensures v
    (subst (λ t. Needs t v) (sym c.self.view_is) needs))
