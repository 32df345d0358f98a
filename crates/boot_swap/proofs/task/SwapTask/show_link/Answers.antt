use Rattle.std.proofs.Common.{◌≡◌, ◌∙◌, Ok, ap, sym, subst}
use Rattle.fs_trait.specs.declared.task.StepResult.TheVariants.{More, Done}
use Rattle.folder_build.specs.Link.{IsStepped}
use Rattle.folder_build.proofs.Clearing.{told_both}
use Rattle.boot_swap.specs.Steps.{Needs}
use Rattle.boot_swap.proofs.Making.{at_phase, needs_at}
use Rattle.boot_swap.proofs.Refusing.{wrote_as}
use Rattle.boot_swap.proofs.Showing.{link_done, link_more, linked_folder, linked_made}
use Rattle.boot_swap.specs.Swap.{Falls, IsMade, keeps_folder}
use Rattle.boot_swap.proofs.Falling.{falls_as, linked_falls}
use Rattle.boot_swap.specs.declared.phase.Phase.TheVariants as phase
use Rattle.boot_swap.proofs.task.SwapTask.show_link.Goals as goal

pub step-requires : goal.step-requires
step-requires g c = λ v told.
    let needs = needs_at _ _ _ v c.in-ShowLink.is (subst (λ t. Needs t v) (sym c.self.view_is) (c.requires.needs v told)) in
    needs.meets.2

pub returns-in-More-clause-after : goal.returns-in-More-clause-after
returns-in-More-clause-after g c = λ v told.
    let needs = needs_at _ _ _ v c.in-ShowLink.is (subst (λ t. Needs t v) (sym c.self.view_is) (c.requires.needs v told)) in
    let is : c.step.result ≡ Ok More = c.in_ok-step.was ∙ ap Ok c.in-More.is in
    let stepped = subst (λ r. IsStepped c.in-ShowLink.link r c.step.new.self) is c.step.ensures.stepped in
    told_both _ _ _ _ (λ w writes after. link_more _ _ _ c.in-ShowLink.link v needs w writes c.step.new.self after stepped) (c.step.ensures.writes v told) (c.in_ok-step.ensures.after v told)

pub returns-in-Done-clause-after : goal.returns-in-Done-clause-after
returns-in-Done-clause-after g c = λ v told.
    let needs = needs_at _ _ _ v c.in-ShowLink.is (subst (λ t. Needs t v) (sym c.self.view_is) (c.requires.needs v told)) in
    let is : c.step.result ≡ Ok (Done tt) = c.in_ok-step.was ∙ ap Ok c.in-Done.is in
    let stepped = subst (λ r. IsStepped c.in-ShowLink.link r c.step.new.self) is c.step.ensures.stepped in
    told_both _ _ _ _ (λ w writes after. subst (λ ph. Needs (at_phase c.self.inside.items.items ph) w) (sym c.linked.ensures) (link_done _ _ _ c.in-ShowLink.link v needs w writes c.step.new.self after tt stepped))
    (c.step.ensures.writes v told) (c.in_ok-step.ensures.after v told)

pub returns-in-Done-clause-falls : goal.returns-in-Done-clause-falls
returns-in-Done-clause-falls g c =
    falls_as c.args.self.now c.self.inside.items.items c.self.inside.phase (phase.ShowLink c.in-ShowLink.swap c.in-ShowLink.sub c.in-ShowLink.link) c.linked.result c.self.view_is c.in-ShowLink.is
    (subst (λ q. Falls q (phase.ShowLink c.in-ShowLink.swap c.in-ShowLink.sub c.in-ShowLink.link)) (sym c.linked.ensures) (linked_falls c.in-ShowLink.swap c.in-ShowLink.sub c.in-ShowLink.link))

pub returns-in-Done-clause-writes : goal.returns-in-Done-clause-writes
returns-in-Done-clause-writes g c = λ v told. wrote_as _ _ _ _ c.self.view_is c.in-ShowLink.is v _ (c.step.ensures.writes v told)

pub invariant_of-self-in-Done : goal.invariant_of-self-in-Done
invariant_of-self-in-Done g c =
    let kept = subst (λ q. keeps_folder q c.self.inside.folder) c.in-ShowLink.is c.self.invariant.0 in
    subst (λ q. keeps_folder q c.self.inside.folder × IsMade (at_phase c.self.inside.items.items q)) (sym c.linked.ensures)
    (linked_folder c.in-ShowLink.swap c.in-ShowLink.sub c.in-ShowLink.link _ kept, linked_made _ c.in-ShowLink.swap c.in-ShowLink.sub c.self.invariant.1.items)
