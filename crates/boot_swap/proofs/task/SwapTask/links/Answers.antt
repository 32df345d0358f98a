use Rattle.std.proofs.Common.{◌≡◌, ◌∙◌, Ok, ap, sym, subst}
use Rattle.fs_trait.specs.declared.task.StepResult.TheVariants.{More, Done}
use Rattle.folder_build.specs.Build.{IsStepped}
use Rattle.folder_build.proofs.Clearing.{told_both}
use Rattle.boot_swap.specs.Steps.{Needs}
use Rattle.boot_swap.proofs.Making.{at_phase, links_done, links_made, links_more, made_at, needs_at}
use Rattle.boot_swap.specs.Swap.{Falls}
use Rattle.boot_swap.proofs.Falling.{falls_as, filled_falls}
use Rattle.boot_swap.specs.declared.phase.Phase.TheVariants as phase
use Rattle.boot_swap.proofs.task.SwapTask.links.Goals as goal

pub step-requires : goal.step-requires
step-requires g c = λ v told.
    let needs = needs_at _ _ _ v c.in-Links.is (subst (λ t. Needs t v) (sym c.self.view_is) (c.requires.needs v told)) in
    needs.meets.2

pub invariant_of-self-in-More : goal.invariant_of-self-in-More
invariant_of-self-in-More g c =
    let is : c.step.result ≡ Ok More = c.in_ok-step.was ∙ ap Ok c.in-More.is in
    let stepped = subst (λ r. IsStepped c.in-Links.build r c.step.new.self) is c.step.ensures.stepped in
    (tt, links_made _ _ _ c.in-Links.build c.step.new.self (made_at _ _ _ c.in-Links.is c.self.invariant.1) stepped)

pub returns-in-More-clause-after : goal.returns-in-More-clause-after
returns-in-More-clause-after g c = λ v told.
    let needs = needs_at _ _ _ v c.in-Links.is (subst (λ t. Needs t v) (sym c.self.view_is) (c.requires.needs v told)) in
    let is : c.step.result ≡ Ok More = c.in_ok-step.was ∙ ap Ok c.in-More.is in
    let stepped = subst (λ r. IsStepped c.in-Links.build r c.step.new.self) is c.step.ensures.stepped in
    told_both _ _ _ _ (λ w writes after. links_more _ _ _ c.in-Links.build v needs w writes c.step.new.self after stepped) (c.step.ensures.writes v told) (c.in_ok-step.ensures.after v told)

pub returns-in-Done-clause-after : goal.returns-in-Done-clause-after
returns-in-Done-clause-after g c = λ v told.
    let needs = needs_at _ _ _ v c.in-Links.is (subst (λ t. Needs t v) (sym c.self.view_is) (c.requires.needs v told)) in
    let is : c.step.result ≡ Ok (Done tt) = c.in_ok-step.was ∙ ap Ok c.in-Done.is in
    let stepped = subst (λ r. IsStepped c.in-Links.build r c.step.new.self) is c.step.ensures.stepped in
    told_both _ _ _ _ (λ w writes after. subst (λ ph. Needs (at_phase c.self.inside.items.items ph) w) (sym c.filled.ensures) (links_done _ _ _ c.in-Links.build v needs w writes c.step.new.self after tt stepped))
    (c.step.ensures.writes v told) (c.in_ok-step.ensures.after v told)

pub returns-in-Done-clause-falls : goal.returns-in-Done-clause-falls
returns-in-Done-clause-falls g c =
    falls_as c.args.self.now c.self.inside.items.items c.self.inside.phase (phase.Links c.in-Links.swap c.in-Links.sub c.in-Links.build) c.filled.result c.self.view_is c.in-Links.is
    (subst (λ q. Falls q (phase.Links c.in-Links.swap c.in-Links.sub c.in-Links.build)) (sym c.filled.ensures) (filled_falls c.in-Links.swap c.in-Links.sub c.in-Links.build))
