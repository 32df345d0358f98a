use Rattle.std.proofs.Common.{◌≡◌, ◌∙◌, Ok, ap, sym, subst}
use Rattle.fs_trait.specs.declared.task.StepResult.TheVariants.{More, Done}
use Rattle.folder_build.specs.Link.{IsStepped}
use Rattle.folder_build.proofs.Clearing.{told_both}
use Rattle.boot_swap.specs.Steps.{Needs}
use Rattle.boot_swap.proofs.Making.{needs_at}
use Rattle.boot_swap.proofs.Showing.{loader_done, loader_more}
use Rattle.boot_swap.proofs.task.SwapTask.show_loader.Goals as goal

pub step-requires : goal.step-requires
step-requires g c = λ v told.
    let needs = needs_at _ _ _ v c.in-ShowLoader.is (subst (λ t. Needs t v) (sym c.self.view_is) (c.requires.needs v told)) in
    needs.meets.2

pub returns-in-More-clause-after : goal.returns-in-More-clause-after
returns-in-More-clause-after g c = λ v told.
    let needs = needs_at _ _ _ v c.in-ShowLoader.is (subst (λ t. Needs t v) (sym c.self.view_is) (c.requires.needs v told)) in
    let is : c.step.result ≡ Ok More = c.in_ok-step.was ∙ ap Ok c.in-More.is in
    let stepped = subst (λ r. IsStepped c.in-ShowLoader.link r c.step.new.self) is c.step.ensures.stepped in
    told_both _ _ _ _ (λ w writes after. loader_more _ _ c.in-ShowLoader.link v needs w writes c.step.new.self after stepped) (c.step.ensures.writes v told) (c.in_ok-step.ensures.after v told)

pub returns-in-Done-clause-after : goal.returns-in-Done-clause-after
returns-in-Done-clause-after g c = λ v told.
    let needs = needs_at _ _ _ v c.in-ShowLoader.is (subst (λ t. Needs t v) (sym c.self.view_is) (c.requires.needs v told)) in
    let is : c.step.result ≡ Ok (Done tt) = c.in_ok-step.was ∙ ap Ok c.in-Done.is in
    let stepped = subst (λ r. IsStepped c.in-ShowLoader.link r c.step.new.self) is c.step.ensures.stepped in
    told_both _ _ _ _ (λ w writes after. loader_done _ _ c.in-ShowLoader.link v needs w writes c.step.new.self after tt stepped) (c.step.ensures.writes v told) (c.in_ok-step.ensures.after v told)
