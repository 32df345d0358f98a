use Rattle.std.proofs.Common.{◌≡◌, Ok, refl, sym, ◌∙◌, ap, subst}
use Rattle.fs_trait.specs.declared.task.StepResult.TheVariants.{More, Done}
use Rattle.deploy_clean.specs.Steps.{Needs}
use Rattle.deploy_clean.proofs.Telling.{removal_done, removal_more, removal_needs, stepped_done, stepped_more, told_as}
use Rattle.deploy_clean.proofs.task.CleanTask.remove.Goals as goal

pub step-requires : goal.step-requires
step-requires g c = λ v told.
    let needs = subst (λ t. Needs t v) (sym c.self.view_is) (c.requires.needs v told) in
    removal_needs _ c.in-Remove.field-0 c.in-Remove.removing c.in-Remove.is v needs

pub returns-in-More-clause-told : goal.returns-in-More-clause-told
returns-in-More-clause-told g c = λ v told.
    let needs = subst (λ t. Needs t v) (sym c.self.view_is) (c.requires.needs v told) in
    let is : c.step.result ≡ Ok More = c.in_ok-step.was ∙ ap Ok c.in-More.is in
    let stepped = stepped_more c.in-Remove.removing c.step.new.self _ is c.step.ensures.stepped in
    told_as _ _ _ _ c.self.view_is refl v _ _
    (removal_more _ c.in-Remove.field-0 c.in-Remove.removing c.in-Remove.is v needs c.step.new.self stepped.0 _ (c.step.ensures.writes v told) (c.step.ensures.leaves v told) (c.in_ok-step.ensures.after v told))

pub returns-in-Done-clause-told : goal.returns-in-Done-clause-told
returns-in-Done-clause-told g c = λ v told.
    let needs = subst (λ t. Needs t v) (sym c.self.view_is) (c.requires.needs v told) in
    let is : c.step.result ≡ Ok (Done tt) = c.in_ok-step.was ∙ ap Ok c.in-Done.is in
    let stepped = stepped_done c.in-Remove.removing c.step.new.self _ is c.step.ensures.stepped in
    told_as _ _ _ _ c.self.view_is (sym c.end_removal.ensures) v _ _
    (removal_done _ c.in-Remove.field-0 c.in-Remove.removing c.in-Remove.is v needs c.step.new.self stepped.0 stepped.1 _ (c.step.ensures.writes v told) (c.step.ensures.leaves v told) (c.in_ok-step.ensures.after v told))
