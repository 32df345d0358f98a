use Rattle.std.proofs.Common.{◌≡◌, Ok, refl, sym, ◌∙◌, ap, subst}
use Rattle.fs_trait.specs.declared.task.StepResult.TheVariants.{More, Done}
use Rattle.file_copy.specs.Putting.{Putting}
use Rattle.file_copy.specs.PutSteps.{Needs}
use Rattle.file_copy.proofs.PutLemmas.{copy_ends, copy_goes, copy_last, copy_more, copy_needs, copy_same, last_ends, stepped_as, told_both}
use Rattle.file_copy.proofs.putting.PutCopy.copy.Goals as goal

pub step-requires : goal.step-requires
step-requires g c = λ v told.
    let needs = subst (λ t. Needs t v) (sym c.self.view_is) (c.requires.needs v told) in
    let is = ap (λ (t : Putting). t.phase) c.self.view_is ∙ c.requires.phase in
    copy_needs _ v needs is

pub returns-in-More-clause-after : goal.returns-in-More-clause-after
returns-in-More-clause-after g c = λ v told.
    let needs = subst (λ t. Needs t v) (sym c.self.view_is) (c.requires.needs v told) in
    let is = ap (λ (t : Putting). t.phase) c.self.view_is ∙ c.requires.phase in
    let turn : c.step.result ≡ Ok More = c.in_ok-step.was ∙ ap Ok c.in-More.is in
    let goes = stepped_as _ c.step.new.self _ More turn c.step.ensures.stepped in
    told_both _ (copy_goes _ v needs is c.step.new.self (copy_same _ _ goes.0)) (c.step.ensures.writes v told) (c.in_ok-step.ensures.after v told)

pub returns-in-More-clause-stepped : goal.returns-in-More-clause-stepped
returns-in-More-clause-stepped g c =
    let turn : c.step.result ≡ Ok More = c.in_ok-step.was ∙ ap Ok c.in-More.is in
    copy_more _ _ c.self.view_is c.requires.phase c.step.new.self (stepped_as _ c.step.new.self _ More turn c.step.ensures.stepped)

pub returns-in-Done-clause-after : goal.returns-in-Done-clause-after
returns-in-Done-clause-after g c = λ v told.
    let needs = subst (λ t. Needs t v) (sym c.self.view_is) (c.requires.needs v told) in
    let is = ap (λ (t : Putting). t.phase) c.self.view_is ∙ c.requires.phase in
    let turn : c.step.result ≡ Ok (Done tt) = c.in_ok-step.was ∙ ap Ok c.in-Done.is in
    let goes = stepped_as _ c.step.new.self _ (Done tt) turn c.step.ensures.stepped in
    told_both _ (copy_ends _ v needs is c.step.new.self (copy_same _ _ goes.0) (last_ends _ _ _ refl goes.0 goes.1)) (c.step.ensures.writes v told) (c.in_ok-step.ensures.after v told)

pub returns-in-Done-clause-stepped : goal.returns-in-Done-clause-stepped
returns-in-Done-clause-stepped g c =
    let turn : c.step.result ≡ Ok (Done tt) = c.in_ok-step.was ∙ ap Ok c.in-Done.is in
    copy_last _ _ c.self.view_is c.requires.phase c.step.new.self (stepped_as _ c.step.new.self _ (Done tt) turn c.step.ensures.stepped)
