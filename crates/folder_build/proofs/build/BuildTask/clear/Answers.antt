use Rattle.std.proofs.Common.{◌≡◌, Ok, sym, ◌∙◌, ap, subst}
use Rattle.fs_trait.specs.declared.task.StepResult.TheVariants.{More, Done}
use Rattle.folder_build.specs.Steps.{Needs}
use Rattle.folder_build.proofs.Clearing.{clear_ends, clear_goes, clear_needs, made_goes, stepped_done, stepped_more, told_both, told_with}
use Rattle.folder_build.proofs.build.BuildTask.clear.Goals as goal

pub step-requires : goal.step-requires
step-requires g c = λ v told.
    let needs = subst (λ t. Needs t v) (sym c.self.view_is) (c.requires.needs v told) in
    clear_needs c.in-Clear.removing _ c.in-Clear.is v needs

pub invariant_of-self-in-More : goal.invariant_of-self-in-More
invariant_of-self-in-More g c =
    let is : c.step.result ≡ Ok More = c.in_ok-step.was ∙ ap Ok c.in-More.is in
    made_goes _ c.in-Clear.removing c.step.new.self c.in-Clear.is c.self.invariant (stepped_more c.in-Clear.removing c.step.new.self _ is c.step.ensures.stepped)

pub returns-in-More-clause-after : goal.returns-in-More-clause-after
returns-in-More-clause-after g c = λ v told.
    let needs = subst (λ t. Needs t v) (sym c.self.view_is) (c.requires.needs v told) in
    let is : c.step.result ≡ Ok More = c.in_ok-step.was ∙ ap Ok c.in-More.is in
    told_both _ _ _ _ (clear_goes c.in-Clear.removing _ c.in-Clear.is v needs c.step.new.self (stepped_more c.in-Clear.removing c.step.new.self _ is c.step.ensures.stepped)) (c.step.ensures.writes v told) (c.in_ok-step.ensures.after v told)

pub returns-in-Done-clause-after : goal.returns-in-Done-clause-after
returns-in-Done-clause-after g c = λ v told.
    let needs = subst (λ t. Needs t v) (sym c.self.view_is) (c.requires.needs v told) in
    let is : c.step.result ≡ Ok (Done tt) = c.in_ok-step.was ∙ ap Ok c.in-Done.is in
    let s = stepped_done c.in-Clear.removing c.step.new.self _ is c.step.ensures.stepped in
    told_with _ _ _ _ (λ w shown. clear_ends c.in-Clear.removing _ c.in-Clear.is v needs c.step.new.self s.0 s.1 w (g.met.F.Fs.tree c.step.new.fs w shown)) (c.step.ensures.writes v told) (c.in_ok-step.ensures.after v told)
