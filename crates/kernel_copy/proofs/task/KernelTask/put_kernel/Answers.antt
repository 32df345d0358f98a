use Rattle.std.proofs.Common.{◌≡◌, Ok, refl, sym, ◌∙◌, ap, subst}
use Rattle.fs_trait.specs.declared.task.StepResult.TheVariants.{More, Done}
use Rattle.kernel_copy.specs.Work.{KernelCopying}
use Rattle.kernel_copy.specs.Steps.{Needs}
use Rattle.kernel_copy.proofs.PutFacts.{put_ends, put_same, stepped_as}
use Rattle.kernel_copy.proofs.Telling.{first_done, first_ends, first_goes, first_told, kernel_in, told_as}
use Rattle.kernel_copy.proofs.task.KernelTask.put_kernel.Goals as goal

pub step-requires : goal.step-requires
step-requires g c = λ v told.
    let needs = subst (λ t. Needs t v) (sym c.self.view_is) (c.requires.needs v told) in
    let is = ap (λ (t : KernelCopying). t.phase) c.self.view_is ∙ c.requires.phase in
    kernel_in _ is v needs

pub returns-in-More-clause-told : goal.returns-in-More-clause-told
returns-in-More-clause-told g c = λ v told.
    let needs = subst (λ t. Needs t v) (sym c.self.view_is) (c.requires.needs v told) in
    let is = ap (λ (t : KernelCopying). t.phase) c.self.view_is ∙ c.requires.phase in
    let turn : c.step.result ≡ Ok More = c.in_ok-step.was ∙ ap Ok c.in-More.is in
    let same = put_same _ c.step.new.self More (stepped_as _ c.step.new.self _ More turn c.step.ensures.stepped) in
    told_as _ _ _ _ c.self.view_is refl v _ _ (first_told _ is v _ (c.step.ensures.writes v told) c.self.invariant needs c.step.new.self same (c.in_ok-step.ensures.after v told) (c.in_ok-step.ensures.spares v told))

pub returns-in-More-clause-stepped : goal.returns-in-More-clause-stepped
returns-in-More-clause-stepped g c =
    let turn : c.step.result ≡ Ok More = c.in_ok-step.was ∙ ap Ok c.in-More.is in
    first_goes _ _ c.self.view_is c.requires.phase c.step.new.self (stepped_as _ c.step.new.self _ More turn c.step.ensures.stepped)

pub returns-in-Done-clause-told : goal.returns-in-Done-clause-told
returns-in-Done-clause-told g c = λ v told.
    let needs = subst (λ t. Needs t v) (sym c.self.view_is) (c.requires.needs v told) in
    let is = ap (λ (t : KernelCopying). t.phase) c.self.view_is ∙ c.requires.phase in
    let turn : c.step.result ≡ Ok (Done tt) = c.in_ok-step.was ∙ ap Ok c.in-Done.is in
    let stepped = stepped_as _ c.step.new.self _ (Done tt) turn c.step.ensures.stepped in
    let same = put_same _ c.step.new.self (Done tt) stepped in
    told_as _ _ _ _ c.self.view_is (sym c.begin_second.ensures.task) v _ _
    (first_done _ is v _ (c.step.ensures.writes v told) c.self.invariant needs c.step.new.self same (c.in_ok-step.ensures.after v told) (c.in_ok-step.ensures.spares v told) (put_ends _ c.step.new.self stepped) c.begin_second.result c.begin_second.ensures.turn)

pub returns-in-Done-clause-stepped : goal.returns-in-Done-clause-stepped
returns-in-Done-clause-stepped g c =
    let turn : c.step.result ≡ Ok (Done tt) = c.in_ok-step.was ∙ ap Ok c.in-Done.is in
    first_ends _ _ c.self.view_is c.requires.phase c.step.new.self (stepped_as _ c.step.new.self _ (Done tt) turn c.step.ensures.stepped) _ _ c.begin_second.ensures.task c.begin_second.ensures.turn
