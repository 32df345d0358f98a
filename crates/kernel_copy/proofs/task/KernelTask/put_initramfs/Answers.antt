use Rattle.std.proofs.Common.{◌≡◌, Ok, refl, sym, ◌∙◌, ap, subst}
use Rattle.fs_trait.specs.declared.task.StepResult.TheVariants.{More, Done}
use Rattle.kernel_copy.specs.Work.{KernelCopying}
use Rattle.kernel_copy.specs.Steps.{Needs}
use Rattle.kernel_copy.proofs.PutFacts.{put_ends, put_same, stepped_as}
use Rattle.kernel_copy.proofs.Telling.{second_done, second_in, second_told, told_as}
use Rattle.kernel_copy.proofs.task.KernelTask.put_initramfs.Goals as goal

pub step-requires : goal.step-requires
step-requires g c = λ v told.
    let needs = subst (λ t. Needs t v) (sym c.self.view_is) (c.requires.needs v told) in
    let is = ap (λ (t : KernelCopying). t.phase) c.self.view_is ∙ c.requires.phase in
    second_in _ is c.in-Some.putting c.in-Some.is v needs

pub returns-in-More-clause-told : goal.returns-in-More-clause-told
returns-in-More-clause-told g c = λ v told.
    let needs = subst (λ t. Needs t v) (sym c.self.view_is) (c.requires.needs v told) in
    let is = ap (λ (t : KernelCopying). t.phase) c.self.view_is ∙ c.requires.phase in
    let turn : c.step.result ≡ Ok More = c.in_ok-step.was ∙ ap Ok c.in-More.is in
    let same = put_same _ c.step.new.self More (stepped_as _ c.step.new.self _ More turn c.step.ensures.stepped) in
    told_as _ _ _ _ c.self.view_is refl v _ _
    (second_told _ is c.in-Some.putting c.in-Some.is v _ (c.step.ensures.writes v told) c.self.invariant needs c.step.new.self same (c.in_ok-step.ensures.after v told) (c.in_ok-step.ensures.spares v told))

pub returns-in-Done-clause-told : goal.returns-in-Done-clause-told
returns-in-Done-clause-told g c = λ v told.
    let needs = subst (λ t. Needs t v) (sym c.self.view_is) (c.requires.needs v told) in
    let is = ap (λ (t : KernelCopying). t.phase) c.self.view_is ∙ c.requires.phase in
    let turn : c.step.result ≡ Ok (Done tt) = c.in_ok-step.was ∙ ap Ok c.in-Done.is in
    let stepped = stepped_as _ c.step.new.self _ (Done tt) turn c.step.ensures.stepped in
    let same = put_same _ c.step.new.self (Done tt) stepped in
    told_as _ _ _ _ c.self.view_is refl v _ _
    (second_done _ is c.in-Some.putting c.in-Some.is v _ (c.step.ensures.writes v told) c.self.invariant needs c.step.new.self same (c.in_ok-step.ensures.after v told) (c.in_ok-step.ensures.spares v told) (put_ends _ c.step.new.self stepped))
