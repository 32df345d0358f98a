use Rattle.std.proofs.Common.{Ok, sym, ◌∙◌, ap, subst}
use Rattle.file_copy.specs.Comparing.{Answers, OnDone}
use Rattle.file_copy.specs.Putting.{Putting}
use Rattle.file_copy.specs.PutSteps.{Needs}
use Rattle.file_copy.proofs.PutLemmas.{compare_differs, compare_ends, compare_goes, compare_needs, compare_same}
use Rattle.file_copy.proofs.putting.PutCopy.compare.Goals as goal

pub step-requires : goal.step-requires
step-requires g c = λ v told.
    let needs = subst (λ t. Needs t v) (sym c.self.view_is) (c.requires.needs v told) in
    let is = ap (λ (t : Putting). t.phase) c.self.view_is ∙ c.requires.phase in
    compare_needs _ v needs is

pub returns-in-More-clause-after : goal.returns-in-More-clause-after
returns-in-More-clause-after g c = λ v told.
    let needs = subst (λ t. Needs t v) (sym c.self.view_is) (c.requires.needs v told) in
    let is = ap (λ (t : Putting). t.phase) c.self.view_is ∙ c.requires.phase in
    (v, c.step.ensures.quiet.view ∙ told, compare_goes _ v needs is c.step.new.self (compare_same _ c.step.new.self _ _ c.in_ok-step.was c.step.ensures.stepped) (c.in_ok-step.ensures.after v told))

pub returns-in-Done-clause-after : goal.returns-in-Done-clause-after
returns-in-Done-clause-after g c = λ v told.
    let needs = subst (λ t. Needs t v) (sym c.self.view_is) (c.requires.needs v told) in
    let is = ap (λ (t : Putting). t.phase) c.self.view_is ∙ c.requires.phase in
    let answer = subst (λ x. OnDone (Ok x) (Answers v.now c.self.inside.comparing)) c.in-Done.is (c.in_ok-step.ensures.answer v told) in
    (v, c.step.ensures.quiet.view ∙ told, subst (λ x. Needs x v) (sym c.compared.ensures.task) (compare_ends _ v needs is c.step.new.self (compare_same _ c.step.new.self _ _ c.in_ok-step.was c.step.ensures.stepped) c.in-Done.same answer))

pub returns-in-Done-clause-spares : goal.returns-in-Done-clause-spares
returns-in-Done-clause-spares g c = λ v told.
    let answer = subst (λ x. OnDone (Ok x) (Answers v.now c.self.inside.comparing)) c.in-Done.is (c.in_ok-step.ensures.answer v told) in
    compare_differs _ _ c.compared.new.self c.self.view_is c.self.invariant v.now c.in-Done.same answer (ap (λ (t : Putting). t.phase) c.compared.ensures.task)
