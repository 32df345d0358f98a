use Rattle.std.proofs.Common.{sym, ◌∙◌, ap, subst}
use Rattle.obj_store.specs.Putting.{Putting}
use Rattle.obj_store.specs.Steps.{Needs}
use Rattle.obj_store.proofs.PutLemmas.{look_stage, look_home, staged_on, both_told, cleared, unstaged}
use Rattle.obj_store.proofs.task.PutTask.look.Goals as goal

pub step-requires : goal.step-requires
step-requires g c = λ v told.
    let needs = subst (λ t. Needs t v) (sym c.self.view_is) (c.requires.needs v (sym c.in_ok-stat.ensures.quiet.view ∙ told)) in
    let phase = ap (λ (t : Putting). t.phase) c.self.view_is ∙ c.requires.phase in
    look_stage _ v needs c.in-File.staging c.in-File.is phase

pub returns-in_ok-step-in-File-clause-after : goal.returns-in_ok-step-in-File-clause-after
returns-in_ok-step-in-File-clause-after g c = λ v told.
    let still = c.in_ok-stat.ensures.quiet.view ∙ told in
    let needs = subst (λ t. Needs t v) (sym c.self.view_is) (c.requires.needs v told) in
    let phase = ap (λ (t : Putting). t.phase) c.self.view_is ∙ c.requires.phase in
    let both = both_told _ _ _ (c.in_ok-step-in-File.ensures.after v still) (c.in_ok-step-in-File.ensures.writes v still) in
    let next = cleared _ v needs c.in-File.staging c.in-File.is c.step.new.self _ phase c.in_ok-step-in-File.ensures.stepped in
    (both.0, both.1, staged_on _ v needs c.in-File.staging c.in-File.is c.step.new.self both.0 next both.2 (look_stage _ v needs c.in-File.staging c.in-File.is phase) both.3 (look_home _ v needs c.in-File.staging c.in-File.is phase))

pub returns-in-Link-clause-after : goal.returns-in-Link-clause-after
returns-in-Link-clause-after g c = λ v told.
    let needs = subst (λ t. Needs t v) (sym c.self.view_is) (c.requires.needs v told) in
    let phase = ap (λ (t : Putting). t.phase) c.self.view_is ∙ c.requires.phase in
    (v, c.in_ok-stat.ensures.quiet.view ∙ told, unstaged _ v c.in-Link.meta c.in-Link.target needs c.in-Link.is phase)
