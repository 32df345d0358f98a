use Rattle.std.proofs.Common.{Ok, sym, ◌∙◌, ap, subst}
use Rattle.staging.specs.Draft as draft
use Rattle.obj_store.specs.declared.source.Source.TheVariants.{File}
use Rattle.obj_store.specs.Putting.{Putting}
use Rattle.obj_store.specs.Steps.{Needs}
use Rattle.obj_store.proofs.PutLemmas.{stage_stage, stage_home, staged_on, staged_whole, both_told}
use Rattle.obj_store.proofs.task.PutTask.stage.Goals as goal

pub step-requires : goal.step-requires
step-requires g c = λ v told.
    let needs = subst (λ t. Needs t v) (sym c.self.view_is) (c.requires.needs v told) in
    let phase = ap (λ (t : Putting). t.phase) c.self.view_is ∙ c.requires.phase in
    stage_stage _ v needs c.in-File.staging c.in-File.is phase

pub returns-in-More-clause-after : goal.returns-in-More-clause-after
returns-in-More-clause-after g c = λ v told.
    let needs = subst (λ t. Needs t v) (sym c.self.view_is) (c.requires.needs v told) in
    let phase = ap (λ (t : Putting). t.phase) c.self.view_is ∙ c.requires.phase in
    let both = both_told _ _ _ (c.in_ok-step.ensures.after v told) (c.in_ok-step.ensures.writes v told) in
    let next = subst (λ r. draft.IsStepped {T = Unit {0}} c.in-File.staging (Ok r) c.step.new.self) c.in-More.is c.in_ok-step.ensures.stepped in (
      both.0,
      both.1,
      subst (λ ph. Needs (record { actor = c.self.inside.actor; name = c.self.inside.name; source = File c.step.new.self; phase = ph }) both.0) (sym phase)
          (staged_on _ v needs c.in-File.staging c.in-File.is c.step.new.self both.0 next both.2 (stage_stage _ v needs c.in-File.staging c.in-File.is phase) both.3 (stage_home _ v needs c.in-File.staging c.in-File.is phase)),
    )

pub returns-in-Done-clause-after : goal.returns-in-Done-clause-after
returns-in-Done-clause-after g c = λ v told.
    let needs = subst (λ t. Needs t v) (sym c.self.view_is) (c.requires.needs v told) in
    let phase = ap (λ (t : Putting). t.phase) c.self.view_is ∙ c.requires.phase in
    let both = both_told _ _ _ (c.in_ok-step.ensures.after v told) (c.in_ok-step.ensures.writes v told) in
    let next = subst (λ r. draft.IsStepped {T = Unit {0}} c.in-File.staging (Ok r) c.step.new.self) c.in-Done.is c.in_ok-step.ensures.stepped in
    (both.0, both.1, staged_whole _ v needs c.in-File.staging c.in-File.is c.step.new.self both.0 next both.2 (stage_stage _ v needs c.in-File.staging c.in-File.is phase) both.3 (stage_home _ v needs c.in-File.staging c.in-File.is phase))
