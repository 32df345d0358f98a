use Rattle.std.proofs.Common.{◌≡◌, ◌⊎◌, ◌<◌, sym, ◌∙◌, ap, subst, Ok}
use Rattle.std.proofs.lemmas.Result.{err_from_is_err_and}
use Rattle.fs_trait.specs.declared.task.StepResult.TheVariants.{More}
use Rattle.fs_trait.specs.Change.{Writes}
use Rattle.staging.specs.declared.phase.Phase.TheVariants as stage
use Rattle.staging.specs.Draft as draft
use Rattle.staging.specs.Draft.{Draft}
use Rattle.staging.specs.Steps as stages
use Rattle.staged_file.specs.declared.phase.Phase.TheVariants.{Ended}
use Rattle.staged_file.specs.Staged.{Staged, IsStepped, left, phase_of, stage_in}
use Rattle.staged_file.specs.Steps.{Needs}
use Rattle.staged_file.proofs.StageLemmas.{draft_is, file_is, file_next, new_is, so_far, stage_after, stage_falls, stage_needs, stage_refuses, stage_room, stage_stepped, stage_takes, stage_writes}
use Rattle.staged_file.proofs.Wholes.{told_once}
use Rattle.staged_file.proofs.staged.StagedFile.stage.Goals as goal

pub step-requires : goal.step-requires
step-requires g c = λ v told.
    let file = file_is _ _ _ (draft_is c.self.inside.file _ c.self.invariant) c.self.view_is in
    subst (λ x. stages.Needs x v) (sym file) (stage_needs _ v (c.requires.needs v told) c.requires.phase)

pub returns-in_err-step-clause-writes : goal.returns-in_err-step-clause-writes
returns-in_err-step-clause-writes g c = λ v told.
    let file = file_is _ _ _ (draft_is c.self.inside.file _ c.self.invariant) c.self.view_is in
    let wrote = c.step.ensures.writes v told in
    (wrote.0, wrote.1, stage_writes _ v (c.requires.needs v told) c.requires.phase wrote.0 (subst (λ x. Writes (stages.WritesOf x v) v wrote.0) file wrote.2))

pub returns-in_err-step-clause-fails : goal.returns-in_err-step-clause-fails
returns-in_err-step-clause-fails g c = λ v told.
    let error = err_from_is_err_and c.from_residual.result c.from_residual.ensures.1 in
    rw (error.1, error.2) (stage_refuses c.self.inside.file c.args.self.now v _ (c.in_err-step.ensures.fails v told))

pub returns-in_err-step-clause-room : goal.returns-in_err-step-clause-room
returns-in_err-step-clause-room g c = stage_room _ c.requires.phase _ _ _ c.step.ensures.room

pub returns-clause-writes : goal.returns-clause-writes
returns-clause-writes g c = λ v told.
    let file = file_is _ _ _ (draft_is c.self.inside.file _ c.self.invariant) c.self.view_is in
    let wrote = c.step.ensures.writes v told in
    (wrote.0, wrote.1, stage_writes _ v (c.requires.needs v told) c.requires.phase wrote.0 (subst (λ x. Writes (stages.WritesOf x v) v wrote.0) file wrote.2))

pub returns-clause-after : goal.returns-clause-after
returns-clause-after g c = λ v told.
    let file = file_is _ _ _ (draft_is c.self.inside.file _ c.self.invariant) c.self.view_is in
    let next = file_next c.self.inside.file _ c.step.new.self c.in_ok-step.ensures.stepped ∙ ap draft.next file in
    let new = new_is _ _ c.step.new.self _ c.self.view_is (c.phase_of-self-inside.ensures ∙ ap phase_of c.phase.ensures) in
    let wrote = c.step.ensures.writes v told in
    let now = told_once _ _ (c.in_ok-step.ensures.after v told) wrote.0 wrote.1 in (
      wrote.0,
      wrote.1,
      subst (λ x. Needs x wrote.0) (sym new)
          (stage_after _ v (c.requires.needs v told) c.requires.phase wrote.0 (subst (λ x. Writes (stages.WritesOf x v) v wrote.0) file wrote.2) c.step.new.self now next),
    )

pub returns-clause-stepped : goal.returns-clause-stepped
returns-clause-stepped g c =
    let file = file_is _ _ _ (draft_is c.self.inside.file _ c.self.invariant) c.self.view_is in
    let next = file_next c.self.inside.file _ c.step.new.self c.in_ok-step.ensures.stepped ∙ ap draft.next file in
    let new = new_is _ _ c.step.new.self _ c.self.view_is (c.phase_of-self-inside.ensures ∙ ap phase_of c.phase.ensures) in
    subst (λ x. IsStepped {T = Unit {0}} c.args.self.now (Ok More) x) (sym new) (stage_stepped _ c.requires.phase c.step.new.self next)

pub returns-clause-falls : goal.returns-clause-falls
returns-clause-falls g c =
    let file = file_is _ _ _ (draft_is c.self.inside.file _ c.self.invariant) c.self.view_is in
    let new = new_is _ _ c.step.new.self _ c.self.view_is (c.phase_of-self-inside.ensures ∙ ap phase_of c.phase.ensures) in
    let falls = subst (λ (x : Draft). (draft.left c.step.new.self < draft.left x) ⊎ (x.phase ≡ stage.Ended)) file c.in_ok-step.ensures.falls in
    subst (λ (x : Staged). (left x < left c.args.self.now) ⊎ (c.args.self.now.phase ≡ Ended)) (sym new) (stage_falls _ c.requires.phase c.step.new.self falls)

pub returns-clause-ticks : goal.returns-clause-ticks
returns-clause-ticks g c =
    let file = file_is _ _ _ (draft_is c.self.inside.file _ c.self.invariant) c.self.view_is in
    stage_takes c.args.self.now c.self.inside.file file _ _ c.requires.phase c.in_ok-step.ensures.ticks

pub returns-clause-room : goal.returns-clause-room
returns-clause-room g c = stage_room _ c.requires.phase _ _ _ c.step.ensures.room

pub invariant_of-self : goal.invariant_of-self
invariant_of-self g c = ap (λ (x : Draft). x.phase) c.in_err-step.ensures.stepped ∙ c.self.invariant

pub invariant_of-self-2 : goal.invariant_of-self-2
invariant_of-self-2 g c = so_far c.step.new.self.phase ∙ ap stage_in (sym (c.phase_of-self-inside.ensures ∙ ap phase_of c.phase.ensures))
