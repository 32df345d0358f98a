use Rattle.std.proofs.Common.{sym, ap, ◌∙◌}
use Rattle.commit_build.specs.Committing.{Committing}
use Rattle.commit_build.specs.declared.phase.Phase.TheVariants as phases
use Rattle.commit_build.proofs.Rooms.{told_calm}
use Rattle.commit_build.proofs.task.CommitTask.step.Goals as goal

pub returns-in-SyncObjects-clause-tells : goal.returns-in-SyncObjects-clause-tells
returns-in-SyncObjects-clause-tells g c = λ v told. c.sync_objects.ensures.tells c.args.count v told

pub returns-in-SyncCommit-clause-tells : goal.returns-in-SyncCommit-clause-tells
returns-in-SyncCommit-clause-tells g c = λ v told. c.sync_commit.ensures.tells c.args.count v told

pub returns-in-Unmark-clause-tells : goal.returns-in-Unmark-clause-tells
returns-in-Unmark-clause-tells g c = λ v told. c.unmark.ensures.tells c.args.count v told

pub returns-in-SyncState-clause-tells : goal.returns-in-SyncState-clause-tells
returns-in-SyncState-clause-tells g c = λ v told. c.sync_state.ensures.tells c.args.count v told

pub returns-in_ok-work-in_default-clause-after : goal.returns-in_ok-work-in_default-clause-after
returns-in_ok-work-in_default-clause-after g c = λ v told. (v, told, c.in_ok-work-in_default.ensures.after v (c.requires v told))

pub returns-in-SyncCommit-clause-few : goal.returns-in-SyncCommit-clause-few
returns-in-SyncCommit-clause-few g c = λ v told. told_calm c.args.self.now c.args.count v _ (phases.SyncCommit _) (sym (ap (λ (t : Committing). t.phase) c.self.view_is) ∙ c.in-SyncCommit.is) (λ links. links) (c.sync_commit.ensures.writes v told)

pub returns-in-Unmark-clause-few : goal.returns-in-Unmark-clause-few
returns-in-Unmark-clause-few g c = λ v told. told_calm c.args.self.now c.args.count v _ (phases.Unmark _) (sym (ap (λ (t : Committing). t.phase) c.self.view_is) ∙ c.in-Unmark.is) (λ links. links) (c.unmark.ensures.writes v told)

pub returns-in-SyncState-clause-few : goal.returns-in-SyncState-clause-few
returns-in-SyncState-clause-few g c = λ v told. told_calm c.args.self.now c.args.count v _ (phases.SyncState _) (sym (ap (λ (t : Committing). t.phase) c.self.view_is) ∙ c.in-SyncState.is) (λ links. links) (c.sync_state.ensures.writes v told)
