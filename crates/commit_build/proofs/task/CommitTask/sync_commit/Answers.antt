use Rattle.std.proofs.Common.{None, sym, subst, ap, ◌∙◌}
use Rattle.commit_build.specs.declared.phase.Phase.TheVariants as phases
use Rattle.commit_build.specs.Committing.{Committing}
use Rattle.commit_build.specs.Steps.{Needs}
use Rattle.fs_trait.proofs.Answering.{ok_writes, ok_after, err_writes}
use Rattle.commit_build.proofs.PhaseSteps.{as_is, calm_tells, sync_commit}
use Rattle.commit_build.proofs.task.CommitTask.sync_commit.Goals as goal

pub returns-in_err-sync_all-clause-writes : goal.returns-in_err-sync_all-clause-writes
returns-in_err-sync_all-clause-writes g c = λ v told.
    let needs = subst (λ t. Needs t v) (sym c.self.view_is) (c.requires.needs v told) in
    let step = sync_commit _ v (g.met.F.Fs.tree c.args.fs.now v told) needs c.in-SyncCommit.commit c.in-SyncCommit.is in
    err_writes _ _ v _ _ (as_is _ _ c.self.view_is v _ _ _ step) _ _ (c.in_err-sync_all.ensures.effect v told)

pub returns-clause-writes : goal.returns-clause-writes
returns-clause-writes g c = λ v told.
    let needs = subst (λ t. Needs t v) (sym c.self.view_is) (c.requires.needs v told) in
    let step = sync_commit _ v (g.met.F.Fs.tree c.args.fs.now v told) needs c.in-SyncCommit.commit c.in-SyncCommit.is in
    ok_writes _ _ v _ _ (as_is _ _ c.self.view_is v _ _ _ step) _ (c.in_ok-sync_all.ensures.effect v told)

pub returns-clause-after : goal.returns-clause-after
returns-clause-after g c = λ v told.
    let needs = subst (λ t. Needs t v) (sym c.self.view_is) (c.requires.needs v told) in
    let step = sync_commit _ v (g.met.F.Fs.tree c.args.fs.now v told) needs c.in-SyncCommit.commit c.in-SyncCommit.is in
    ok_after _ _ v _ _ step _ (c.in_ok-sync_all.ensures.effect v told)

pub returns-clause-tells : goal.returns-clause-tells
returns-clause-tells g c = λ count v told.
    let phase = sym (ap (λ (t : Committing). t.phase) c.self.view_is) ∙ c.in-SyncCommit.is in
    calm_tells count c.args.self.now None v _ (phases.SyncCommit c.in-SyncCommit.commit) phase (λ x. x) (λ x. x) _ (c.in_ok-sync_all.ensures.effect v told).1
