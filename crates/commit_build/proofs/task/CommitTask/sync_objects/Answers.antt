use Rattle.std.proofs.Common.{None, sym, subst, ap, ◌∙◌}
use Rattle.commit_build.specs.declared.phase.Phase.TheVariants as phases
use Rattle.commit_build.specs.Committing.{Committing}
use Rattle.commit_build.specs.Steps.{Needs}
use Rattle.fs_trait.proofs.Answering.{ok_writes, ok_after, err_writes}
use Rattle.commit_build.proofs.PhaseSteps.{calm_tells, sync_objects}
use Rattle.commit_build.proofs.task.CommitTask.sync_objects.Goals as goal

pub returns-in_err-sync_all-clause-writes : goal.returns-in_err-sync_all-clause-writes
returns-in_err-sync_all-clause-writes g c = λ v told.
    err_writes _ _ v _ _ (sync_objects c.args.self.now v (g.met.F.Fs.tree c.args.fs.now v told) (c.requires.needs v told) c.requires.phase) _ _
    (c.in_err-sync_all.ensures.effect v told)

pub returns-clause-writes : goal.returns-clause-writes
returns-clause-writes g c = λ v told.
    ok_writes _ _ v _ _ (sync_objects c.args.self.now v (g.met.F.Fs.tree c.args.fs.now v told) (c.requires.needs v told) c.requires.phase) _
    (c.in_ok-sync_all.ensures.effect v told)

pub returns-clause-after : goal.returns-clause-after
returns-clause-after g c = λ v told.
    let needs = subst (λ t. Needs t v) (sym c.self.view_is) (c.requires.needs v told) in
    let phase = ap (λ (t : Committing). t.phase) c.self.view_is ∙ c.requires.phase in
    ok_after _ _ v _ _ (sync_objects _ v (g.met.F.Fs.tree c.args.fs.now v told) needs phase) _ (c.in_ok-sync_all.ensures.effect v told)

pub returns-clause-tells : goal.returns-clause-tells
returns-clause-tells g c = λ count v told. calm_tells count c.args.self.now None v _ phases.SyncObjects c.requires.phase (λ x. x) (λ x. x) _ (c.in_ok-sync_all.ensures.effect v told).1
