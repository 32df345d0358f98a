use Rattle.std.proofs.Common.{sym, subst, ap, ◌∙◌}
use Rattle.std.proofs.lemmas.Result.{err_from_is_err_and}
use Rattle.obj_store.specs.Putting.{Putting}
use Rattle.obj_store.specs.Steps.{Needs}
use Rattle.obj_store.proofs.PutLemmas.{unlink_at, ok_writes, ok_after, err_writes, err_fails, told_end}
use Rattle.obj_store.proofs.task.PutTask.unlink.Goals as goal

pub returns-in_err-unlink-clause-writes : goal.returns-in_err-unlink-clause-writes
returns-in_err-unlink-clause-writes g c = λ v told.
    let needs = subst (λ t. Needs t v) (sym c.self.view_is) (c.requires.needs v told) in
    let tree = g.met.F.Fs.tree c.args.fs.now v told in
    err_writes _ _ _ c.self.view_is v _ _ (unlink_at _ v needs c.in-File.staging c.in-File.is c.in-Unlink.put _ c.stage.ensures tree c.in-Unlink.is) _ _ (c.in_err-unlink.ensures.effect v told)

pub returns-in_err-unlink-clause-fails : goal.returns-in_err-unlink-clause-fails
returns-in_err-unlink-clause-fails g c = λ v told.
    let needs = subst (λ t. Needs t v) (sym c.self.view_is) (c.requires.needs v told) in
    let tree = g.met.F.Fs.tree c.args.fs.now v told in
    let error = err_from_is_err_and c.from_residual.result c.from_residual.ensures.1 in
    rw (error.1, error.2) (err_fails _ _ _ c.self.view_is v _ _ (unlink_at _ v needs c.in-File.staging c.in-File.is c.in-Unlink.put _ c.stage.ensures tree c.in-Unlink.is) _ _ (c.in_err-unlink.ensures.effect v told))

pub returns-clause-writes : goal.returns-clause-writes
returns-clause-writes g c = λ v told.
    let needs = subst (λ t. Needs t v) (sym c.self.view_is) (c.requires.needs v told) in
    let tree = g.met.F.Fs.tree c.args.fs.now v told in
    ok_writes _ _ _ c.self.view_is v _ _ (unlink_at _ v needs c.in-File.staging c.in-File.is c.in-Unlink.put _ c.stage.ensures tree c.in-Unlink.is) _ (c.in_ok-unlink.ensures.effect v told)

pub returns-clause-after : goal.returns-clause-after
returns-clause-after g c = λ v told.
    let needs = subst (λ t. Needs t v) (sym c.self.view_is) (c.requires.needs v told) in
    let tree = g.met.F.Fs.tree c.args.fs.now v told in
    ok_after _ _ _ c.self.view_is v _ _ (unlink_at _ v needs c.in-File.staging c.in-File.is c.in-Unlink.put _ c.stage.ensures tree c.in-Unlink.is) _ (c.in_ok-unlink.ensures.effect v told)

pub returns-clause-tells : goal.returns-clause-tells
returns-clause-tells g c = λ v told.
    told_end c.args.self.now v c.in-File.staging (sym (ap (λ (t : Putting). t.source) c.self.view_is) ∙ c.in-File.is) _ c.stage.ensures c.in-Unlink.put c.in-Unlink.put (sym (ap (λ (t : Putting). t.phase) c.self.view_is) ∙ c.in-Unlink.is) _ _ (c.in_ok-unlink.ensures.effect v told)
