use Rattle.std.proofs.Common.{None, Ok, Err, sym, subst, ap, ◌∙◌}
use Rattle.std.proofs.lemmas.Result.{err_from_is_err_and}
use Rattle.commit_build.specs.declared.phase.Phase.TheVariants as phases
use Rattle.commit_build.specs.Committing.{Committing}
use Rattle.commit_build.specs.Steps.{Needs}
use Rattle.commit_build.proofs.PhaseSteps.{calm_tells, taken_writes, taken_after, taken_fails, taken_unchanged, told_as}
use Rattle.commit_build.proofs.task.CommitTask.unmark.Goals as goal

pub returns-in_err-take_mark-clause-writes : goal.returns-in_err-take_mark-clause-writes
returns-in_err-take_mark-clause-writes g c = λ v told.
    let needs = subst (λ t. Needs t v) (sym c.self.view_is) (c.requires.needs v told) in
    told_as _ _ c.self.view_is v _ (taken_writes _ v (g.met.F.Fs.tree c.args.fs.now v told) needs c.in-Unmark.commit c.in-Unmark.is _ c.in_ok-mark.ensures (Err _) _ (c.in_err-take_mark.ensures.effect v told))

pub returns-in_err-take_mark-clause-fails : goal.returns-in_err-take_mark-clause-fails
returns-in_err-take_mark-clause-fails g c = λ v told.
    let error = err_from_is_err_and c.from_residual-in_err-take_mark.result c.from_residual-in_err-take_mark.ensures.1 in
    rw (error.1, error.2) (taken_fails _ v c.args.self.now.phase _ _ (c.in_err-take_mark.ensures.effect v told))

pub returns-in_err-take_mark-clause-unchanged : goal.returns-in_err-take_mark-clause-unchanged
returns-in_err-take_mark-clause-unchanged g c = λ v told.
    let error = err_from_is_err_and c.from_residual-in_err-take_mark.result c.from_residual-in_err-take_mark.ensures.1 in
    rw (error.1, error.2) (λ is. taken_unchanged _ v _ _ (c.in_err-take_mark.ensures.effect v told) is)

pub returns-clause-writes : goal.returns-clause-writes
returns-clause-writes g c = λ v told.
    let needs = subst (λ t. Needs t v) (sym c.self.view_is) (c.requires.needs v told) in
    told_as _ _ c.self.view_is v _ (taken_writes _ v (g.met.F.Fs.tree c.args.fs.now v told) needs c.in-Unmark.commit c.in-Unmark.is _ c.in_ok-mark.ensures (Ok _) _ (c.in_ok-take_mark.ensures.effect v told))

pub returns-clause-after : goal.returns-clause-after
returns-clause-after g c = λ v told.
    let needs = subst (λ t. Needs t v) (sym c.self.view_is) (c.requires.needs v told) in
    taken_after _ v (g.met.F.Fs.tree c.args.fs.now v told) needs c.in-Unmark.commit c.in-Unmark.is _ c.in_ok-mark.ensures _ _ (c.in_ok-take_mark.ensures.effect v told)

pub returns-clause-tells : goal.returns-clause-tells
returns-clause-tells g c = λ count v told.
    let needs = subst (λ t. Needs t v) (sym c.self.view_is) (c.requires.needs v told) in
    let phase = sym (ap (λ (t : Committing). t.phase) c.self.view_is) ∙ c.in-Unmark.is in
    let after = taken_writes _ v (g.met.F.Fs.tree c.args.fs.now v told) needs c.in-Unmark.commit c.in-Unmark.is _ c.in_ok-mark.ensures (Ok _) _ (c.in_ok-take_mark.ensures.effect v told) in
    calm_tells count c.args.self.now None v _ (phases.Unmark c.in-Unmark.commit) phase (λ x. x) (λ x. x) _ after.1
