use Rattle.std.proofs.Common.{Some, sym, ◌∙◌, ap, subst}
use Rattle.std.proofs.lemmas.Result.{err_from_is_err_and}
use Rattle.fs_trait.specs.Effect.{IsNode}
use Rattle.fs_trait.proofs.Kept.{same_view}
use Rattle.obj_store.specs.declared.phase.Phase.TheVariants as phases
use Rattle.obj_store.specs.Putting.{Putting}
use Rattle.obj_store.specs.Steps.{Needs, WritesOf}
use Rattle.obj_store.proofs.Lookups.{is_absent, is_directory}
use Rattle.obj_store.proofs.PutLemmas.{make_folder_at, folder_there_at, ok_writes, ok_after, err_writes, err_fails, err_unchanged, told_folder}
use Rattle.obj_store.proofs.task.PutTask.make_folder.Goals as goal
use Rattle.obj_store.proofs.task.PutTask.make_folder.Goals.{in-None+in_ok-mkdir-in-None, in-Some-Folder}

pub returns-in_err-mkdir-in-None-clause-writes : goal.returns-in_err-mkdir-in-None-clause-writes
returns-in_err-mkdir-in-None-clause-writes g c = λ v told.
    let needs = subst (λ t. Needs t v) (sym c.self.view_is) (c.requires.needs v told) in
    let phase = ap (λ (t : Putting). t.phase) c.self.view_is ∙ c.requires.phase in
    let tree = g.met.F.Fs.tree c.args.fs.now v told in
    let still = c.in_ok-stat.ensures.quiet.view ∙ told in
    let absent = is_absent v.now _ (subst (IsNode v.now (v.now.at c.self.inside.folder)) c.in-None.is (c.in_ok-stat.ensures.answer v told).1) in
    err_writes _ _ _ c.self.view_is v _ _ (make_folder_at _ v needs phase c.self.inside.folder c.self.invariant.1 _ tree absent) _ _ (c.in_err-mkdir-in-None.ensures.effect v still)

pub returns-in_err-mkdir-in-None-clause-fails : goal.returns-in_err-mkdir-in-None-clause-fails
returns-in_err-mkdir-in-None-clause-fails g c = λ v told.
    let needs = subst (λ t. Needs t v) (sym c.self.view_is) (c.requires.needs v told) in
    let phase = ap (λ (t : Putting). t.phase) c.self.view_is ∙ c.requires.phase in
    let tree = g.met.F.Fs.tree c.args.fs.now v told in
    let still = c.in_ok-stat.ensures.quiet.view ∙ told in
    let absent = is_absent v.now _ (subst (IsNode v.now (v.now.at c.self.inside.folder)) c.in-None.is (c.in_ok-stat.ensures.answer v told).1) in
    let error = err_from_is_err_and c.from_residual-in_err-mkdir-in-None.result c.from_residual-in_err-mkdir-in-None.ensures.1 in
    rw (error.1, error.2) (err_fails _ _ _ c.self.view_is v _ _ (make_folder_at _ v needs phase c.self.inside.folder c.self.invariant.1 _ tree absent) _ _ (c.in_err-mkdir-in-None.ensures.effect v still))

pub returns-in_err-mkdir-in-None-clause-unchanged : goal.returns-in_err-mkdir-in-None-clause-unchanged
returns-in_err-mkdir-in-None-clause-unchanged g c = λ v told.
    let needs = subst (λ t. Needs t v) (sym c.self.view_is) (c.requires.needs v told) in
    let phase = ap (λ (t : Putting). t.phase) c.self.view_is ∙ c.requires.phase in
    let tree = g.met.F.Fs.tree c.args.fs.now v told in
    let still = c.in_ok-stat.ensures.quiet.view ∙ told in
    let absent = is_absent v.now _ (subst (IsNode v.now (v.now.at c.self.inside.folder)) c.in-None.is (c.in_ok-stat.ensures.answer v told).1) in
    let error = err_from_is_err_and c.from_residual-in_err-mkdir-in-None.result c.from_residual-in_err-mkdir-in-None.ensures.1 in
    rw (error.1, error.2) (λ is. err_unchanged _ _ _ c.self.view_is v _ _ (make_folder_at _ v needs phase c.self.inside.folder c.self.invariant.1 _ tree absent) _ _ (c.in_err-mkdir-in-None.ensures.effect v still) is)

pub returns-clause-writes : goal.returns-clause-writes
returns-clause-writes g c = λ v told.
    let needs = subst (λ t. Needs t v) (sym c.self.view_is) (c.requires.needs v told) in
    let phase = ap (λ (t : Putting). t.phase) c.self.view_is ∙ c.requires.phase in
    let tree = g.met.F.Fs.tree c.args.fs.now v told in
    let still = c.in_ok-stat.ensures.quiet.view ∙ told in
    elim c.match-branch-2.branch [
      | in-None+in_ok-mkdir-in-None w ↦ rw w.fs-is (ok_writes _ _ _ c.self.view_is v _ _ (make_folder_at _ v needs phase c.self.inside.folder c.self.invariant.1 _ tree (is_absent v.now _ (subst (IsNode v.now (v.now.at c.self.inside.folder)) w.in-None.is (c.in_ok-stat.ensures.answer v told).1))) _ (w.in_ok-mkdir-in-None.ensures.effect v still))
      | in-Some-Folder w ↦ rw w.fs-is (v, still, same_view (WritesOf c.args.self.now v) v)
    ]

pub returns-clause-after : goal.returns-clause-after
returns-clause-after g c = λ v told.
    let needs = subst (λ t. Needs t v) (sym c.self.view_is) (c.requires.needs v told) in
    let phase = ap (λ (t : Putting). t.phase) c.self.view_is ∙ c.requires.phase in
    let tree = g.met.F.Fs.tree c.args.fs.now v told in
    let still = c.in_ok-stat.ensures.quiet.view ∙ told in
    elim c.match-branch-2.branch [
      | in-None+in_ok-mkdir-in-None w ↦ rw w.fs-is (ok_after _ _ _ c.self.view_is v _ _ (make_folder_at _ v needs phase c.self.inside.folder c.self.invariant.1 _ tree (is_absent v.now _ (subst (IsNode v.now (v.now.at c.self.inside.folder)) w.in-None.is (c.in_ok-stat.ensures.answer v told).1))) _ (w.in_ok-mkdir-in-None.ensures.effect v still))
      | in-Some-Folder w ↦ rw w.fs-is (v, still, folder_there_at _ v needs phase c.self.inside.folder c.self.invariant.1 (is_directory v.now _ _ (subst (IsNode v.now (v.now.at c.self.inside.folder)) (w.in-Some-Folder.is ∙ ap Some w.in-Some-Folder.field-0-is) (c.in_ok-stat.ensures.answer v told).1)))
    ]

pub returns-clause-tells : goal.returns-clause-tells
returns-clause-tells g c = λ v told.
    let still = c.in_ok-stat.ensures.quiet.view ∙ told in
    elim c.match-branch-2.branch [
      | in-None+in_ok-mkdir-in-None w ↦ rw w.fs-is (told_folder c.args.self.now v _ phases.Link c.requires.phase _ (w.in_ok-mkdir-in-None.ensures.effect v still).1)
      | in-Some-Folder w ↦ rw w.fs-is (told_folder c.args.self.now v v phases.Link c.requires.phase _ still)
    ]
