use Rattle.std.proofs.Common.{◌∙◌, sym}
use Rattle.std.proofs.lemmas.Result.{err_from_is_err_and}
use Rattle.std.specs.Global.{Vec}
use Rattle.ost_types.specs.declared.object.ObjName.{ObjName}
use Rattle.store_check.specs.declared.kept.SoundObjects.{SoundObjects}
use Rattle.sys_open.proofs.Stores.{commits_fault, objects_fault, sound_passes, store_passes}
use Rattle.sys_open.proofs.check.objects_of.Goals as goal

pub returns-in_err-found-clause-told : goal.returns-in_err-found-clause-told
returns-in_err-found-clause-told g c = λ v told.
    let error = err_from_is_err_and c.from_residual.result c.from_residual.ensures.1 in
    rw (error.1, error.2) (objects_fault SoundObjects (Vec ObjName) c.args.limits.now v.now _ (c.in_err-found.ensures.told v told))

pub look_at_commits-requires : goal.look_at_commits-requires
look_at_commits-requires g c = λ u now.
    c.in_ok-found.ensures.found u (sym c.read_objects.ensures.quiet.view ∙ now)

pub returns-in_err-look_at_commits-clause-told : goal.returns-in_err-look_at_commits-clause-told
returns-in_err-look_at_commits-clause-told g c = λ v told.
    let error = err_from_is_err_and c.from_residual-in_err-look_at_commits.result c.from_residual-in_err-look_at_commits.ensures.1 in
    rw (error.1, error.2) (commits_fault c.args.limits.now v.now c.args.refs.now (c.requires v told).ascending (c.requires v told).logical (sound_passes c.args.limits.now v.now _ (c.in_ok-found.ensures.found v told).sound) (Unit {0}) (Vec ObjName) _ (c.in_err-look_at_commits.ensures.told v (c.read_objects.ensures.quiet.view ∙ told)))

pub returns-clause-told : goal.returns-clause-told
returns-clause-told g c = λ v told.
    store_passes c.args.limits.now v.now c.args.refs.now (c.requires v told).ascending (c.requires v told).logical (sound_passes c.args.limits.now v.now _ (c.in_ok-found.ensures.found v told).sound) (Unit {0}) tt (c.in_ok-look_at_commits.ensures.told v (c.read_objects.ensures.quiet.view ∙ told))

pub returns-clause-all : goal.returns-clause-all
returns-clause-all g c = λ v told. (c.in_ok-found.ensures.found v told).sound.all
