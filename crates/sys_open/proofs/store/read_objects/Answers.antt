use Rattle.store_check.specs.declared.kept.SoundObjects.{SoundObjects}
use Rattle.sys_open.proofs.Stores.{objects_reason, objects_told, sound_passes}
use Rattle.sys_open.proofs.store.read_objects.Goals as goal

pub returns-in-Ok-clause-told : goal.returns-in-Ok-clause-told
returns-in-Ok-clause-told g c = λ v told. sound_passes c.args.limits.now v.now c.in-Ok.found.names.items (c.in-Ok.ensures.told v told).sound

pub returns-in-Err-clause-told : goal.returns-in-Err-clause-told
returns-in-Err-clause-told g c = λ v told. objects_told SoundObjects c.args.limits.now v.now c.in-Err.fault c.of_objects.result (c.in-Err.ensures.told v told) c.of_objects.ensures

pub returns-in-Err-clause-reason : goal.returns-in-Err-clause-reason
returns-in-Err-clause-reason g c = objects_reason SoundObjects _ _ c.in-Err.fault c.of_objects.result c.in-Err.ensures.cause c.of_objects.ensures
