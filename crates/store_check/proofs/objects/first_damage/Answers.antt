use Rattle.std.proofs.Common.{inl, refl}
use Rattle.store_check.specs.Objects.{attributes_of}
use Rattle.store_check.proofs.Damages.{ends_beside, found_sound}
use Rattle.store_check.proofs.objects.first_damage.Goals as goal

pub returns-in-Ok-None-clause-told : goal.returns-in-Ok-None-clause-told
returns-in-Ok-None-clause-told g c = λ v told.
    inl (refl, refl, λ entries. found_sound v.now c.args.limits.now.content (attributes_of c.args.name) _ c.in-Ok-None.field-0-is (c.in-Ok-None.ensures.told v told))

pub returns-in-Err-clause-told : goal.returns-in-Err-clause-told
returns-in-Err-clause-told g c = λ v told. ends_beside v.now c.args.limits.now.content c.args.name (attributes_of c.args.name) c.args.fault c.in-Err.fault (c.in-Err.ensures.told v told)
