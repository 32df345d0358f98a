use Rattle.std.proofs.Common.{subst, Ok, Err}
use Rattle.obj_store.specs.Lookup.{Loads}
use Rattle.store_check.proofs.Damages.{absent_sound, load_ends, loaded_sound}
use Rattle.store_check.proofs.objects.damage.Goals as goal

pub returns-in-Ok-Some-clause-told : goal.returns-in-Ok-Some-clause-told
returns-in-Ok-Some-clause-told g c = λ v told.
    let loads = subst (λ o. Loads v.now c.args.name.now c.args.limits.now.content (Ok o)) c.in-Ok-Some.field-0-is (c.in-Ok-Some.ensures.told v told) in
    rw c.no_fault.ensures.none (loaded_sound v.now c.args.limits.now.content c.args.name.now c.in-Ok-Some.object loads c.no_fault.ensures.formed)

pub returns-in-Ok-None-clause-told : goal.returns-in-Ok-None-clause-told
returns-in-Ok-None-clause-told g c = λ v told.
    absent_sound v.now c.args.limits.now.content c.args.name.now (subst (λ o. Loads v.now c.args.name.now c.args.limits.now.content (Ok o)) c.in-Ok-None.field-0-is (c.in-Ok-None.ensures.told v told))

pub returns-in-Err-Damaged-clause-told : goal.returns-in-Err-Damaged-clause-told
returns-in-Err-Damaged-clause-told g c = λ v told. subst (λ f. Loads v.now c.args.name.now c.args.limits.now.content (Err f)) c.in-Err-Damaged.field-0-is (c.in-Err-Damaged.ensures.told v told)

pub returns-in-Err-Fs-clause-told : goal.returns-in-Err-Fs-clause-told
returns-in-Err-Fs-clause-told g c = λ v told.
    load_ends v.now c.args.limits.now.content c.args.name.now c.in-Err-Fs.refusal (subst (λ f. Loads v.now c.args.name.now c.args.limits.now.content (Err f)) c.in-Err-Fs.field-0-is (c.in-Err-Fs.ensures.told v told))
