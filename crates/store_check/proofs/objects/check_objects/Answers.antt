use Rattle.std.proofs.Common.{◌∙◌, sym, subst, arith}
use Rattle.std.proofs.lemmas.Result.{err_from_is_err_and}
use Rattle.store_check.specs.Listing.{AreAll}
use Rattle.store_check.proofs.Damages.{number_end, each_end, all_sound}
use Rattle.store_check.proofs.objects.check_objects.Goals as goal

pub check_each-requires : goal.check_each-requires
check_each-requires g c = (
  c.type_bounds.sync-R,
  λ v told. subst (AreAll v.now) (sym c.as_slice.ensures.value) (c.in_ok-names.ensures.told v (sym c.list_objects.ensures.quiet.view ∙ told)),
)

pub returns-in_err-check_number-clause-told : goal.returns-in_err-check_number-clause-told
returns-in_err-check_number-clause-told g c = λ v told.
    let error = err_from_is_err_and c.from_residual-in_err-check_number.result c.from_residual-in_err-check_number.ensures.1 in
    rw (error.1, error.2) (number_end v.now c.args.limits.now c.in_ok-names.names.items (c.in_ok-names.ensures.told v told) _ (c.in_err-check_number.ensures.many.0, omega (arith, c.in_err-check_number.ensures.many.1, c.len.ensures)))

pub returns-in_err-kept-clause-told : goal.returns-in_err-kept-clause-told
returns-in_err-kept-clause-told g c = λ v told.
    let error = err_from_is_err_and c.from_residual-in_err-kept.result c.from_residual-in_err-kept.ensures.1 in
    rw (error.1, error.2) (each_end v.now c.args.limits.now c.in_ok-names.names.items (c.in_ok-names.ensures.told v told) (omega (arith, c.in_ok-check_number.ensures.few, c.len.ensures)) _ (c.in_err-kept.ensures.told v (c.list_objects.ensures.quiet.view ∙ told)))

pub returns-clause-told : goal.returns-clause-told
returns-clause-told g c = λ v told.
    let each = c.in_ok-kept.ensures.told v (c.list_objects.ensures.quiet.view ∙ told) in
    record { sound = all_sound v.now c.args.limits.now c.in_ok-names.names.items (c.in_ok-names.ensures.told v told) (omega (arith, c.in_ok-check_number.ensures.few, c.len.ensures)) each.0; theirs = each.1 }
