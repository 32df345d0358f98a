use Rattle.std.proofs.lemmas.Result.{err_from_is_err_and}
use Rattle.gv_core.specs.Container.{container_form}
use Rattle.gv_core.proofs.Raws.{step_at, at_end}
use Rattle.ost_forms.specs.declared.object_type.ObjectType.TheVariants as types
use Rattle.ost_forms.specs.TypeText.{type_text}
use Rattle.ost_forms.specs.Rows.{xattr_form, xattrs_form}
use Rattle.ost_forms.proofs.RowLists.{reading_start, reading_next, reading_end, array_found, fails_part, row_of}
use Rattle.ost_forms.proofs.xattrs.read_xattrs.Goals as goal

pub loop-row-init : goal.loop-row-init
loop-row-init c = rw c.in_ok-xattrs.ensures.items (reading_start xattr_form _)

pub loop-row-preserved : goal.loop-row-preserved
loop-row-preserved c = rw c.in_ok-push.ensures.items (reading_next xattr_form _ _ _ _ _ _ c.loop-row.invariant (step_at _ _ _ c.loop-row-test.true) c.in_ok-read_xattr.ensures)

pub returns-in_err-read_xattr : goal.returns-in_err-read_xattr
returns-in_err-read_xattr c =
    let p = err_from_is_err_and c.from_residual-in_err-read_xattr.result c.from_residual-in_err-read_xattr.ensures.1 in
    let own = rw (c.in_ok-list_kind.ensures, ← c.deref-row-items.ensures.value) at c.in_ok-rows.ensures.own in
    let at = step_at _ _ _ c.loop-row-test.true in
    rw (p.1, p.2) (fails_part (λ xs. xs) (λ x. x) xattrs_form xattr_form _ _ c.in_err-read_xattr.field-0.0 (row_of xattr_form (container_form (type_text types.Xattrs)) _ _ _ _ _ _ own c.loop-row.invariant at) c.in_err-read_xattr.ensures)

pub returns : goal.returns
returns c =
    let found = rw (c.in_ok-list_kind.ensures, ← c.deref-row-items.ensures.value) at c.in_ok-rows.ensures.found in
    rw c.from_vec.ensures (array_found xattr_form (container_form (type_text types.Xattrs)) _ _ _ (reading_end xattr_form _ _ _ c.loop-row.invariant (at_end _ _ c.loop-row-test.false)) found)
