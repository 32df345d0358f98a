use Rattle.std.proofs.Common.{sym, ap, ◌∙◌, arith}
use Rattle.gv_core.specs.Container.{container_form}
use Rattle.ost_forms.specs.declared.object_type.ObjectType.TheVariants as types
use Rattle.ost_forms.specs.TypeText.{type_text}
use Rattle.ost_forms.proofs.Parts.{xattr_count, two_are}
use Rattle.ost_forms.proofs.xattrs.read_xattr.Goals as goal

pub prove-unreachable-requires : goal.prove-unreachable-requires
prove-unreachable-requires c =
    let form = rw (c.requires) at c.in_ok-parts.ensures.found in
    let count = xattr_count _ _ form in
    grind (arith, count)

pub returns : goal.returns
returns c =
    let form = rw (c.requires) at c.in_ok-parts.ensures.found in
    let parts = two_are _ _ _ (xattr_count _ _ form) c.index.ensures c.index-2.ensures in
    rw (c.in_ok-from_slice.ensures, c.in_ok-from_slice-2.ensures) (ap (container_form (type_text types.Xattr)) (sym parts) ∙ form)
