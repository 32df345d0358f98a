use Rattle.std.proofs.Common.{◌≡◌, take, Some}
use Rattle.ost_forms.specs.Rows.{each, xattr_form}
use Rattle.ost_forms.proofs.xattrs.write_xattrs.Given as goal

abbrev pub invariant-loop-xattr : goal.invariant-loop-xattr
invariant-loop-xattr l = each xattr_form (take l.xattr-index l.xattrs) ≡ Some l.rows.items
