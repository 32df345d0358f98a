use Rattle.ost_forms.specs.Rows.{xattr_form}
use Rattle.ost_forms.proofs.RowLists.{each_more}
use Rattle.ost_forms.proofs.xattrs.write_xattrs.Goals as goal

pub loop-xattr-preserved : goal.loop-xattr-preserved
loop-xattr-preserved c = rw c.in_ok-push.ensures.items (each_more xattr_form c.args.xattrs.now c.loop-xattr.xattr-index c.xattr-item.result _ _ c.loop-xattr-test.true c.xattr-item.is c.loop-xattr.invariant c.in_ok-write_xattr.ensures)
