use Rattle.ost_forms.specs.DirTree.{folder_form}
use Rattle.ost_forms.proofs.RowLists.{each_more}
use Rattle.ost_forms.proofs.tree_bytes.write_folders.Goals as goal

pub loop-item-preserved : goal.loop-item-preserved
loop-item-preserved c = rw c.in_ok-push.ensures.items (each_more folder_form c.args.items.now c.loop-item.item-index c.item-item.result _ _ c.loop-item-test.true c.item-item.is c.loop-item.invariant c.in_ok-write_folder.ensures)
