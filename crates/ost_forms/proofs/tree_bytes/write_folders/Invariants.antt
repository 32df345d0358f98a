use Rattle.std.proofs.Common.{◌≡◌, take, Some}
use Rattle.ost_forms.specs.Rows.{each}
use Rattle.ost_forms.specs.DirTree.{folder_form}
use Rattle.ost_forms.proofs.tree_bytes.write_folders.Given as goal

abbrev pub invariant-loop-item : goal.invariant-loop-item
invariant-loop-item l = each folder_form (take l.item-index l.items) ≡ Some l.rows.items
