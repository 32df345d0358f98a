use Rattle.std.proofs.Common.{map, drop}
use Rattle.ost_forms.specs.DirTree.{folder_form}
use Rattle.ost_forms.specs.FileRow.{folder_of}
use Rattle.ost_forms.proofs.RowLists.{Reading}
use Rattle.ost_forms.proofs.rows.read_folders.Given as goal

abbrev pub invariant-loop-part : goal.invariant-loop-part
invariant-loop-part l = Reading folder_form (map folder_of l.rows.items) (map (λ b. b.now) (drop l.part-index l.part-items)) (map (λ b. b.now) l.part-items)
