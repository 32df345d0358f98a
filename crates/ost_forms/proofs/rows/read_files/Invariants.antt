use Rattle.std.proofs.Common.{map, drop}
use Rattle.ost_forms.specs.DirTree.{file_form}
use Rattle.ost_forms.specs.FileRow.{file_of}
use Rattle.ost_forms.proofs.RowLists.{Reading}
use Rattle.ost_forms.proofs.rows.read_files.Given as goal

abbrev pub invariant-loop-part : goal.invariant-loop-part
invariant-loop-part l = Reading file_form (map file_of l.rows.items) (map (λ b. b.now) (drop l.part-index l.part-items)) (map (λ b. b.now) l.part-items)
