use Rattle.std.proofs.Common.{◌≡◌, map, take}
use Rattle.ost_forms.specs.DirTree.{folder_names}
use Rattle.ost_forms.specs.FileRow.{folder_of}
use Rattle.ost_forms.proofs.sorting.folder_names.Given as goal

abbrev pub invariant-loop-row : goal.invariant-loop-row
invariant-loop-row l = map (λ b. b.now) l.names.items ≡ folder_names (map folder_of (take l.row-index l.rows))
