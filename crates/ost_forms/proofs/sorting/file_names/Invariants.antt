use Rattle.std.proofs.Common.{◌≡◌, map, take}
use Rattle.ost_forms.specs.DirTree.{file_names}
use Rattle.ost_forms.specs.FileRow.{file_of}
use Rattle.ost_forms.proofs.sorting.file_names.Given as goal

abbrev pub invariant-loop-row : goal.invariant-loop-row
invariant-loop-row l = map (λ b. b.now) l.names.items ≡ file_names (map file_of (take l.row-index l.rows))
