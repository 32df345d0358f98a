use Rattle.std.proofs.Common.{◌≡◌, map, take}
use Rattle.ost_forms.specs.FileRow.{file_of}
use Rattle.ost_forms.proofs.dirtree.file_items.Given as goal

abbrev pub invariant-loop-row : goal.invariant-loop-row
invariant-loop-row l = l.items.items ≡ map file_of (take l.row-index l.rows)
