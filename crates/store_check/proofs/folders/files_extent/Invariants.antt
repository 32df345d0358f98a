use Rattle.store_check.proofs.Folding.{FilesSoFar}
use Rattle.store_check.proofs.folders.files_extent.Given as goal

-- the objects of the files so far are listed
abbrev pub invariant-loop-item : goal.invariant-loop-item
invariant-loop-item l = FilesSoFar l.objects.names.items l.files l.item-index l.extent
