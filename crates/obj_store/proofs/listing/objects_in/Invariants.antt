use Rattle.obj_store.proofs.ListLemmas.{AreFound}
use Rattle.obj_store.proofs.listing.objects_in.Given as goal

-- of the names so far the objects are found
abbrev pub invariant-loop-name : goal.invariant-loop-name
invariant-loop-name l = AreFound l.first l.name-index l.name-items l.found.keys
