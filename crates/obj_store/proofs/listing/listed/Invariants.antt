use Rattle.std.proofs.Common.{◌≡◌, ◌++◌}
use Rattle.obj_store.proofs.listing.listed.Given as goal

abbrev pub invariant-loop-object : goal.invariant-loop-object
invariant-loop-object l = l.objects.items ++ l.object-iterator ≡ l.found.keys
