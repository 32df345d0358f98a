use Rattle.deploy_list.proofs.Places.{Told}
use Rattle.deploy_list.proofs.kept.kept_behind.Given as goal

abbrev pub invariant-loop-place : goal.invariant-loop-place
invariant-loop-place l = Told l.list l.os l.used l.place l.places.items l.has_source
