use Rattle.std.proofs.Common.{◌≡◌, take}
use Rattle.list_family.specs.Family.{unused}
use Rattle.list_family.proofs.status.status_rows.Given as goal

abbrev pub invariant-loop-id : goal.invariant-loop-id
invariant-loop-id l = l.rows.items ≡ unused (take l.id-index l.deployments)
