use Rattle.std.proofs.Common.{◌≡◌, take}
use Rattle.durable_list.specs.Standing.{ids_of}
use Rattle.sys_open.proofs.unlisted.ids_of.Given as goal

abbrev pub invariant-loop-row : goal.invariant-loop-row
invariant-loop-row l = l.ids.items ≡ ids_of (take l.row-index l.rows)
