use Rattle.std.proofs.Common.{◌≡◌, length, take}
use Rattle.ost_types.specs.Path.{joined}
use Rattle.tree_read.proofs.children.is_short.Given as goal

abbrev pub invariant-loop-name : goal.invariant-loop-name
invariant-loop-name l = l.bytes ≡ length (joined (take l.name-index l.names))
