use Rattle.std.proofs.Common.{◌≡◌, map, take}
use Rattle.ost_types.specs.Path.{under}
use Rattle.tree_scan.proofs.children.children_of.Given as goal

-- the paths of the names so far
abbrev pub invariant-loop-name : goal.invariant-loop-name
invariant-loop-name l = l.below.items ≡ map (under l.folder) (take l.name-index l.names)
