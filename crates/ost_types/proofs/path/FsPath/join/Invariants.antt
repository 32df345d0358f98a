use Rattle.std.proofs.Common.{◌≡◌, ◌++◌, take}
use Rattle.ost_types.proofs.path.FsPath.join.Given as goal

abbrev pub invariant-loop-name : goal.invariant-loop-name
invariant-loop-name l = l.names.items ≡ l.self ++ take l.name-index l.name-items
