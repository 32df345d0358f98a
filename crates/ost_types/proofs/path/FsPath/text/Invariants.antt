use Rattle.std.proofs.Common.{◌≡◌, take}
use Rattle.ost_types.specs.Path.{joined}
use Rattle.ost_types.proofs.path.FsPath.text.Given as goal

abbrev pub invariant-loop-name : goal.invariant-loop-name
invariant-loop-name l = l.text ≡ joined (take l.name-index l.name-items)
