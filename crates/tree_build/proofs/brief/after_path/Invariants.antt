use Rattle.std.proofs.Common.{◌≡◌, ◌+◌, length, take}
use Rattle.ost_types.specs.Path.{joined}
use Rattle.tree_build.proofs.brief.after_path.Given as goal

abbrev pub invariant-loop-name : goal.invariant-loop-name
invariant-loop-name l = l.fn.room ≡ length (joined (take l.name-index l.path)) + l.room
