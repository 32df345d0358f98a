use Rattle.std.proofs.Common.{◌≡◌, ◌≤◌, ◌+◌, length, take, All}
use Rattle.sys_open.specs.Walk.{AreReached, paths_in}
use Rattle.sys_open.proofs.children.paths_of.Given as goal

abbrev pub invariant-loop-name : goal.invariant-loop-name
invariant-loop-name l =
    (l.paths.items ≡ paths_in l.folder (take l.name-index l.names)) × AreReached l.folder (take l.name-index l.names)
    × All (λ p. (length p ≡ length l.folder + 1) × (length p ≤ 80)) l.paths.items
