use Rattle.std.proofs.Common.{◌≡◌, ◌≤◌, ◌*◌, reverse, take}
use Rattle.checkout.specs.Remove.{waiting}
use Rattle.checkout.proofs.remove.RemoveTask.waiting.Given as goal

-- so far the names in the first folders, and as many more
abbrev pub invariant-loop-folder : goal.invariant-loop-folder
invariant-loop-folder l = (l.steps ≡ waiting (reverse (take l.folder-index l.folder-items))) × (l.steps ≤ l.folder-index * 18446744073709551616)
