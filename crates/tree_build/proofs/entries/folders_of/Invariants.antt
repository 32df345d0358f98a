use Rattle.std.proofs.Common.{◌≡◌, ◌≤◌, length, drop}
use Rattle.tree_build.specs.Objects.{children, folders_of}
use Rattle.tree_build.specs.Building.{all_seen}
use Rattle.tree_build.proofs.entries.folders_of.Given as goal

abbrev pub invariant-loop-at : goal.invariant-loop-at
invariant-loop-at l = record { within : l.at ≤ length l.made; done : l.folders ≡ folders_of (children l.folder (all_seen l.items (drop l.at l.made))) }

abbrev pub decreases-loop-at : goal.decreases-loop-at
decreases-loop-at l = l.at
