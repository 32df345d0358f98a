use Rattle.std.proofs.Common.{◌≡◌, ◌++◌, length}
use Rattle.ost_types.specs.PathMap.{Nodes}
use Rattle.etc_merge.specs.Entries.{AllBefore}
use Rattle.etc_merge.proofs.entries.from_path.Given as goal

abbrev pub invariant-loop-first : goal.invariant-loop-first
invariant-loop-first l = (front : Nodes) × (l.entries ≡ front ++ l.left) × AllBefore front l.path

abbrev pub decreases-loop-first : goal.decreases-loop-first
decreases-loop-first l = length l.left
