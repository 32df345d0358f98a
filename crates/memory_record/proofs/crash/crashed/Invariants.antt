use Rattle.std.proofs.Common.{◌≤◌, length}
use Rattle.memory_record.specs.Changes.{view_of}
use Rattle.memory_record.proofs.Leaving.{HasLeft}
use Rattle.memory_record.proofs.crash.crashed.Given as goal

abbrev pub invariant-loop-path : goal.invariant-loop-path
invariant-loop-path l = record {
  so_far : HasLeft l.changes l.choice.picks.items l.choice.fill l.path-items l.path-index l.names (view_of l.left.changes.items);
  long : length l.changes ≤ length l.left.changes.items;
}
