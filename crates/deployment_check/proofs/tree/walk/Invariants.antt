use Rattle.std.proofs.Common.{◌≡◌, ◌≤◌, Some}
use Rattle.fs_trait.specs.View.{View}
use Rattle.fs_trait.specs.Effect.{IsQuiet}
use Rattle.tree_read.specs.Reading.{IsSoFar, left_of}
use Rattle.tree_walk.specs.Standing.{Standing}
use Rattle.deployment_check.proofs.tree.walk.Given as goal

-- the commit stays, what was found so far is what the disk has, and nothing was written
abbrev pub invariant-steps : goal.invariant-steps
invariant-steps g l = record {
  commit_is : l.walking.commit ≡ l.fn.task.commit;
  limits_are : l.walking.limits ≡ l.fn.task.limits;
  so_far : (v : View) → g.F.Fs.view l.fn.fs ≡ Some v → IsSoFar (Standing v.now) l.walking;
  quiet : IsQuiet (g.F.Fs.clock l.fn.fs) (g.F.Fs.clock l.fs) (g.F.Fs.was l.fn.fs) (g.F.Fs.was l.fs) (g.F.Fs.view l.fn.fs) (g.F.Fs.view l.fs);
  room : g.F.Fs.spare l.fn.fs ≤ g.F.Fs.spare l.fs;
  faults : g.F.Fs.faults l.fn.fs ≤ g.F.Fs.faults l.fs;
}

abbrev pub decreases-steps : goal.decreases-steps
decreases-steps g l = left_of l.walking
