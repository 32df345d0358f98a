use Rattle.std.proofs.Common.{◌≡◌, ◌≤◌, Some}
use Rattle.fs_trait.specs.View.{View}
use Rattle.staged_file.specs.Staged.{left}
use Rattle.staged_file.specs.Steps.{Needs}
use Rattle.staged_file.proofs.Wholes.{IsSame}
use Rattle.sys_open.specs.Changes.{Puts, Works}
use Rattle.sys_open.proofs.configure.put.Given as goal

-- the next step has what it needs, and so far the steps wrote what they may write
abbrev pub invariant-loop-task : goal.invariant-loop-task
invariant-loop-task g l = record {
  same : IsSame l.fn.task l.task;
  needs : (v : View) → g.F.Fs.view l.fs ≡ Some v → Needs l.task v;
  run : (v : View) → g.F.Fs.view l.fn.fs ≡ Some v
      → Works (Puts l.fn.task.stage l.fn.task.at l.fn.task.meta l.fn.task.bytes) v (g.F.Fs.clock l.fn.fs) (g.F.Fs.clock l.fs) (g.F.Fs.was l.fn.fs) (g.F.Fs.was l.fs) (g.F.Fs.view l.fs);
  later : g.F.Fs.clock l.fn.fs ≤ g.F.Fs.clock l.fs;
  faults : g.F.Fs.faults l.fn.fs ≤ g.F.Fs.faults l.fs;
}

abbrev pub decreases-loop-task : goal.decreases-loop-task
decreases-loop-task g l = left l.task
