use Rattle.std.proofs.Common.{◌≡◌, Some}
use Rattle.fs_trait.specs.View.{View}
use Rattle.fs_trait.specs.Image.{Told}
use Rattle.fs_trait.specs.Change.{Writes}
use Rattle.staged_file.specs.Staged.{left}
use Rattle.staged_file.specs.Steps.{Needs}
use Rattle.staged_file.specs.Whole.{Written}
use Rattle.staged_file.proofs.Wholes.{IsSame}
use Rattle.staged_file_check.proofs.one_file.step_on.Given as goal

-- the next step has what it needs, and so far the steps wrote what they may write
abbrev pub invariant-loop-task : goal.invariant-loop-task
invariant-loop-task g l = record {
  same : IsSame l.fn.task l.task;
  needs : (v : View) → g.F.Fs.view l.fs ≡ Some v → Needs l.task v;
  run : (v : View) → g.F.Fs.view l.fn.fs ≡ Some v → Told (g.F.Fs.view l.fs) (Writes (Written l.fn.task) v);
}

abbrev pub decreases-loop-task : goal.decreases-loop-task
decreases-loop-task g l = left l.task
