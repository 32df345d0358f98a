use Rattle.std.proofs.Common.{◌≡◌, ◌≤◌, Some}
use Rattle.fs_trait.specs.View.{View}
use Rattle.fs_trait.specs.Effect.{IsQuiet}
use Rattle.file_copy.specs.Comparing.{Needs, left}
use Rattle.kernel_copy.proofs.compare.run.Given as goal

-- the paths stay, what was compared so far is the same, and nothing was written
abbrev pub invariant-steps : goal.invariant-steps
invariant-steps g l = record {
  one_is : l.comparing.one ≡ l.fn.task.one;
  other_is : l.comparing.other ≡ l.fn.task.other;
  needs : (v : View) → g.F.Fs.view l.fn.fs ≡ Some v → Needs l.comparing v.now;
  quiet : IsQuiet (g.F.Fs.clock l.fn.fs) (g.F.Fs.clock l.fs) (g.F.Fs.was l.fn.fs) (g.F.Fs.was l.fs) (g.F.Fs.view l.fn.fs) (g.F.Fs.view l.fs);
  room : g.F.Fs.spare l.fn.fs ≤ g.F.Fs.spare l.fs;
  faults : g.F.Fs.faults l.fn.fs ≤ g.F.Fs.faults l.fs;
}

abbrev pub decreases-steps : goal.decreases-steps
decreases-steps g l = left l.comparing
