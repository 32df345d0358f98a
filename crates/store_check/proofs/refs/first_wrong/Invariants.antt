use Rattle.std.proofs.Common.{◌≡◌, ◌≤◌, Some}
use Rattle.fs_trait.specs.View.{View}
use Rattle.fs_trait.specs.Effect.{IsQuiet}
use Rattle.store_check.specs.Finished.{AreFinished}
use Rattle.store_check.proofs.FirstRefs.{FirstSoFar}
use Rattle.store_check.proofs.refs.first_wrong.Given as goal

-- the first wrong ref of those so far, and the commits that are known to be finished
abbrev pub invariant-loop-entry : goal.invariant-loop-entry
invariant-loop-entry g l = record {
  first_is : (v : View) → g.F.Fs.view l.fn.fs ≡ Some v → FirstSoFar v.now l.refs l.entry-index l.first;
  finished : (v : View) → g.F.Fs.view l.fn.fs ≡ Some v → AreFinished v.now l.finished;
  quiet : IsQuiet (g.F.Fs.clock l.fn.fs) (g.F.Fs.clock l.fs) (g.F.Fs.was l.fn.fs) (g.F.Fs.was l.fs) (g.F.Fs.view l.fn.fs) (g.F.Fs.view l.fs);
  room : g.F.Fs.spare l.fn.fs ≤ g.F.Fs.spare l.fs;
  faults : g.F.Fs.faults l.fn.fs ≤ g.F.Fs.faults l.fs;
}
