use Rattle.std.proofs.Common.{◌≡◌, ◌≤◌, Some}
use Rattle.fs_trait.specs.View.{View}
use Rattle.fs_trait.specs.Effect.{IsQuiet}
use Rattle.store_check.specs.Folders.{AreKnown}
use Rattle.store_check.proofs.Firsts.{SoFar}
use Rattle.store_check.proofs.Wholes.{PassesName}
use Rattle.store_check.proofs.commits.check_trees.Given as goal

-- the commits so far are whole, and so are the folders that are known
abbrev pub invariant-loop-name : goal.invariant-loop-name
invariant-loop-name g l = record {
  whole : (v : View) → g.F.Fs.view l.fn.fs ≡ Some v → SoFar (PassesName v.now l.limits) l.name-items l.name-index;
  known : (v : View) → g.F.Fs.view l.fn.fs ≡ Some v → AreKnown v.now l.limits.content l.known;
  quiet : IsQuiet (g.F.Fs.clock l.fn.fs) (g.F.Fs.clock l.fs) (g.F.Fs.was l.fn.fs) (g.F.Fs.was l.fs) (g.F.Fs.view l.fn.fs) (g.F.Fs.view l.fs);
  room : g.F.Fs.spare l.fn.fs ≤ g.F.Fs.spare l.fs;
  faults : g.F.Fs.faults l.fn.fs ≤ g.F.Fs.faults l.fs;
}
