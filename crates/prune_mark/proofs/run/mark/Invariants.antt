use Rattle.std.proofs.Common.{◌≡◌, ◌≤◌, Some}
use Rattle.fs_trait.specs.View.{View}
use Rattle.fs_trait.specs.Effect.{IsQuiet}
use Rattle.store_check.specs.Listing.{AreAll}
use Rattle.prune_mark.specs.Marking.{Knows, left_of}
use Rattle.prune_mark.proofs.run.mark.Given as goal

-- what is known holds, and nothing was written
abbrev pub invariant-steps : goal.invariant-steps
invariant-steps g l = record {
  names_are : l.marking.names ≡ l.fn.names.items;
  depth_is : l.marking.depth ≡ l.depth;
  known : (v : View) → g.F.Fs.view l.fn.fs ≡ Some v → AreAll v.now l.fn.names.items → Knows v.now l.roots l.marking;
  quiet : IsQuiet (g.F.Fs.clock l.fn.fs) (g.F.Fs.clock l.fs) (g.F.Fs.was l.fn.fs) (g.F.Fs.was l.fs) (g.F.Fs.view l.fn.fs) (g.F.Fs.view l.fs);
  room : g.F.Fs.spare l.fn.fs ≤ g.F.Fs.spare l.fs;
  faults : g.F.Fs.faults l.fn.fs ≤ g.F.Fs.faults l.fs;
}

abbrev pub decreases-steps : goal.decreases-steps
decreases-steps g l = left_of l.marking
