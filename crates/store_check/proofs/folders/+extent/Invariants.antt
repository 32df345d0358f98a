use Rattle.std.proofs.Common.{◌≡◌, ◌≤◌, ◌+◌, ◌*◌, Some}
use Rattle.fs_trait.specs.View.{View}
use Rattle.fs_trait.specs.Effect.{IsQuiet}
use Rattle.store_check.specs.Folders.{AreKnown}
use Rattle.store_check.proofs.Folding.{FoldersSoFar}
use Rattle.store_check.proofs.folders.+extent.Given as goal

abbrev pub decreases-extent_of : goal.decreases-extent_of
decreases-extent_of g l = 3 * l.depth

abbrev pub decreases-folders_extent : goal.decreases-folders_extent
decreases-folders_extent g l = 3 * l.depth + 2

abbrev pub decreases-with_folder : goal.decreases-with_folder
decreases-with_folder g l = 3 * l.depth + 1

-- the folders so far are whole
abbrev pub invariant-folders_extent-loop-item : goal.invariant-folders_extent-loop-item
invariant-folders_extent-loop-item g l = record {
  so_far : (v : View) → g.F.Fs.view l.fn.fs ≡ Some v → FoldersSoFar v.now l.limits.content l.objects.names.items l.folders l.fn.files l.item-index l.extent;
  known : (v : View) → g.F.Fs.view l.fn.fs ≡ Some v → AreKnown v.now l.limits.content l.known;
  quiet : IsQuiet (g.F.Fs.clock l.fn.fs) (g.F.Fs.clock l.fs) (g.F.Fs.was l.fn.fs) (g.F.Fs.was l.fs) (g.F.Fs.view l.fn.fs) (g.F.Fs.view l.fs);
  room : g.F.Fs.spare l.fn.fs ≤ g.F.Fs.spare l.fs;
  faults : g.F.Fs.faults l.fn.fs ≤ g.F.Fs.faults l.fs;
}
