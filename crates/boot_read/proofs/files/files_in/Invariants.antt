use Rattle.std.proofs.Common.{◌≡◌, ◌≤◌, length, Some}
use Rattle.fs_trait.specs.View.{View}
use Rattle.fs_trait.specs.Effect.{IsQuiet}
use Rattle.repo_layout.specs.Fixed.{entries_path, number}
use Rattle.boot_read.specs.Entries.{entries_limit}
use Rattle.boot_read.proofs.Entering.{FilesSoFar}
use Rattle.boot_read.proofs.files.files_in.Given as goal

-- the files so far are those of the entries among the names so far
abbrev pub invariant-loop-name : goal.invariant-loop-name
invariant-loop-name g l = record {
  folder : l.folder ≡ entries_path (number l.loader);
  files : (v : View) → g.F.Fs.view l.fn.fs ≡ Some v → FilesSoFar v.now (number l.loader) l.names l.name-index l.files.items;
  few : length l.files.items ≤ entries_limit;
  quiet : IsQuiet (g.F.Fs.clock l.fn.fs) (g.F.Fs.clock l.fs) (g.F.Fs.was l.fn.fs) (g.F.Fs.was l.fs) (g.F.Fs.view l.fn.fs) (g.F.Fs.view l.fs);
  room : g.F.Fs.spare l.fn.fs ≤ g.F.Fs.spare l.fs;
  faults : g.F.Fs.faults l.fn.fs ≤ g.F.Fs.faults l.fs;
}
