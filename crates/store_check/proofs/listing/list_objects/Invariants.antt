use Rattle.std.proofs.Common.{◌≡◌, ◌≤◌, Some}
use Rattle.fs_trait.specs.View.{View}
use Rattle.fs_trait.specs.Effect.{IsQuiet}
use Rattle.store_check.specs.Listing.{AreBelow}
use Rattle.store_check.proofs.listing.list_objects.Given as goal

-- the names so far are those of the lesser first bytes
abbrev pub invariant-loop-first : goal.invariant-loop-first
invariant-loop-first g l = record {
  below : (v : View) → g.F.Fs.view l.fn.fs ≡ Some v → AreBelow v.now l.first l.names.items;
  quiet : IsQuiet (g.F.Fs.clock l.fn.fs) (g.F.Fs.clock l.fs) (g.F.Fs.was l.fn.fs) (g.F.Fs.was l.fs) (g.F.Fs.view l.fn.fs) (g.F.Fs.view l.fs);
  room : g.F.Fs.spare l.fn.fs ≤ g.F.Fs.spare l.fs;
  faults : g.F.Fs.faults l.fn.fs ≤ g.F.Fs.faults l.fs;
}
