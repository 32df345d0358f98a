use Rattle.std.proofs.Common.{◌≡◌, ◌≤◌, ◌+◌, Some}
use Rattle.fs_trait.specs.View.{View}
use Rattle.fs_trait.specs.Effect.{IsQuiet}
use Rattle.store_check.specs.Groups.{AreSoundBefore}
use Rattle.store_check.proofs.objects.check_entries.Given as goal

-- the entries so far are sound, and no call was made
abbrev pub invariant-loop-entry : goal.invariant-loop-entry
invariant-loop-entry g l = record {
  sound : (v : View) → g.F.Fs.view l.fn.fs ≡ Some v → AreSoundBefore v.now l.limits.content l._names (l._from + l.entry-index);
  quiet : IsQuiet (g.F.Fs.clock l.fn.fs) (g.F.Fs.clock l.fs) (g.F.Fs.was l.fn.fs) (g.F.Fs.was l.fs) (g.F.Fs.view l.fn.fs) (g.F.Fs.view l.fs);
  room : g.F.Fs.spare l.fn.fs ≤ g.F.Fs.spare l.fs;
  faults : g.F.Fs.faults l.fn.fs ≤ g.F.Fs.faults l.fs;
}
