use Rattle.std.proofs.Common.{◌≡◌, ◌≤◌, ◌+◌, Some, length}
use Rattle.fs_trait.specs.View.{View}
use Rattle.fs_trait.specs.Effect.{IsQuiet}
use Rattle.store_check.specs.Groups.{AreRead}
use Rattle.store_check.proofs.group.read_group.Given as goal

-- the objects so far were read
abbrev pub invariant-loop-at : goal.invariant-loop-at
invariant-loop-at g l = record {
  read : (v : View) → g.F.Fs.view l.fn.fs ≡ Some v → AreRead v.now l.names l.fn.from l.entries.items;
  place : l.at ≡ l.fn.from + length l.entries.items;
  sized : length l.entries.items ≡ 0 → l.size ≡ 0;
  quiet : IsQuiet (g.F.Fs.clock l.fn.fs) (g.F.Fs.clock l.fs) (g.F.Fs.was l.fn.fs) (g.F.Fs.was l.fs) (g.F.Fs.view l.fn.fs) (g.F.Fs.view l.fs);
  room : g.F.Fs.spare l.fn.fs ≤ g.F.Fs.spare l.fs;
  faults : g.F.Fs.faults l.fn.fs ≤ g.F.Fs.faults l.fs;
}
