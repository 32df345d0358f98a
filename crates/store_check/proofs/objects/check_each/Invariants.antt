use Rattle.std.proofs.Common.{◌≡◌, ◌≤◌, ◌-◌, Some, length}
use Rattle.fs_trait.specs.View.{View}
use Rattle.fs_trait.specs.Effect.{IsQuiet}
use Rattle.store_check.specs.Groups.{IsDone}
use Rattle.store_check.proofs.objects.check_each.Given as goal

-- the objects of the groups so far are what their names say, and what is kept is theirs
abbrev pub invariant-groups : goal.invariant-groups
invariant-groups g l = record {
  done : (v : View) → g.F.Fs.view l.fn.fs ≡ Some v → IsDone v.now l.limits.content l.names l.from l.kept;
  quiet : IsQuiet (g.F.Fs.clock l.fn.fs) (g.F.Fs.clock l.fs) (g.F.Fs.was l.fn.fs) (g.F.Fs.was l.fs) (g.F.Fs.view l.fn.fs) (g.F.Fs.view l.fs);
  room : g.F.Fs.spare l.fn.fs ≤ g.F.Fs.spare l.fs;
  faults : g.F.Fs.faults l.fn.fs ≤ g.F.Fs.faults l.fs;
}

abbrev pub decreases-groups : goal.decreases-groups
decreases-groups g l = length l.names - l.from
