use Rattle.std.proofs.Common.{◌≡◌, ◌≤◌, ◌-◌, Some, take}
use Rattle.sha2.specs.Hashers.{Holds256}
use Rattle.fs_trait.specs.View.{View}
use Rattle.fs_trait.specs.Effect.{IsQuiet, inode_of}
use Rattle.obj_store.proofs.too_long.sum_of_parts.Given as goal

-- the hasher has the bytes so far
abbrev pub invariant-parts : goal.invariant-parts
invariant-parts g l = record {
  holds : (v : View) → g.F.Fs.view l.fn.fs ≡ Some v → Holds256 l.hasher (take l.from (v.now.bytes (inode_of (v.now.at l.fn.at))));
  within : l.from ≤ l.fn.len;
  quiet : IsQuiet (g.F.Fs.clock l.fn.fs) (g.F.Fs.clock l.fs) (g.F.Fs.was l.fn.fs) (g.F.Fs.was l.fs) (g.F.Fs.view l.fn.fs) (g.F.Fs.view l.fs);
  room : g.F.Fs.spare l.fn.fs ≤ g.F.Fs.spare l.fs;
  faults : g.F.Fs.faults l.fn.fs ≤ g.F.Fs.faults l.fs;
}

abbrev pub decreases-parts : goal.decreases-parts
decreases-parts g l = l.fn.len - l.from
