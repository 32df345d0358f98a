use Rattle.std.proofs.Common.{◌≡◌, ◌≤◌, ℕ, Some}
use Rattle.fs_trait.specs.View.{View}
use Rattle.fs_trait.specs.Effect.{IsQuiet}
use Rattle.repo_layout.specs.Fixed.{number}
use Rattle.boot_read.specs.Steps.{AreFollowed}
use Rattle.boot_read.proofs.Owning.{OwnedSoFar}
use Rattle.boot_read.proofs.owned.owned_rows.Given as goal

-- the entries so far have deployments of their own
abbrev pub invariant-loop-followed : goal.invariant-loop-followed
invariant-loop-followed g l = record {
  owned : (v : View) (sub : ℕ) → g.F.Fs.view l.fn.fs ≡ Some v → AreFollowed v.now (number l.loader) sub l.all → OwnedSoFar v.now (number l.loader) sub l.all l.followed-index l.rows.items;
  quiet : IsQuiet (g.F.Fs.clock l.fn.fs) (g.F.Fs.clock l.fs) (g.F.Fs.was l.fn.fs) (g.F.Fs.was l.fs) (g.F.Fs.view l.fn.fs) (g.F.Fs.view l.fs);
  room : g.F.Fs.spare l.fn.fs ≤ g.F.Fs.spare l.fs;
  faults : g.F.Fs.faults l.fn.fs ≤ g.F.Fs.faults l.fs;
}
