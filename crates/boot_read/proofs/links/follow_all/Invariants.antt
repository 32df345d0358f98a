use Rattle.std.proofs.Common.{◌≡◌, ◌≤◌, Some}
use Rattle.fs_trait.specs.View.{View}
use Rattle.fs_trait.specs.Effect.{IsQuiet}
use Rattle.repo_layout.specs.Fixed.{number}
use Rattle.boot_read.specs.Steps.{AreTexts}
use Rattle.boot_read.proofs.Following.{FollowedSoFar}
use Rattle.boot_read.proofs.links.follow_all.Given as goal

-- the links of the entries so far were looked for
abbrev pub invariant-loop-text : goal.invariant-loop-text
invariant-loop-text g l = record {
  followed : (v : View) → g.F.Fs.view l.fn.fs ≡ Some v → AreTexts v.now (number l.loader) l.texts → FollowedSoFar v.now (number l.loader) (number l.sub) l.texts l.text-index l.all.items;
  quiet : IsQuiet (g.F.Fs.clock l.fn.fs) (g.F.Fs.clock l.fs) (g.F.Fs.was l.fn.fs) (g.F.Fs.was l.fs) (g.F.Fs.view l.fn.fs) (g.F.Fs.view l.fs);
  room : g.F.Fs.spare l.fn.fs ≤ g.F.Fs.spare l.fs;
  faults : g.F.Fs.faults l.fn.fs ≤ g.F.Fs.faults l.fs;
}
