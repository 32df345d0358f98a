use Rattle.std.proofs.Common.{◌≡◌, ◌≤◌, Some}
use Rattle.fs_trait.specs.View.{View}
use Rattle.fs_trait.specs.Effect.{IsQuiet}
use Rattle.checkout_compare.specs.SoFar.{IsSoFar}
use Rattle.checkout_compare.proofs.difference.first_difference.Given as goal

-- the nodes so far were looked for
abbrev pub invariant-loop-path : goal.invariant-loop-path
invariant-loop-path g l = record {
  known : (v : View) → g.F.Fs.view l.fn.fs ≡ Some v → IsSoFar v.now l.into l.nodes l.path-index l.least;
  quiet : IsQuiet (g.F.Fs.clock l.fn.fs) (g.F.Fs.clock l.fs) (g.F.Fs.was l.fn.fs) (g.F.Fs.was l.fs) (g.F.Fs.view l.fn.fs) (g.F.Fs.view l.fs);
  room : g.F.Fs.spare l.fn.fs ≤ g.F.Fs.spare l.fs;
  faults : g.F.Fs.faults l.fn.fs ≤ g.F.Fs.faults l.fs;
}
