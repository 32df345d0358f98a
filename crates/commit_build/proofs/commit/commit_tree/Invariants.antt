use Rattle.std.proofs.Common.{◌≡◌, ◌≤◌, Some}
use Rattle.fs_trait.specs.View.{View}
use Rattle.fs_trait.specs.Image.{Told}
use Rattle.fs_trait.specs.Effect.{LeavesEach}
use Rattle.commit_build.specs.Committing.{left}
use Rattle.commit_build.specs.Steps.{Needs}
use Rattle.commit_build.specs.Whole.{Leaves}
use Rattle.commit_build.proofs.Endings.{Known}
use Rattle.commit_build.proofs.commit.commit_tree.Given as goal

-- the next step has what it needs, and so far each crash left what it may leave
abbrev pub invariant-steps : goal.invariant-steps
invariant-steps g l = record {
  needs : (v : View) → g.F.Fs.view l.fs ≡ Some v → Needs l.task v;
  run : (v : View) → g.F.Fs.view l.fn.fs ≡ Some v
      → Told (g.F.Fs.view l.fs) (λ w. Known l.fn.task v l.fn.count l.task w l.count) × LeavesEach (g.F.Fs.clock l.fn.fs) (g.F.Fs.clock l.fs) (g.F.Fs.was l.fn.fs) (g.F.Fs.was l.fs) (Leaves l.fn.task v);
  faults : g.F.Fs.faults l.fn.fs ≤ g.F.Fs.faults l.fs;
}

abbrev pub decreases-steps : goal.decreases-steps
decreases-steps g l = left l.task
