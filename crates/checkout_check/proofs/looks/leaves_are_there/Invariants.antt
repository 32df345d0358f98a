use Rattle.std.proofs.Common.{◌≡◌, ◌≤◌, Some, take}
use Rattle.std.specs.Prelude.{All}
use Rattle.fs_trait.specs.View.{View}
use Rattle.checkout_check.specs.Sketches.{IsThere}
use Rattle.checkout_check.proofs.looks.leaves_are_there.Given as goal

-- the objects of the pairs so far are there
abbrev pub invariant-loop-entry : goal.invariant-loop-entry
invariant-loop-entry g l = record {
  there : (v : View) → g.F.Fs.view l.fn.fs ≡ Some v → All (λ e. IsThere v.now e.1) (take l.entry-index l.entry-items);
  same : g.F.Fs.view l.fs ≡ g.F.Fs.view l.fn.fs;
  faults : g.F.Fs.faults l.fn.fs ≤ g.F.Fs.faults l.fs;
}
