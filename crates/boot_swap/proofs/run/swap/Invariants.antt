use Rattle.std.proofs.Common.{◌≡◌, ◌≤◌, ◌+◌, ◌*◌, ◌^◌, Some}
use Rattle.fs_trait.specs.View.{View}
use Rattle.fs_trait.specs.Image.{Told}
use Rattle.fs_trait.specs.Effect.{LeavesEach}
use Rattle.boot_swap.specs.Swap.{left, parts}
use Rattle.boot_swap.specs.Steps.{Needs}
use Rattle.boot_swap.specs.Whole.{Leaves}
use Rattle.boot_swap.proofs.Runs.{Runs}
use Rattle.boot_swap.proofs.run.swap.Given as goal

-- the next step has what it needs, and so far each crash left what it may leave
abbrev pub invariant-steps : goal.invariant-steps
invariant-steps g l = record {
  same : l.task.items ≡ l.fn.items.items;
  needs : (v : View) → g.F.Fs.view l.fs ≡ Some v → Needs l.task v;
  run : (v : View) → g.F.Fs.view l.fn.fs ≡ Some v
      → Told (g.F.Fs.view l.fs) (Runs l.fn.items.items v l.task.phase) × LeavesEach (g.F.Fs.clock l.fn.fs) (g.F.Fs.clock l.fs) (g.F.Fs.was l.fn.fs) (g.F.Fs.was l.fs) (Leaves l.fn.items.items v);
  faults : g.F.Fs.faults l.fn.fs ≤ g.F.Fs.faults l.fs;
}

abbrev pub decreases-steps : goal.decreases-steps
decreases-steps g l = parts l.task.phase * 2 ^ 128 + left l.task.phase
