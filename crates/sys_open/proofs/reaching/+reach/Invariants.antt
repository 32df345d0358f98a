use Rattle.std.proofs.Common.{◌≡◌, ◌≤◌, ◌<◌, ◌+◌, ◌-◌, ◌*◌, ℕ, [], length, get_or, Some}
use Rattle.fs_trait.specs.View.{View}
use Rattle.fs_trait.specs.Effect.{IsQuiet}
use Rattle.layout_rules.specs.Checks.{IsReached}
use Rattle.sys_open.specs.Walk.{IsSoBelow}
use Rattle.sys_open.proofs.reaching.+reach.Given as goal

abbrev pub decreases-reach : goal.decreases-reach
decreases-reach g l = 2 * (80 - length l.at.now) + 1

abbrev pub decreases-reach_folder : goal.decreases-reach_folder
decreases-reach_folder g l = 2 * (80 - length l.at.now)

abbrev pub invariant-reach_folder-loop-path : goal.invariant-reach_folder-loop-path
invariant-reach_folder-loop-path g l =
    IsQuiet (g.F.Fs.clock l.fn.fs) (g.F.Fs.clock l.fs) (g.F.Fs.was l.fn.fs) (g.F.Fs.was l.fs) (g.F.Fs.view l.fn.fs) (g.F.Fs.view l.fs)
    × (g.F.Fs.faults l.fn.fs ≤ g.F.Fs.faults l.fs)
    × ((v : View) → g.F.Fs.view l.fn.fs ≡ Some v → (k : ℕ) → k < l.path-index → IsSoBelow (IsReached v.now) (get_or l.path-items k []))
