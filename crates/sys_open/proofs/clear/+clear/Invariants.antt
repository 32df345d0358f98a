use Rattle.std.proofs.Common.{◌≡◌, ◌≤◌, ◌<◌, ◌+◌, ◌-◌, ◌*◌, ℕ, [], length, get_or, Some}
use Rattle.fs_trait.specs.View.{View}
use Rattle.fs_trait.specs.Seen.{Vacant, shows}
use Rattle.sys_open.specs.Changes.{ClearsInside, Works}
use Rattle.sys_open.proofs.clear.+clear.Given as goal

abbrev pub decreases-clear : goal.decreases-clear
decreases-clear g l = 3 * (80 - length l.at.now) + 2

abbrev pub decreases-clear_folder : goal.decreases-clear_folder
decreases-clear_folder g l = 3 * (80 - length l.at.now) + 1

abbrev pub decreases-clear_inside : goal.decreases-clear_inside
decreases-clear_inside g l = 3 * (80 - length l.at.now)

abbrev pub invariant-clear_inside-loop-path : goal.invariant-clear_inside-loop-path
invariant-clear_inside-loop-path g l =
    (g.F.Fs.faults l.fn.fs ≤ g.F.Fs.faults l.fs)
    × ((v : View) → g.F.Fs.view l.fn.fs ≡ Some v → Works (ClearsInside l.at) v (g.F.Fs.clock l.fn.fs) (g.F.Fs.clock l.fs) (g.F.Fs.was l.fn.fs) (g.F.Fs.was l.fs) (g.F.Fs.view l.fs))
    × ((v : View) → g.F.Fs.view l.fn.fs ≡ Some v → (w : View) → g.F.Fs.view l.fs ≡ Some w → (k : ℕ) → k < l.path-index → shows w.now (get_or l.path-items k []) ≡ Vacant)
    × (g.F.Fs.clock l.fn.fs ≤ g.F.Fs.clock l.fs)
