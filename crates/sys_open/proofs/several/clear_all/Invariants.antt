use Rattle.std.proofs.Common.{◌≡◌, ◌≤◌, ◌<◌, ℕ, [], get_or, Some}
use Rattle.fs_trait.specs.View.{View}
use Rattle.fs_trait.specs.Seen.{Vacant, shows}
use Rattle.sys_open.specs.Changes.{ClearsAll, Works}
use Rattle.sys_open.proofs.several.clear_all.Given as goal

abbrev pub invariant-loop-path : goal.invariant-loop-path
invariant-loop-path g l =
    (g.F.Fs.faults l.fn.fs ≤ g.F.Fs.faults l.fs)
    × ((v : View) → g.F.Fs.view l.fn.fs ≡ Some v → Works (ClearsAll l.paths) v (g.F.Fs.clock l.fn.fs) (g.F.Fs.clock l.fs) (g.F.Fs.was l.fn.fs) (g.F.Fs.was l.fs) (g.F.Fs.view l.fs))
    × ((v : View) → g.F.Fs.view l.fn.fs ≡ Some v → (w : View) → g.F.Fs.view l.fs ≡ Some w → (k : ℕ) → k < l.path-index → shows w.now (get_or l.paths k []) ≡ Vacant)
    × (g.F.Fs.clock l.fn.fs ≤ g.F.Fs.clock l.fs)
