use Rattle.std.proofs.Common.{◌≡◌, ◌≤◌, ◌<◌, ◌+◌, ◌-◌, ◌*◌, ℕ, [], length, get_or, Some}
use Rattle.fs_trait.specs.View.{View}
use Rattle.fs_trait.specs.Effect.{IsQuiet}
use Rattle.layout_rules.specs.Checks.{HoldsRefs}
use Rattle.sys_open.specs.Walk.{IsSoBelow}
use Rattle.sys_open.specs.Gathered.{AreOf, Grows, HasAllBelow}
use Rattle.sys_open.proofs.refs.+read.Given as goal

abbrev pub decreases-read_refs : goal.decreases-read_refs
decreases-read_refs g l = 2 * (80 - length l.at.now) + 1

abbrev pub decreases-read_folder : goal.decreases-read_folder
decreases-read_folder g l = 2 * (80 - length l.at.now)

abbrev pub invariant-read_folder-loop-path : goal.invariant-read_folder-loop-path
invariant-read_folder-loop-path g l =
    IsQuiet (g.F.Fs.clock l.fn.fs) (g.F.Fs.clock l.fs) (g.F.Fs.was l.fn.fs) (g.F.Fs.was l.fs) (g.F.Fs.view l.fn.fs) (g.F.Fs.view l.fs)
    × (g.F.Fs.faults l.fn.fs ≤ g.F.Fs.faults l.fs)
    × ((v : View) → g.F.Fs.view l.fn.fs ≡ Some v → (k : ℕ) → k < l.path-index → IsSoBelow (HoldsRefs v.now) (get_or l.path-items k []))
    × Grows l.fn.found.refs l.found.refs
    × ((v : View) → g.F.Fs.view l.fn.fs ≡ Some v → AreOf v.now l.fn.found.refs → AreOf v.now l.found.refs)
    × ((v : View) → g.F.Fs.view l.fn.fs ≡ Some v → (k : ℕ) → k < l.path-index → HasAllBelow v.now (get_or l.path-items k []) l.found.refs)
