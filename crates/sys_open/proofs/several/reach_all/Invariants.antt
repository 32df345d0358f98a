use Rattle.std.proofs.Common.{◌≡◌, ◌≤◌, Some}
use Rattle.fs_trait.specs.View.{View}
use Rattle.fs_trait.specs.Effect.{IsQuiet}
use Rattle.sys_open.specs.Walk.{IsLeastWrong}
use Rattle.sys_open.proofs.SeveralPaths.{AsksFirst}
use Rattle.sys_open.proofs.several.reach_all.Given as goal

-- the least of what was looked at
abbrev pub invariant-loop-path : goal.invariant-loop-path
invariant-loop-path g l =
    IsQuiet (g.F.Fs.clock l.fn.fs) (g.F.Fs.clock l.fs) (g.F.Fs.was l.fn.fs) (g.F.Fs.was l.fs) (g.F.Fs.view l.fn.fs) (g.F.Fs.view l.fs)
    × (g.F.Fs.faults l.fn.fs ≤ g.F.Fs.faults l.fs)
    × ((v : View) → g.F.Fs.view l.fn.fs ≡ Some v → IsLeastWrong (AsksFirst l.paths l.path-index v.now) l.least)
