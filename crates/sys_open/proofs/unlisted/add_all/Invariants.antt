use Rattle.std.proofs.Common.{◌≡◌, ◌≤◌, Some}
use Rattle.fs_trait.specs.View.{View}
use Rattle.fs_trait.specs.Effect.{IsQuiet}
use Rattle.deploy_clean.specs.Unlisted.{IsUnlisted}
use Rattle.sys_open.specs.LeftOver.{Gathers}
use Rattle.sys_open.proofs.Gathering.{InFirst}
use Rattle.sys_open.proofs.unlisted.add_all.Given as goal

-- those of the stateroots that were seen to
abbrev pub invariant-loop-name : goal.invariant-loop-name
invariant-loop-name g l =
    IsQuiet (g.F.Fs.clock l.fn.fs) (g.F.Fs.clock l.fs) (g.F.Fs.was l.fn.fs) (g.F.Fs.was l.fs) (g.F.Fs.view l.fn.fs) (g.F.Fs.view l.fs)
    × (g.F.Fs.faults l.fn.fs ≤ g.F.Fs.faults l.fs)
    × ((v : View) → g.F.Fs.view l.fn.fs ≡ Some v → Gathers (IsUnlisted l.listed) (InFirst l.listed v.now l.name-items l.name-index) l.fn.found.items l.found.items)
