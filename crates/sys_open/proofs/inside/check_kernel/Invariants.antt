use Rattle.std.proofs.Common.{◌≡◌, ◌≤◌, Some}
use Rattle.fs_trait.specs.View.{View}
use Rattle.fs_trait.specs.Effect.{IsQuiet}
use Rattle.layout_rules.specs.declared.many.Many.TheVariants.{Kernels}
use Rattle.layout_rules.specs.Checks.{AsksIn}
use Rattle.sys_open.proofs.ManyWalks.{SoFirst}
use Rattle.sys_open.proofs.inside.check_kernel.Given as goal

abbrev pub invariant-loop-name : goal.invariant-loop-name
invariant-loop-name g l =
    IsQuiet (g.F.Fs.clock l.fn.fs) (g.F.Fs.clock l.fs) (g.F.Fs.was l.fn.fs) (g.F.Fs.was l.fs) (g.F.Fs.view l.fn.fs) (g.F.Fs.view l.fs)
    × (g.F.Fs.faults l.fn.fs ≤ g.F.Fs.faults l.fs)
    × ((v : View) → g.F.Fs.view l.fn.fs ≡ Some v → SoFirst (AsksIn Kernels v.now) l.at l.name-items l.name-index)
