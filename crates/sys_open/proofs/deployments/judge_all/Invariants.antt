use Rattle.std.proofs.Common.{◌≡◌, ◌≤◌, Some, take}
use Rattle.fs_trait.specs.View.{View}
use Rattle.fs_trait.specs.Effect.{IsQuiet}
use Rattle.tree_walk.specs.Standing.{AreRight}
use Rattle.boot_read.specs.Rows.{AreRowsOf}
use Rattle.sys_open.specs.Judged.{AreFaultsOf}
use Rattle.sys_open.proofs.deployments.judge_all.Given as goal

-- what is wrong with the rows that were judged so far
abbrev pub invariant-loop-row : goal.invariant-loop-row
invariant-loop-row g l =
    IsQuiet (g.F.Fs.clock l.fn.fs) (g.F.Fs.clock l.fs) (g.F.Fs.was l.fn.fs) (g.F.Fs.was l.fs) (g.F.Fs.view l.fn.fs) (g.F.Fs.view l.fs)
    × (g.F.Fs.faults l.fn.fs ≤ g.F.Fs.faults l.fs)
    × ((v : View) → g.F.Fs.view l.fn.fs ≡ Some v → AreRight l.limits.content v.now → AreRowsOf v.now l.rows → AreFaultsOf l.limits v.now (take l.row-index l.rows) l.faults)
