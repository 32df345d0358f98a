use Rattle.std.proofs.Common.{◌≡◌, ◌≤◌, Some}
use Rattle.fs_trait.specs.View.{View}
use Rattle.sys_open.specs.Changes.{ClearsStages, Works}
use Rattle.sys_open.proofs.StageClearing.{ClearFirst}
use Rattle.sys_open.proofs.stages.clear_stages.Given as goal

abbrev pub invariant-loop-actor : goal.invariant-loop-actor
invariant-loop-actor g l =
    (g.F.Fs.faults l.fn.fs ≤ g.F.Fs.faults l.fs)
    × ((v : View) → g.F.Fs.view l.fn.fs ≡ Some v → Works ClearsStages v (g.F.Fs.clock l.fn.fs) (g.F.Fs.clock l.fs) (g.F.Fs.was l.fn.fs) (g.F.Fs.was l.fs) (g.F.Fs.view l.fs))
    × ((w : View) → g.F.Fs.view l.fs ≡ Some w → ClearFirst w.now l.actor-items l.actor-index)
    × (g.F.Fs.clock l.fn.fs ≤ g.F.Fs.clock l.fs)
