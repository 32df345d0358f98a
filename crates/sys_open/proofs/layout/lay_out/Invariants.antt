use Rattle.std.proofs.Common.{◌≡◌, ◌≤◌, Some}
use Rattle.fs_trait.specs.View.{View}
use Rattle.sys_open.specs.Changes.{Lays, Works}
use Rattle.sys_open.proofs.Laying.{LaidFirst}
use Rattle.sys_open.proofs.layout.lay_out.Given as goal

abbrev pub invariant-loop-folder : goal.invariant-loop-folder
invariant-loop-folder g l =
    (g.F.Fs.faults l.fn.fs ≤ g.F.Fs.faults l.fs)
    × ((v : View) → g.F.Fs.view l.fn.fs ≡ Some v → Works (Lays v.now) v (g.F.Fs.clock l.fn.fs) (g.F.Fs.clock l.fs) (g.F.Fs.was l.fn.fs) (g.F.Fs.was l.fs) (g.F.Fs.view l.fs))
    × ((w : View) → g.F.Fs.view l.fs ≡ Some w → LaidFirst w.now l.folder-items l.folder-index)
    × (g.F.Fs.clock l.fn.fs ≤ g.F.Fs.clock l.fs)
