use Rattle.std.proofs.Common.{◌≡◌, Some}
use Rattle.fs_trait.specs.View.{View}
use Rattle.repo_model.specs.Objects.{Stores}
use Rattle.read_command.specs.Asked.{asked}
use Rattle.read_command.specs.Commands.{Knows, read_left}
use Rattle.read_command_check.proofs.run.run_alone.Given as goal

-- nothing was written, and what the command knows is so
abbrev pub invariant-steps : goal.invariant-steps
invariant-steps g l = record {
  same : (v : View) → g.F.Fs.view l.fn.fs ≡ Some v → g.F.Fs.view l.fs ≡ Some v;
  knows : (v : View) → g.F.Fs.view l.fn.fs ≡ Some v → Knows (Stores v.now) l.command;
  asked_so : (v : View) → g.F.Fs.view l.fn.fs ≡ Some v → asked l.command ≡ asked l.fn.command;
}

abbrev pub decreases-steps : goal.decreases-steps
decreases-steps g l = read_left l.command
