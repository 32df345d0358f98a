use Rattle.std.proofs.Common.{◌≡◌, ap}
use Rattle.clean_command.specs.declared.phase.Phase.{Phase}
use Rattle.clean_command.proofs.Ends.{learnt}
use Rattle.clean_command.proofs.command.CleanCommand.learn.Goals as goal

pub returns-in-Ok : goal.returns-in-Ok
returns-in-Ok c = learnt c.args.deployments.now c.args.self.now _ c.in-Ok.listed c.in-Unlearned.is c.in-Ok.ensures (ap (λ (p : Phase). record c.args.self.now { phase = p }) c.replace.ensures.after)
