use Rattle.std.proofs.Common.{rules, ◌≤◌, ap, length}
use Rattle.repo_layout.specs.RefName.{parts_of}
use Rattle.ref_command.specs.declared.command.RefCommand.TheVariants.{Change}
use Rattle.ref_command.proofs.Ends.{removal_left}
use Rattle.ref_command.proofs.command.RefCommand.drop.Goals as goal

pub returns-clause-left : goal.returns-clause-left
returns-clause-left c =
    let few : length (parts_of c.args.name) ≤ 12 = search rules in
    removal_left _ c.args.lane c.args.name c.args.seen (ap Change c.remove.ensures) few
