use Rattle.std.proofs.Common.{subst}
use Rattle.ref_command.specs.Commands.{command_refuses}
use Rattle.read_command.proofs.commits.look_up.Goals as goal

pub returns-in-Err-clause-named : goal.returns-in-Err-clause-named
returns-in-Err-clause-named g c = λ v told. subst (λ t. command_refuses t v c.in-Err.e) c.parse-parse.ensures.parse (c.in-Err.ensures.refused v told)
