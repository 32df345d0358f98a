use Rattle.ref_command.specs.Kept.{home_kept}
use Rattle.ref_command.proofs.Homes.{home_task}
use Rattle.ref_command.proofs.Ends.{begins_of}
use Rattle.ref_command.proofs.laws.lanes_without_a_task.Goals as goal

pub returns-clause-others : goal.returns-clause-others
returns-clause-others c = λ actor lane mine v w b b' few not other does home. home_kept b v actor lane mine not other few w b' does home

pub returns-clause-own : goal.returns-clause-own
returns-clause-own c = home_task

pub returns-clause-begins : goal.returns-clause-begins
returns-clause-begins c = begins_of
