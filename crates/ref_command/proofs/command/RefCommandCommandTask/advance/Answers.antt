use Rattle.std.proofs.Common.{subst}
use Rattle.ref_command.specs.Commands.{command_needs}
use Rattle.ref_command.proofs.Steps.{found_room}
use Rattle.ref_command.proofs.command.RefCommandCommandTask.advance.Goals as goal

pub returns-in_err-sync-in-Reset-clause-room : goal.returns-in_err-sync-in-Reset-clause-room
returns-in_err-sync-in-Reset-clause-room g c = rw c.in-Reset.is (found_room c.in-Reset.look.found c.in-Reset.look.commit _ _ _ _ c.sync.ensures.room)

pub advance-requires : goal.advance-requires
advance-requires g c = λ v told. subst (λ t. command_needs c.args.actor t v) c.in-Change.is (c.requires v told)

pub returns-in-Change-clause-after : goal.returns-in-Change-clause-after
returns-in-Change-clause-after g c = λ v told. rw c.in-Change.is (c.advance.ensures.after v told)
