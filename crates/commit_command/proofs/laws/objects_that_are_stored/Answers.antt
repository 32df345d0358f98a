use Rattle.commit_command.proofs.Holding.{stored_of}
use Rattle.commit_command.proofs.Stored.{commit_done, commit_room, commit_stored}
use Rattle.commit_command.proofs.laws.objects_that_are_stored.Goals as goal

pub returns-clause-lacked : goal.returns-clause-lacked
returns-clause-lacked c = stored_of

pub returns-clause-room : goal.returns-clause-room
returns-clause-room c = commit_room

pub returns-clause-stored : goal.returns-clause-stored
returns-clause-stored c actor lane t new v w b f left name s sum wrote = commit_stored v w name s sum actor lane t new b f left wrote

pub returns-clause-done : goal.returns-clause-done
returns-clause-done c actor lane t new v w b f left name s sum wrote = commit_done v w name s sum actor lane t new b f left wrote
