use Rattle.commit_command.proofs.Ends.{shown_of}
use Rattle.commit_command.proofs.laws.shown_commits_last.Goals as goal

pub returns : goal.returns
returns c = shown_of
