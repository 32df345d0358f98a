use Rattle.commit_durability.proofs.Lasting.{lasts_made, kept_begins, kept_on, right_opened}
use Rattle.commit_durability.proofs.laws.commits_last.Goals as goal

pub returns-clause-made : goal.returns-clause-made
returns-clause-made g c = lasts_made

pub returns-clause-begins : goal.returns-clause-begins
returns-clause-begins g c limits tree message old new v w moment act late lasts = kept_begins limits tree message g.F.Fs.clock g.F.Fs.was old new v w act moment late lasts

pub returns-clause-goes_on : goal.returns-clause-goes_on
returns-clause-goes_on g c limits tree message old new v w moment act kept = kept_on limits tree message g.F.Fs.clock g.F.Fs.was old new v w act moment kept

pub returns-clause-opened : goal.returns-clause-opened
returns-clause-opened g c = right_opened
