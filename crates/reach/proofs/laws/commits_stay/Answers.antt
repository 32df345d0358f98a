use Rattle.repo_model.specs.Objects.{Stores}
use Rattle.repo_model.proofs.Stored.{stores_map}
use Rattle.reach.proofs.Parts.{commit_shown, commit_shows, commit_whole}
use Rattle.reach.proofs.laws.commits_stay.Goals as goal

pub returns-clause-shows : goal.returns-clause-shows
returns-clause-shows c = λ d e. commit_shows (Stores d) (Stores e)

pub returns-clause-whole : goal.returns-clause-whole
returns-clause-whole c = λ d e limits commit kept. commit_whole (Stores d) (Stores e) commit kept (stores_map e) limits

pub returns-clause-same : goal.returns-clause-same
returns-clause-same c = λ d e limits commit kept whole p n. (
  commit_shows (Stores d) (Stores e) commit kept p n,
  commit_shown (Stores d) (Stores e) commit kept (stores_map e) limits whole p n,
)
