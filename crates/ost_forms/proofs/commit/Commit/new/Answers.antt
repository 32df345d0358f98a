use Rattle.ost_forms.proofs.Alone.{metadata_fits, related_fits}
use Rattle.ost_forms.proofs.commit.Commit.new.Goals as goal

pub join_commit-requires-clause-metadata : goal.join_commit-requires-clause-metadata
join_commit-requires-clause-metadata c = metadata_fits _ c.new.ensures.items

pub join_commit-requires-clause-related : goal.join_commit-requires-clause-related
join_commit-requires-clause-related c = related_fits _ c.new-2.ensures.items
