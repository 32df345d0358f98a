use Rattle.ost_objects.proofs.Makes.{commit_formed}
use Rattle.ost_objects.proofs.checked.Checked.of_commit.Goals as goal

pub named-requires : goal.named-requires
named-requires c = commit_formed _ c.args.limits.now.content _ c.commit_sums.ensures.sums c.commit_sums.ensures.time c.in_ok-bytes.ensures
