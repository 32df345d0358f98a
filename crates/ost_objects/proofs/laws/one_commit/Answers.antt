use Rattle.ost_forms.proofs.Parted.{one_commit}
use Rattle.ost_objects.proofs.laws.one_commit.Goals as goal

pub returns : goal.returns
returns c = λ bytes e f. one_commit _ _ bytes c.commit_sums.ensures.time c.commit_sums-2.ensures.time e f
