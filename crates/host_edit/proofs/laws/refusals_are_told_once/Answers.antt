use Rattle.host_edit.proofs.Judging.{told_once}
use Rattle.host_edit.proofs.laws.refusals_are_told_once.Goals as goal

pub returns : goal.returns
returns c = λ d stage at path change one other apart a b. told_once d at apart.inside path change one other a b
