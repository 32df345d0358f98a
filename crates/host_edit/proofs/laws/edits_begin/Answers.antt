use Rattle.host_edit.proofs.Olds.{needs_begun}
use Rattle.host_edit.proofs.laws.edits_begin.Goals as goal

pub returns : goal.returns
returns c = λ stage etc edit v may ready. needs_begun stage etc edit v may ready
