use Rattle.host_edit.proofs.Keeping.{edit_lies}
use Rattle.host_edit.proofs.laws.edits_lie.Goals as goal

pub returns : goal.returns
returns c = λ t v p s needs a. edit_lies t v needs p s a
