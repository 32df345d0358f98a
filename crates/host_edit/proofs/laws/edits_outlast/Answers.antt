use Rattle.host_edit.proofs.Olds.{outlasts, outlasts_surely}
use Rattle.host_edit.proofs.laws.edits_outlast.Goals as goal

pub returns-clause-parent : goal.returns-clause-parent
returns-clause-parent c = λ t v d is needs image parent. outlasts t v d is needs image parent

pub returns-clause-sure : goal.returns-clause-sure
returns-clause-sure c = λ t v d is needs leads image. outlasts_surely t v d is needs image leads
