use Rattle.host_edit.proofs.Olds.{crash_shows, crash_surely_shows, leads_still, old_or_new, same_stepped, written_on, written_once}
use Rattle.host_edit.proofs.laws.edits_show_old_or_new.Goals as goal

pub returns-clause-steps : goal.returns-clause-steps
returns-clause-steps c = λ t v w needs writes. written_once t v w needs writes

pub returns-clause-same : goal.returns-clause-same
returns-clause-same c = λ old new r stepped. same_stepped old new r stepped

pub returns-clause-on : goal.returns-clause-on
returns-clause-on c = λ old new u v w same before after. written_on old new u v w same before after

pub returns-clause-names : goal.returns-clause-names
returns-clause-names c = λ t v w s apart writes may. old_or_new t v w s apart writes may

pub returns-clause-crashes : goal.returns-clause-crashes
returns-clause-crashes c = λ t v w d apart writes image parent. crash_shows t v w d apart writes image parent

pub returns-clause-leads : goal.returns-clause-leads
returns-clause-leads c = λ t v w apart writes leads. leads_still t v w apart writes leads

pub returns-clause-sure : goal.returns-clause-sure
returns-clause-sure c = λ t v w d apart leads writes image. crash_surely_shows t v w d apart leads writes image
